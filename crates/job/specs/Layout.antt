-- The layout of a job file: the fields of a job in file order, their bytes, and what each asks of the file.
use Rattle.std.specs.Prelude.{ℕ, ◌+◌, ◌<◌, ◌≤◌, Bool, ◌&&◌, List, [], ◌∷◌, ◌++◌, length, ℤ, is_some, IfSome, Some, None, Option, FitsSigned, ◌==◌, nat_le, slice_index}
use Rattle.std.specs.Int.{w16}
use Rattle.std.specs.List.{flat_map, AllByRecursion}
use Rattle.job.specs.declared.faults.Question.{Question}
use Rattle.job.specs.declared.faults.Question.TheVariants.{Letters, Map, Whole, Range, End}
use Rattle.job.specs.Bytes.{byte_at, word_at, word_bytes, signed_bytes, pose_bytes, between, lacks, bit}
use Rattle.job.specs.Contents.{Entry, Head, Contents}

-- A question that a field asks of the bytes from its place on.
pub record Ask : Type 0 where
  pub question : Question
  pub answer : List ℕ → Bool

-- A field of a file: its bytes, and what it asks, in order.
pub record Piece : Type 0 where
  pub bytes : List ℕ
  pub asks : List Ask

-- Are n bytes there?
abbrev pub has : ℕ → Ask
has n = record { question = Whole; answer = λ rest. nat_le n (length rest) }

-- Are the first four bytes the letters T, L, A, D?
abbrev pub lettered : List ℕ → Bool
lettered rest = nat_le 4 (length rest) && (slice_index rest 0 == 84 && (slice_index rest 1 == 76 && (slice_index rest 2 == 65 && slice_index rest 3 == 68)))

-- The letters.
abbrev pub the_letters : Piece
the_letters = record { bytes = 84 ∷ (76 ∷ (65 ∷ (68 ∷ []))); asks = record { question = Letters; answer = lettered } ∷ [] }

-- A map, with no bit of the mask.
abbrev pub a_map : ℕ → ℕ → Piece
a_map mask m = record { bytes = m ∷ []; asks = has 1 ∷ (record { question = Map; answer = λ rest. lacks mask (byte_at rest 0) } ∷ []) }

-- A number of 16 bits.
abbrev pub a_word : ℕ → Piece
a_word n = record { bytes = word_bytes n; asks = has 2 ∷ [] }

-- A number of 16 bits from low to high.
abbrev pub a_number : ℕ → ℕ → ℕ → Piece
a_number low high n = record { bytes = word_bytes n; asks = has 2 ∷ (record { question = Range; answer = λ rest. between low high (word_at rest 0) } ∷ []) }

-- A signed number of 16 bits.
abbrev pub a_signed : ℤ → Piece
a_signed z = record { bytes = signed_bytes z; asks = has 2 ∷ [] }

-- A count of poses, in one byte.
abbrev pub a_count : ℕ → Piece
a_count n = record { bytes = n ∷ []; asks = has 1 ∷ (record { question = Range; answer = λ rest. between 1 16 (byte_at rest 0) } ∷ []) }

-- The length of a note, in one byte.
abbrev pub a_length : ℕ → Piece
a_length n = record { bytes = n ∷ []; asks = has 1 ∷ [] }

-- The bytes of a pose list or of a note, as one field.
abbrev pub a_part : List ℕ → Piece
a_part l = record { bytes = l; asks = has (length l) ∷ [] }

-- The end of the file.
abbrev pub the_end : Piece
the_end = record { bytes = []; asks = record { question = End; answer = λ rest. (length rest == 0) } ∷ [] }

-- The fields of a value that is there or not.
abbrev pub optional : {A : Type 0} → (A → List Piece) → Option A → List Piece
optional f None = []
optional f (Some a) = f a

-- The map of a record: a bit for each value that is there.
abbrev pub entry_map : Entry → ℕ
entry_map e = bit (is_some e.x) 1 + bit (is_some e.y) 2 + bit (is_some e.poses) 4 + bit (is_some e.note) 8

-- The fields of a record: map, x, y, pose list after its count, note after its length.
abbrev pub entry_pieces : Entry → List Piece
entry_pieces e =
    a_map 240 (entry_map e) ∷ (optional (λ x. a_signed x ∷ []) e.x
    ++ (optional (λ y. a_signed y ∷ []) e.y
    ++ (optional (λ l. a_count (length l) ∷ (a_part (flat_map pose_bytes l) ∷ [])) e.poses
    ++ optional (λ l. a_length (length l) ∷ (a_part l ∷ [])) e.note)))

-- The map of the header.
abbrev pub head_map : Head → ℕ
head_map h = bit (is_some h.limits) 1 + bit (is_some h.arm) 2 + bit (is_some h.ration) 4

-- The fields before the n records: letters, map, step limits, arm, ration, count of records.
abbrev pub head_pieces : Head → ℕ → List Piece
head_pieces h n =
    the_letters ∷ (a_map 248 (head_map h) ∷ (optional (λ l. a_word l.shoulder ∷ (a_word l.elbow ∷ [])) h.limits
    ++ (optional (λ a. a_number 1 2000 a.first ∷ (a_number 1 2000 a.second ∷ (a_number 0 2000 a.window ∷ []))) h.arm
    ++ (optional (λ k. a_number 1 4096 k ∷ []) h.ration
    ++ a_number 0 128 n ∷ []))))

-- All fields of a job, and the end.
abbrev pub job_pieces : Contents → List Piece
job_pieces j = (head_pieces j.head (length j.records) ++ flat_map entry_pieces j.records) ++ the_end ∷ []

-- The bytes of some fields.
abbrev pub written : List Piece → List ℕ
written = flat_map (λ c. c.bytes)

-- The bytes of a job.
abbrev pub encode : Contents → List ℕ
encode j = written (job_pieces j)

-- The values that a record can hold.
pub record EntryFits (e : Entry) : Type 0 where
  pub x : IfSome e.x (FitsSigned w16)
  pub y : IfSome e.y (FitsSigned w16)
  pub poses : IfSome e.poses (λ l. (1 ≤ length l) × (length l ≤ 16) × AllByRecursion (λ c. FitsSigned w16 c.shoulder × FitsSigned w16 c.elbow) l)
  pub note : IfSome e.note (λ l. (length l < 256) × AllByRecursion (λ b. b < 256) l)

-- The values that a header can hold.
pub record HeadFits (h : Head) : Type 0 where
  pub limits : IfSome h.limits (λ l. (l.shoulder < 65536) × (l.elbow < 65536))
  pub arm : IfSome h.arm (λ a. (1 ≤ a.first) × (a.first ≤ 2000) × (1 ≤ a.second) × (a.second ≤ 2000) × (a.window ≤ 2000))
  pub ration : IfSome h.ration (λ k. (1 ≤ k) × (k ≤ 4096))

-- The values that a job can hold.
pub record Fits (j : Contents) : Type 0 where
  pub head : HeadFits j.head
  pub few : length j.records ≤ 128
  pub records : AllByRecursion EntryFits j.records
