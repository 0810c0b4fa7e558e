-- How the bytes of a job file are read, place by place. The contract of `read` ties it to the layout.
use Rattle.std.specs.Prelude.{ℕ, zero, suc, ◌+◌, ◌*◌, Bool, if◌then◌else◌, ◌&&◌, List, [], ◌∷◌, length, take, drop, ℤ, Some, None, Option, ◌==◌, nat_le, slice_index}
use Rattle.job.specs.declared.faults.Question.{Question}
use Rattle.job.specs.declared.faults.Question.TheVariants.{Letters, Map, Whole, Range, End}
use Rattle.ladder.specs.declared.poses.Limits.{Limits}
use Rattle.job.specs.declared.values.Arm.{Arm}
use Rattle.ladder.specs.declared.poses.Pose.{Pose}
use Rattle.job.specs.Bytes.{byte_at, word_at, signed_word_at, poses_of_bytes, between, stands, lacks}
use Rattle.job.specs.Contents.{Entry, Head, Contents}

-- A value and the place after it, or the question that got a no and its place.
pub data Out (A : Type 0) : Type 0 where
  got : A → ℕ → Out A
  fault : Question → ℕ → Out A

-- What is read next, from the place after a value; a refusal stays.
abbrev pub and_then : {A B : Type 0} → Out A → (A → ℕ → Out B) → Out B
and_then (got a q) f = f a q
and_then (fault n p) f = fault n p

-- What is read from the bytes s at place p.
abbrev pub Read : Type 0 → Type 0
Read A = List ℕ → ℕ → Out A

-- A field of k bytes that means `value`.
abbrev pub whole : {A : Type 0} → ℕ → (List ℕ → ℕ → A) → Read A
whole k value s p = if nat_le (p + k) (length s) then got (value s p) (p + k) else fault Whole p

-- Only values that pass a test; another gets a no to the question, at its first byte.
abbrev pub only : {A : Type 0} → Question → (A → Bool) → Read A → Read A
only q ok r s p = and_then (r s p) (λ a e. if ok a then got a e else fault q p)

-- There only if b.
abbrev pub opt : {A : Type 0} → Bool → Read A → Read (Option A)
opt b r s p = if b then and_then (r s p) (λ a q. got (Some a) q) else got None p

-- One after the other.
abbrev pub pair : {A B : Type 0} → Read A → Read B → Read (A × B)
pair f g s p = and_then (f s p) (λ a q. and_then (g s q) (λ b r. got (a, b) r))

-- A head, and what it says of the body.
abbrev pub under : {A B : Type 0} → Read A → (A → Read B) → Read B
under f g s p = and_then (f s p) (λ a q. g a s q)

-- n of them.
abbrev pub many : {A : Type 0} → ℕ → Read A → Read (List A)
many zero r s p = got [] p
many (suc n) r s p = and_then (r s p) (λ a q. and_then (many n r s q) (λ l e. got (a ∷ l) e))

-- The same, as another type.
abbrev pub via : {A B : Type 0} → (A → B) → Read A → Read B
via f r s p = and_then (r s p) (λ a q. got (f a) q)

-- A byte.
abbrev pub byte : Read ℕ
byte = whole 1 byte_at

-- An unsigned number of two bytes.
abbrev pub word : Read ℕ
word = whole 2 word_at

-- A signed number of two bytes.
abbrev pub signed : Read ℤ
signed = whole 2 signed_word_at

-- A part of n bytes, with its place.
abbrev pub chunk : ℕ → Read (ℕ × List ℕ)
chunk n = whole n (λ s p. (p, take n (drop p s)))

-- A number from low to high.
abbrev pub ranged : ℕ → ℕ → Read ℕ
ranged low high = only Range (between low high) word

-- A pose list after its count.
abbrev pub poses : Read (List Pose)
poses = under (only Range (between 1 16) byte) (λ n. via (λ c. poses_of_bytes c.1) (chunk (n * 4)))

-- A note after its length.
abbrev pub note : Read (List ℕ)
note = under byte (λ n. via (λ c. c.1) (chunk n))

-- A record of its four values.
abbrev pub to_entry : Option ℤ × (Option ℤ × (Option (List Pose) × Option (List ℕ))) → Entry
to_entry c = record { x = c.0; y = c.1.0; poses = c.1.1.0; note = c.1.1.1 }

-- The fields that a record's map m names.
abbrev pub entry_fields : ℕ → Read Entry
entry_fields m = via to_entry (pair (opt (stands m 1) signed) (pair (opt (stands m 2) signed) (pair (opt (stands m 4) poses) (opt (stands m 8) note))))

-- A record.
abbrev pub entry : Read Entry
entry = under (only Map (lacks 240) byte) entry_fields

-- Do the letters TLAD lie at place p?
abbrev pub letters_at : List ℕ → ℕ → Bool
letters_at s p = nat_le (p + 4) (length s) && (slice_index s p == 84 && (slice_index s (p + 1) == 76 && (slice_index s (p + 2) == 65 && slice_index s (p + 3) == 68)))

-- The letters TLAD.
abbrev pub letters : Read (Unit {0})
letters s p = if letters_at s p then got tt (p + 4) else fault Letters p

-- The letters and the map.
abbrev pub opening : Read ℕ
opening = under letters (λ _. only Map (lacks 248) byte)

-- Step limits of two numbers, the shoulder first.
abbrev pub to_limits : ℕ × ℕ → Limits
to_limits c = record { shoulder = c.0; elbow = c.1 }

-- Step limits.
abbrev pub limits : Read Limits
limits = via to_limits (pair word word)

-- An arm of its three numbers.
abbrev pub to_arm : ℕ × (ℕ × ℕ) → Arm
to_arm c = record { first = c.0; second = c.1.0; window = c.1.1 }

-- The numbers of an arm.
abbrev pub arm : Read Arm
arm = via to_arm (pair (ranged 1 2000) (pair (ranged 1 2000) (ranged 0 2000)))

-- A ration.
abbrev pub ration : Read ℕ
ration = ranged 1 4096

-- A header of its three values, with the count of records.
abbrev pub to_head : Option Limits × (Option Arm × (Option ℕ × ℕ)) → Head × ℕ
to_head c = (record { limits = c.0; arm = c.1.0; ration = c.1.1.0 }, c.1.1.1)

-- The fields that the header's map m names, and the count of records.
abbrev pub head_fields : ℕ → Read (Head × ℕ)
head_fields m = via to_head (pair (opt (stands m 1) limits) (pair (opt (stands m 2) arm) (pair (opt (stands m 4) ration) (ranged 0 128))))

-- All that stands before the records, with their count.
abbrev pub heading : Read (Head × ℕ)
heading = under opening head_fields

-- A job.
abbrev pub contents : Read Contents
contents = under heading (λ h. via (λ l. record { head = h.0; records = l }) (many h.1 entry))

-- A whole file: a job, and nothing after it.
abbrev pub file_out : List ℕ → Out Contents
file_out s = and_then (contents s 0) (λ j q. if q == length s then got j q else fault End q)

-- The value that was read, if any.
abbrev pub accepted : {A : Type 0} → Out A → Option A
accepted (got a q) = Some a
accepted (fault n p) = None

-- The job that the bytes of a file say; none where they are refused.
abbrev pub job_of : List ℕ → Option Contents
job_of s = accepted (file_out s)
