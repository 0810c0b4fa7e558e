-- What the reader's types stand for.
use Rattle.std.specs.Prelude.{◌≡◌, ℕ, ◌+◌, ◌≤◌, List, [], ◌∷◌, ◌++◌, length, take, drop, ℤ, IfSome, Some, None, Ok, Err, Option, Result}
use Rattle.std.specs.Option.{option_map, option_to_list}
use Rattle.job.specs.declared.records.Field.{Field}
use Rattle.job.specs.declared.records.Field.TheVariants.{X, Y, Poses, Note}
use Rattle.job.specs.declared.faults.Fault.{Fault}
use Rattle.job.specs.declared.cursor.Part.{Part}
use Rattle.job.specs.declared.records.Record.{Record}
use Rattle.job.specs.declared.cursor.Cursor.{Cursor}
use Rattle.job.specs.declared.reader.Records.{Records}
use Rattle.job.specs.declared.header.Header.{Header}
use Rattle.job.specs.Contents.{Entry, Head}
use Rattle.job.specs.Reading.{Out, got, fault, Read}
use Rattle.job.specs.Bytes.{poses_of_bytes}

-- What was answered, with the place q at which the reader then stands.
abbrev pub answer : {T A : Type 0} → (T → A) → Result T Fault → ℕ → Out A
answer f (Ok t) q = got (f t) q
answer f (Err e) q = fault e.question e.place

-- A call took the cursor from old to new: it answered as r reads the file at the old place, and stays in the file.
pub record Reads {T A : Type 0} (f : T → A) (r : Read A) (old new : Cursor) (result : Result T Fault) : Type 0 where
  pub said : answer f result new.at ≡ r old.file.now old.at
  pub file : new.file ≡ old.file

-- What an optional call answered, where `called r c` says that the call answers r and leaves the cursor at c.
abbrev pub IsRead : {T : Type 0} → (Result T Fault → Cursor → Type 0) → Result (Option T) Fault → Cursor → Type 0
IsRead called (Ok None) c = ⊥
IsRead called (Ok (Some t)) c = called (Ok t) c
IsRead called (Err e) c = called (Err e) c

-- A part by its place and bytes.
abbrev pub part_v : Part → ℕ × List ℕ
part_v p = (p.place, p.bytes.now)

-- A record that was read, with its poses and its note as lists.
abbrev pub record_v : Record → Entry
record_v r = record { x = r.x; y = r.y; poses = option_map (λ p. poses_of_bytes p.bytes.now) r.poses; note = option_map (λ p. p.bytes.now) r.note }

-- How many bytes an optional number takes.
abbrev pub two : {A : Type 0} → Option A → ℕ
two None = 0
two (Some z) = 2

-- How many bytes an optional part takes, with the byte that counts it.
abbrev pub part_size : Option Part → ℕ
part_size None = 0
part_size (Some p) = 1 + length p.bytes.now

-- A part holds the bytes of the file s that lie at its place.
pub record Lies (s : List ℕ) (p : Part) : Type 0 where
  pub bytes : p.bytes.now ≡ take (length p.bytes.now) (drop p.place s)
  pub room : p.place + length p.bytes.now ≤ length s

-- An optional part lies at the given place of the file s.
abbrev pub Placed : List ℕ → ℕ → Option Part → Type 0
Placed s at o = IfSome o (λ p. (p.place ≡ at) × Lies s p)

-- The parts of a record whose map byte lies at place p lie after the map, the fields before them and their own count.
pub record Places (s : List ℕ) (p : ℕ) (r : Record) : Type 0 where
  pub poses : Placed s (p + 1 + two r.x + two r.y + 1) r.poses
  pub note : Placed s (p + 1 + two r.x + two r.y + part_size r.poses + 1) r.note

-- A field as it is handed out, a part by its place and bytes.
pub data Handed : Type 0 where
  an_x : ℤ → Handed
  a_y : ℤ → Handed
  a_list : ℕ × List ℕ → Handed
  a_note : ℕ × List ℕ → Handed

-- A field that was handed out.
abbrev pub field_v : Field → Handed
field_v (X x) = an_x x
field_v (Y y) = a_y y
field_v (Poses p) = a_list (part_v p)
field_v (Note p) = a_note (part_v p)

-- The fields that a record still has to hand out, in bit order.
abbrev pub unhanded : Record → List Handed
unhanded r = option_to_list (option_map an_x r.x) ++ (option_to_list (option_map a_y r.y) ++ (option_to_list (option_map (λ p. a_list (part_v p)) r.poses) ++ option_to_list (option_map (λ p. a_note (part_v p)) r.note)))

-- The first of a list, or none where it is empty.
abbrev pub first_of : {A : Type 0} → List A → Option A
first_of [] = None
first_of (a ∷ l) = Some a

-- All but the first of a list.
abbrev pub rest_of : {A : Type 0} → List A → List A
rest_of [] = []
rest_of (a ∷ l) = l

-- A header that was read.
abbrev pub head_v : Header → Head
head_v h = record { limits = h.limits; arm = h.arm; ration = h.ration }

-- The letters and map, and the place after them.
abbrev pub begun : Result (ℕ × Cursor) Fault → Out ℕ
begun (Ok t) = got t.0 t.1.at
begun (Err e) = fault e.question e.place

-- The header and the count of records, and the place of the first.
abbrev pub opened : Result (Header × Records) Fault → Out (Head × ℕ)
opened (Ok t) = got (head_v t.0, t.1.left) t.1.cursor.at
opened (Err e) = fault e.question e.place

-- P where no record was answered.
abbrev pub Without : Result (Option Record) Fault → Type 0 → Type 0
Without (Ok None) P = P
Without (Ok (Some r)) P = Unit {0}
Without (Err e) P = P

-- One where a record was answered, else 0.
abbrev pub taken : Result (Option Record) Fault → ℕ
taken (Ok None) = 0
taken (Ok (Some r)) = 1
taken (Err e) = 0
