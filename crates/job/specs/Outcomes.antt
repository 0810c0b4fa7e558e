-- What the reader answers.
use Rattle.std.specs.Prelude.{◌≡◌, ℕ, ◌+◌, ◌<◌, ◌≤◌, List, length, take, drop, Some, None, Ok, Err, Option, Result, ◌≢◌}
use Rattle.job.specs.declared.faults.Question.{Question}
use Rattle.job.specs.declared.faults.Fault.{Fault}
use Rattle.job.specs.declared.header.Header.{Header}
use Rattle.job.specs.declared.records.Record.{Record}
use Rattle.job.specs.declared.reader.Records.{Records}
use Rattle.job.specs.declared.jobs.Job.{Job}
use Rattle.job.specs.Contents.{Head, Contents}
use Rattle.job.specs.Layout.{Piece, written, head_pieces, entry_pieces, encode, HeadFits, EntryFits, Fits}
use Rattle.job.specs.Refusals.{FirstNo, FileNo}
use Rattle.job.specs.Reading.{job_of}
use Rattle.job.specs.Resolved.{resolved}
use Rattle.job.specs.Jobs.{view}
use Rattle.job.specs.Views.{head_v, record_v}

-- The file s is that of one job that fits, and of no other; no question gets a no, and the answer has that job's values.
pub record Accepted (s : List ℕ) (answer : Job) : Type 0 where
  pub job : Contents
  pub fits : Fits job
  pub bytes : s ≡ encode job
  pub one : (other : Contents) → Fits other → s ≡ encode other → other ≡ job
  pub free : (q : Question) (k : ℕ) → FileNo s q k → ⊥
  pub said : job_of s ≡ Some job
  pub values : view answer ≡ resolved job

-- The file s is that of no job that fits; the refusal is the first question in file order that gets a no, at its place.
pub record Refused (s : List ℕ) (answer : Fault) : Type 0 where
  pub none : (other : Contents) → Fits other → s ≢ encode other
  pub first : FileNo s answer.question answer.place
  pub one : (q : Question) (k : ℕ) → FileNo s q k → (q ≡ answer.question) × (k ≡ answer.place)
  pub said : job_of s ≡ None

-- The bytes s begin with the n bytes of the value a, which fits.
pub record Begins {A : Type 0} (pieces : A → List Piece) (fits : A → Type 0) (s : List ℕ) (a : A) (n : ℕ) : Type 0 where
  pub fit : fits a
  pub size : n ≡ length (written (pieces a))
  pub bytes : take n s ≡ written (pieces a)

-- The fields before the records, and what they can hold: a header and the count of records.
abbrev pub opening_pieces : Head × ℕ → List Piece
opening_pieces c = head_pieces c.0 c.1

-- A header and a count of records that a file can hold.
abbrev pub OpeningFits : Head × ℕ → Type 0
OpeningFits c = HeadFits c.0 × (c.1 ≤ 128)

-- What is answered where the header of the file s is read: what the file begins with, or the first no.
abbrev pub Opened : List ℕ → Result (Header × Records) Fault → Type 0
Opened s (Ok t) = Begins opening_pieces OpeningFits s (head_v t.0, t.1.left) t.1.cursor.at
Opened s (Err e) = FirstNo opening_pieces OpeningFits s e.question e.place

-- What is answered where one more of n records of the file s is read at place p, and the reader then stands at q:
-- none where none is left, the record that lies from p to q, or the first no of a record at p.
abbrev pub Next : List ℕ → ℕ → ℕ → ℕ → Result (Option Record) Fault → Type 0
Next s n p q (Ok None) = n ≡ 0
Next s n p q (Ok (Some r)) = (0 < n) × ((m : ℕ) × (q ≡ p + m) × Begins entry_pieces EntryFits (drop p s) (record_v r) m)
Next s n p q (Err e) = (0 < n) × ((m : ℕ) × (e.place ≡ p + m) × FirstNo entry_pieces EntryFits (drop p s) e.question m)

-- What `read` answers on the file s.
abbrev pub Outcome : List ℕ → Result Job Fault → Type 0
Outcome s (Ok j) = Accepted s j
Outcome s (Err e) = Refused s e
