-- Which refusal a file gets: the first question in file order that gets a no.
use Rattle.std.specs.Prelude.{◌≡◌, ℕ, ◌+◌, Bool, if◌then◌else◌, List, [], ◌∷◌, ◌++◌, map, length, take, drop, Some, None, Option}
use Rattle.job.specs.declared.faults.Question.{Question}
use Rattle.job.specs.Layout.{Piece, written, job_pieces, Fits}

-- A question that was put to a file: which, at which place, and whether it got a yes.
pub record Put : Type 0 where
  pub question : Question
  pub place : ℕ
  pub answer : Bool

-- The questions that fields, the first at place p, put to the file s, in file order.
abbrev pub questions : List ℕ → ℕ → List Piece → List Put
questions s p [] = []
questions s p (c ∷ l) = map (λ a. record { question = a.question; place = p; answer = a.answer (drop p s) }) c.asks ++ questions s (p + length c.bytes) l

-- The first question that got a no, with its place.
abbrev pub first_no : List Put → Option (Question × ℕ)
first_no [] = None
first_no (a ∷ l) = if a.answer then first_no l else Some (a.question, a.place)

-- To the bytes s, of which a value with these fields is read, the first no is that to question q at place k.
-- Up to there the bytes are those of some value that fits; its fields put the questions.
pub record FirstNo {A : Type 0} (pieces : A → List Piece) (fits : A → Type 0) (s : List ℕ) (q : Question) (k : ℕ) : Type 0 where
  pub value : A
  pub fit : fits value
  pub begins : take k s ≡ take k (written (pieces value))
  pub no : first_no (questions s 0 (pieces value)) ≡ Some (q, k)

-- The same of a whole file.
abbrev pub FileNo : List ℕ → Question → ℕ → Type 0
FileNo = FirstNo job_pieces Fits
