-- The number of each question that the reader puts to a file.
use Rattle.std.specs.Prelude.{ℕ}
use Rattle.job.specs.declared.faults.Question.{Question}
use Rattle.job.specs.declared.faults.Question.TheVariants.{Letters, Map, Whole, Range, End}

-- The number by which a question is reported.
abbrev pub number : Question → ℕ
number Letters = 11
number Map = 12
number Whole = 13
number Range = 14
number End = 15
