-- What the answers of the calls stand for. Assumes nothing.
use Rattle.std.specs.Prelude.{ℕ, Ok, Err, Result}
use Rattle.book.specs.Book.{Answer, fine, counted, given, refused}
use Rattle.resolver.specs.declared.answers.Taken.{Taken}
use Rattle.resolver.specs.declared.answers.Refusal.{Refusal}
use Rattle.resolver.specs.declared.answers.Refusal.TheVariants.{OutOfRange, ShortTable, Closed, NoRungLeft, NoPose, TooManyPoses, StillOpen, ShortOutput, RationSpent, NoTrackLeft}

-- the number of the question that got a no
abbrev pub number : Refusal → ℕ
number OutOfRange = 1
number ShortTable = 2
number Closed = 3
number NoRungLeft = 4
number NoPose = 5
number TooManyPoses = 6
number StillOpen = 7
number ShortOutput = 8
number RationSpent = 9
number NoTrackLeft = 10

-- the answer of the sizes call
abbrev pub size_answer : {T V : Type 0} → Result T Refusal → Answer V
size_answer (Ok t) = fine
size_answer (Err e) = refused (number e)

-- the answer of adding and closing: the rung count
abbrev pub count_answer : {V : Type 0} → Result ℕ Refusal → Answer V
count_answer (Ok n) = counted n
count_answer (Err e) = refused (number e)

-- the answer of next: the track's number and cost
abbrev pub track_answer : {V : Type 0} → Result (Taken V) Refusal → Answer V
track_answer (Ok t) = given t.number t.cost
track_answer (Err e) = refused (number e)
