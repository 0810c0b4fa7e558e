-- What the contracts of the calls say, and what follows from them of every chain of calls. Assumes nothing.
use Rattle.std.specs.Prelude.{◌≡◌, ℕ, ◌<◌, true, false, ◌⊎◌, List, [], ◌∷◌, Result}
use Rattle.ladder.specs.declared.poses.Step.{Step}
use Rattle.ladder.specs.Rules.{Rules}
use Rattle.ladder.specs.Tracks.{Rung}
use Rattle.book.specs.Book.{Book, Filter, add, close, next, seek, outcome}
use Rattle.book.specs.Runs.{Event, Promised}
use Rattle.resolver.specs.declared.answers.Taken.{Taken}
use Rattle.resolver.specs.declared.answers.Refusal.{Refusal}
use Rattle.resolver.specs.declared.answers.Refusal.TheVariants.{StillOpen, ShortOutput}
use Rattle.resolver.specs.declared.tables.Core.{Core}
use Rattle.resolver.specs.Answers.{count_answer, track_answer}
use Rattle.resolver.specs.Standing.{book}

-- the event of a run that adding a source's list is
abbrev pub added : {C : Type 0} → Rung → Result ℕ Refusal → Event C
added list r = record { call = add list; answer = count_answer r; output = [] }

-- that of closing
abbrev pub closed_so : {C : Type 0} → Result ℕ Refusal → Event C
closed_so r = record { call = close; answer = count_answer r; output = [] }

-- that of next, with an output before and after
abbrev pub nexted : {C : Type 0} → List Step → Result (Taken C) Refusal → List Step → Event C
nexted before r after = record { call = next before; answer = track_answer r; output = after }

-- that of seeking, with an output before and after
abbrev pub sought : {C : Type 0} → Filter → List Step → Result (Taken C) Refusal → List Step → Event C
sought f before r after = record { call = seek f before; answer = track_answer r; output = after }

-- the call e takes a resolver that holds k to one that holds m: the answer, the output and the book after are those of the plain book
abbrev pub Makes : {C P : Type 0} → Rules C P → Core C → Event C → Core C → Type 0
Makes c k e m = record { answer = e.answer; output = e.output; book = book m } ≡ outcome c (book k) e.call

-- the calls es, made one after another from k on, each finding what the one before left
abbrev pub Chain : {C P : Type 0} → Rules C P → Core C → List (Event C) → Type 0
Chain c k [] = Unit {0}
Chain {C} c k (e ∷ es) = (m : Core C) × Makes c k e m × Chain c m es

-- every chain of calls from k on is a run from the book b that keeps what is promised
abbrev pub KeepsPromise : {C P : Type 0} → Rules C P → Book → Core C → Type 0
KeepsPromise {C} c b k = (es : List (Event C)) → Chain c k es → Promised c b es

-- why no track can be asked for
abbrev pub Unready : {C : Type 0} → Core C → ℕ → Refusal → Type 0
Unready k places e = ((e ≡ StillOpen) × (k.closed ≡ false)) ⊎ ((e ≡ ShortOutput) × (k.closed ≡ true) × (places < k.rungs))
