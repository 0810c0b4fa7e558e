-- The plain book of a resolver: what each call answers, writes and changes. Assumes nothing.
use Rattle.std.specs.Prelude.{ℕ, ◌+◌, ◌*◌, Bool, true, false, if◌then◌else◌, not, ◌&&◌, List, [], ◌∷◌, ◌++◌, length, drop, nat_le, nat_lt, slice_index_or}
use Rattle.ladder.specs.declared.poses.Step.{Step}
use Rattle.ladder.specs.declared.poses.Limits.{Limits}
use Rattle.ladder.specs.Rules.{Rules}
use Rattle.ladder.specs.Tracks.{Rung, Ladder, Track, steps, cost}
use Rattle.ladder.specs.Listed.{tracks_of}

-- what is fixed at opening (the step limits, how many rungs and how many taken tracks there may be), and what calls change: the rungs, the last first; closed or not; how many tracks of the list are taken, from its first
pub record Book : Type 0 where
  pub limits : Limits
  pub rung_limit : ℕ
  pub ration : ℕ
  pub rungs : Ladder
  pub closed : Bool
  pub taken : ℕ

-- an answer: a plain yes, a rung count, a track's number in the list with its cost, or the number of the question that got a no
pub data Answer (V : Type 0) : Type 0 where
  fine : Answer V
  counted : ℕ → Answer V
  given : ℕ → V → Answer V
  refused : ℕ → Answer V

-- what a call comes to: its answer, what its output holds then (nothing where it has none), and the book then
pub record Outcome (V : Type 0) : Type 0 where
  pub answer : Answer V
  pub output : List Step
  pub book : Book

-- questions in their order, each with its number: the first no answers its number, and where there is none the answer is a
abbrev pub first_no : {V : Type 0} → List (Bool × ℕ) → Answer V → Answer V
first_no [] a = a
first_no (q ∷ qs) a = if q.0 then first_no qs a else refused q.1

-- the answer is no refusal
abbrev pub accepted : {V : Type 0} → Answer V → Bool
accepted fine = true
accepted (counted n) = true
accepted (given k v) = true
accepted (refused n) = false

-- n is from low to high
abbrev pub from_to : ℕ → ℕ → ℕ → Bool
from_to low high n = nat_le low n && nat_le n high

-- the sizes call, from a rung limit, a ration and the lengths of the three tables
abbrev pub sizing : {V : Type 0} → ℕ → ℕ → ℕ → ℕ → ℕ → Answer V
sizing limit ration poses ranked candidates =
    first_no ((from_to 1 128 limit && from_to 1 4096 ration, 1) ∷ (nat_le (16 * limit) poses && (nat_le (16 * limit + ration * limit) ranked && nat_le (256 * limit) candidates), 2) ∷ []) fine

-- a new book: no rung, open, nothing taken
abbrev pub new_book : Limits → ℕ → ℕ → Book
new_book l limit ration = record { limits = l; rung_limit = limit; ration = ration; rungs = []; closed = false; taken = 0 }

-- the book that opening makes: numbers and tables that the sizes call refuses give a rung limit of 0 and a ration of 1
abbrev pub opened : Limits → ℕ → ℕ → ℕ → ℕ → ℕ → Book
opened l limit ration poses ranked candidates =
    if accepted (sizing {V = ℕ} limit ration poses ranked candidates) then new_book l limit ration else new_book l 0 1

-- the book with one rung more
abbrev pub with_rung : Book → Rung → Book
with_rung b r = record b { rungs = r ∷ b.rungs }

-- the book, closed
abbrev pub shut : Book → Book
shut b = record b { closed = true }

-- the book with one track more taken
abbrev pub one_taken : Book → Book
one_taken b = record b { taken = b.taken + 1 }

-- what adding a rung from a source's list answers
abbrev pub add_answer : {V : Type 0} → Book → Rung → Answer V
add_answer b r =
    first_no ((not b.closed, 3) ∷ (nat_lt (length b.rungs) b.rung_limit, 4) ∷ (nat_lt 0 (length r), 5) ∷ (nat_le (length r) 16, 6) ∷ []) (counted (length b.rungs + 1))

-- adding: an accepted one appends its rung
abbrev pub adding : {V : Type 0} → Book → Rung → Outcome V
adding {V} b r = record { answer = add_answer b r; output = []; book = if accepted (add_answer {V = V} b r) then with_rung b r else b }

-- what closing answers
abbrev pub close_answer : {V : Type 0} → Book → Answer V
close_answer b = first_no ((not b.closed, 3) ∷ []) (counted (length b.rungs))

-- closing: an accepted one closes
abbrev pub closing : {V : Type 0} → Book → Outcome V
closing {V} b = record { answer = close_answer b; output = []; book = if accepted (close_answer {V = V} b) then shut b else b }

-- steps written to the first places of an output; the later places stay
abbrev pub written : List Step → List Step → List Step
written ss out = ss ++ drop (length ss) out

-- what next answers, where ts is the list of the ladder: its first untaken track
abbrev pub next_answer : {V P : Type 0} → Rules V P → Book → List Track → ℕ → Answer V
next_answer c b ts places =
    first_no ((b.closed, 7) ∷ (nat_le (length b.rungs) places, 8) ∷ (nat_lt b.taken b.ration, 9) ∷ (nat_lt b.taken (length ts), 10) ∷ []) (given (b.taken + 1) (cost c b.rungs (slice_index_or ts b.taken [])))

-- next, likewise: an accepted one writes the track's steps and takes it
abbrev pub nexting_of : {V P : Type 0} → Rules V P → Book → List Track → List Step → Outcome V
nexting_of c b ts out = record {
  answer = next_answer c b ts (length out);
  output = if accepted (next_answer c b ts (length out)) then written (steps b.rungs (slice_index_or ts b.taken [])) out else out;
  book = if accepted (next_answer c b ts (length out)) then one_taken b else b;
}

-- next, over the list of the book's own ladder
abbrev pub nexting : {V P : Type 0} → Rules V P → Book → List Step → Outcome V
nexting c b out = nexting_of c b (tracks_of c b.limits b.rungs) out

-- a yes or no for each list of steps
abbrev pub Filter : Type 0
Filter = List Step → Bool

-- seeking, where us are the untaken tracks: questions 9 and 10 are put before each judging; a track that is turned down is taken all the same, and its steps stay in the output
abbrev pub judging : {V P : Type 0} → Rules V P → Filter → List Track → Book → List Step → Outcome V
judging c f [] b out = record { answer = first_no ((nat_lt b.taken b.ration, 9) ∷ []) (refused 10); output = out; book = b }
judging c f (u ∷ us) b out =
    let shown = written (steps b.rungs u) out in
    let judged = if f (steps b.rungs u) then record { answer = given (b.taken + 1) (cost c b.rungs u); output = shown; book = one_taken b } else judging c f us (one_taken b) shown in
    if nat_lt b.taken b.ration then judged else record { answer = refused 9; output = out; book = b }

-- seeking with a filter, where ts is the list of the ladder
abbrev pub seeking_of : {V P : Type 0} → Rules V P → Book → List Track → Filter → List Step → Outcome V
seeking_of c b ts f out =
    let judged = if nat_le (length b.rungs) (length out) then judging c f (drop b.taken ts) b out else record { answer = refused 8; output = out; book = b } in
    if b.closed then judged else record { answer = refused 7; output = out; book = b }

-- seeking, likewise
abbrev pub seeking : {V P : Type 0} → Rules V P → Book → Filter → List Step → Outcome V
seeking c b f out = seeking_of c b (tracks_of c b.limits b.rungs) f out

-- a call with its arguments: a source as its list and a filter as its meaning at that moment, an output as what its places hold
pub data Call : Type 0 where
  add : Rung → Call
  close : Call
  next : List Step → Call
  seek : Filter → List Step → Call

-- what a call comes to
abbrev pub outcome : {V P : Type 0} → Rules V P → Book → Call → Outcome V
outcome c b (add r) = adding b r
outcome c b close = closing b
outcome c b (next out) = nexting c b out
outcome c b (seek f out) = seeking c b f out
