-- Runs: calls made one after another, each finding what those before it left, and what is promised of every run. Assumes nothing.
use Rattle.std.specs.Prelude.{◌≡◌, ℕ, ◌+◌, ◌-◌, ◌<◌, ◌≤◌, Bool, true, false, if◌then◌else◌, ◌&&◌, ◌||◌, ◌↔◌, List, [], ◌∷◌, ◌++◌, length, ◌==◌, nat_lt, slice_index_or}
use Rattle.std.specs.Ordering.{is_le}
use Rattle.ladder.specs.declared.poses.Step.{Step}
use Rattle.ladder.specs.declared.poses.Limits.{Limits}
use Rattle.ladder.specs.Rules.{Rules}
use Rattle.ladder.specs.Tracks.{Rung, Ladder, Track, Bounded, steps, cost}
use Rattle.ladder.specs.Listed.{ListOf}
use Rattle.book.specs.Book.{Book, Answer, fine, counted, given, refused, accepted, Filter, Call, add, close, next, seek, written, outcome}

-- a call of a run, what it answered, and what its output held then (nothing where it has none)
pub record Event (V : Type 0) : Type 0 where
  pub call : Call
  pub answer : Answer V
  pub output : List Step

-- ts holds every admissible track of the ladder exactly once, in peel order, and no other list does
pub record TheList {V P : Type 0} (c : Rules V P) (l : Limits) (rs : Ladder) (ts : List Track) : Type 0 where
  pub listed : ListOf c l rs ts
  pub alone : (us : List Track) → ListOf c l rs us → us ≡ ts

-- the rung that a call brings
abbrev pub brought : Call → Ladder
brought (add r) = r ∷ []
brought close = []
brought (next out) = []
brought (seek f out) = []

-- the call is a closing
abbrev pub closes : Call → Bool
closes (add r) = false
closes close = true
closes (next out) = false
closes (seek f out) = false

-- how many tracks are taken after an answer, where the list has n: a track that is given is taken with all before it; refusal 9 leaves the whole ration taken and refusal 10 the whole list, since a seek takes what it judges; any other answer leaves the count
abbrev pub taken_after : {V : Type 0} → Book → ℕ → Answer V → ℕ
taken_after b n fine = b.taken
taken_after b n (counted m) = b.taken
taken_after b n (given k v) = k
taken_after b n (refused q) = if q == 9 then b.ration else (if q == 10 then n else b.taken)

-- what a call leaves, told from its answer: an accepted adding puts its rung on the ladder, an accepted closing closes it, and a refusal leaves ladder and closing as they were
abbrev pub left_by : {V : Type 0} → ℕ → Book → Event V → Book
left_by n b e = record b {
  rungs = if accepted e.answer then brought e.call ++ b.rungs else b.rungs;
  closed = b.closed || (accepted e.answer && closes e.call);
  taken = taken_after b n e.answer;
}

-- adding: each answer comes exactly when it is due, and a refusal leaves the book
pub record Adds {V : Type 0} (b : Book) (n : ℕ) (r : Rung) (e : Event V) : Type 0 where
  pub done : (e.answer ≡ counted (length b.rungs + 1)) ↔ ((b.closed ≡ false) × (length b.rungs < b.rung_limit) × (0 < length r) × (length r ≤ 16))
  pub shut : (e.answer ≡ refused 3) ↔ (b.closed ≡ true)
  pub full : (e.answer ≡ refused 4) ↔ ((b.closed ≡ false) × (b.rung_limit ≤ length b.rungs))
  pub none : (e.answer ≡ refused 5) ↔ ((b.closed ≡ false) × (length b.rungs < b.rung_limit) × (length r ≡ 0))
  pub many : (e.answer ≡ refused 6) ↔ ((b.closed ≡ false) × (length b.rungs < b.rung_limit) × (16 < length r))
  pub leaves : (q : ℕ) → e.answer ≡ refused q → left_by n b e ≡ b

-- closing, likewise
pub record Closes {V : Type 0} (b : Book) (n : ℕ) (e : Event V) : Type 0 where
  pub done : (e.answer ≡ counted (length b.rungs)) ↔ (b.closed ≡ false)
  pub shut : (e.answer ≡ refused 3) ↔ (b.closed ≡ true)
  pub leaves : (q : ℕ) → e.answer ≡ refused q → left_by n b e ≡ b

-- asking for a track that passes the filter f, with the output `out`, where ts is the list of the ladder; the track at place j of it has number j + 1
module _ {V P : Type 0} (c : Rules V P) (b : Book) (ts : List Track) (f : Filter) (out : List Step) where
  -- the ladder is closed, and the output has a place for each rung
  pub record Ready : Type 0 where
    pub shut : b.closed ≡ true
    pub room : length b.rungs ≤ length out

  -- the track at place j is untaken, and passes
  pub record Left (j : ℕ) : Type 0 where
    pub untaken : b.taken ≤ j
    pub inside : j < length ts
    pub passes : f (steps b.rungs (slice_index_or ts j [])) ≡ true

  -- track number k is given, with the cost v: it is the k-th of the list and within the ration, it was untaken and passes, no such track comes before it, and every such track costs at least as much
  pub record Gives (k : ℕ) (v : V) : Type 0 where
    pub from_one : 0 < k
    pub rationed : k ≤ b.ration
    pub is_left : Left (k - 1)
    pub costs : v ≡ cost c b.rungs (slice_index_or ts (k - 1) [])
    pub first : (j : ℕ) → Left j → k - 1 ≤ j
    pub cheapest : (j : ℕ) → Left j → is_le (c.compare v (cost c b.rungs (slice_index_or ts j []))) ≡ true

  -- what an output holds after n tracks are taken: the steps of the last one in its first places, where the call took any; else it stays
  abbrev pub held : ℕ → List Step
  held n = if nat_lt b.taken n then written (steps b.rungs (slice_index_or ts (n - 1) [])) out else out

  -- each answer comes exactly when it is due
  pub record Seeks (e : Event V) : Type 0 where
    pub open_still : (e.answer ≡ refused 7) ↔ (b.closed ≡ false)
    pub short : (e.answer ≡ refused 8) ↔ ((b.closed ≡ true) × (length out < length b.rungs))
    pub spent : (e.answer ≡ refused 9) ↔ (Ready × (b.ration ≤ length ts) × ((j : ℕ) → Left j → b.ration ≤ j))
    pub ended : (e.answer ≡ refused 10) ↔ (Ready × (length ts < b.ration) × ((j : ℕ) → Left j → ⊥))
    pub served : Ready → (j : ℕ) → Left j → j < b.ration → (k : ℕ) × (v : V) × (e.answer ≡ given k v)
    pub gives : (k : ℕ) (v : V) → e.answer ≡ given k v → Gives k v
    pub holds : e.output ≡ held (taken_after b (length ts) e.answer)

-- a filter that passes every track
abbrev pub any : Filter
any ss = true

-- next asks for any untaken track: it gives the one after the last taken, and a refusal leaves the book and the output
pub record Nexts {V P : Type 0} (c : Rules V P) (b : Book) (ts : List Track) (out : List Step) (e : Event V) : Type 0 where
  pub seeks : Seeks c b ts any out e
  pub in_turn : (k : ℕ) (v : V) → e.answer ≡ given k v → k ≡ b.taken + 1
  pub spent : (e.answer ≡ refused 9) ↔ (Ready c b ts any out × (b.ration ≤ b.taken))
  pub ended : (e.answer ≡ refused 10) ↔ (Ready c b ts any out × (length ts < b.ration) × (length ts ≤ b.taken))
  pub leaves : (q : ℕ) → e.answer ≡ refused q → (left_by (length ts) b e ≡ b) × (e.output ≡ out)

-- what is promised of one call, where ts is the list of the ladder
abbrev pub Kept : {V P : Type 0} → Rules V P → Book → List Track → Call → Event V → Type 0
Kept c b ts (add r) e = Adds b (length ts) r e
Kept c b ts close e = Closes b (length ts) e
Kept c b ts (next out) e = Nexts c b ts out e
Kept c b ts (seek f out) e = Seeks c b ts f out e

-- what is promised of a run from the book b: the ladder has one list; the call's answer, its output and what it leaves are those of the plain book; it keeps its promise; and the same holds of the run from there
abbrev pub Promised : {V P : Type 0} → Rules V P → Book → List (Event V) → Type 0
Promised c b [] = Unit {0}
Promised c b (e ∷ es) =
    (ts : List Track) × TheList c b.limits b.rungs ts × (record { answer = e.answer; output = e.output; book = left_by (length ts) b e } ≡ outcome c b e.call) × Kept c b ts e.call e × Promised c (left_by (length ts) b e) es

-- each answer and each output of a run is the plain book's
abbrev pub AsTheBook : {V P : Type 0} → Rules V P → Book → List (Event V) → Type 0
AsTheBook c b [] = Unit {0}
AsTheBook c b (e ∷ es) =
    (e.answer ≡ (outcome c b e.call).answer) × (e.output ≡ (outcome c b e.call).output) × AsTheBook c (outcome c b e.call).book es

-- a book that was just opened: no rung, nothing taken, and the limits that numbers of 16 bits can be
pub record New (b : Book) : Type 0 where
  pub bounded : Bounded b.limits
  pub limited : b.rung_limit ≤ 128
  pub no_rung : b.rungs ≡ []
  pub untaken : b.taken ≡ 0

-- every run on a new book that answers as the book does keeps what is promised
abbrev pub RunsKeep : {V P : Type 0} → Rules V P → Type 0
RunsKeep {V} c = (b : Book) → New b → (es : List (Event V)) → AsTheBook c b es → Promised c b es
