-- The tracks that end at one pose, by rank, and how they come from those of the rung before. Assumes nothing.
use Rattle.std.specs.Prelude.{◌≡◌, ℕ, suc, ◌<◌, ◌≤◌, Bool, true, if◌then◌else◌, ◌↔◌, List, [], ◌∷◌, length, filter, ◌==◌, nat_eq, slice_index, slice_index_or}
use Rattle.std.specs.declared.cmp.Ordering.{Ordering}
use Rattle.std.specs.Ordering.{is_le, ordering_then, nat_cmp}
use Rattle.ladder.specs.declared.poses.Limits.{Limits}
use Rattle.ladder.specs.Moves.{turns, within}
use Rattle.ladder.specs.Rules.{Rules, Reached, Orders}
use Rattle.ladder.specs.Tracks.{Rung, Ladder, Track, Bounded, step_at, cost}
use Rattle.ladder.specs.Listed.{tracks_of}

-- the tracks of a ladder that end at pose number v of its last rung, in peel order; the one of rank i stands at place i
abbrev pub ending : {V P : Type 0} → Rules V P → Limits → Ladder → ℕ → List Track
ending c l rs v = filter (λ t. nat_eq (slice_index t 0) v) (tracks_of c l rs)

-- the move from pose u of rung q to pose v of rung r is admissible
abbrev pub may_move : Limits → Rung → ℕ → Rung → ℕ → Bool
may_move l q u r v = within l (turns (step_at q u).pose (step_at r v).pose)

-- a candidate for the next rank at a pose: its cost there, the cost of its front (the track without its last move), and the pose number and the rank at which that front ends
pub record Candidate (V : Type 0) : Type 0 where
  pub whole : V
  pub front : V
  pub pose : ℕ
  pub rank_at : ℕ

-- candidates in order: by cost, then by the cost of the front, then by its pose number, then by its rank
abbrev pub by_candidate : {V P : Type 0} → Rules V P → Candidate V → Candidate V → Ordering
by_candidate c x y =
    ordering_then (c.compare x.whole y.whole) (ordering_then (c.compare x.front y.front) (ordering_then (nat_cmp x.pose y.pose) (nat_cmp x.rank_at y.rank_at)))

-- both costs of a candidate are reached
abbrev pub CostsReached : {V P : Type 0} → Rules V P → Candidate V → Type 0
CostsReached c x = Reached c 127 x.whole × Reached c 127 x.front

-- the candidate at pose v of rung r that extends the track of rank i at pose u of the rung before
abbrev pub candidate : {V P : Type 0} → Rules V P → Limits → Rung → Ladder → ℕ → ℕ → ℕ → Candidate V
candidate c l r rs v u i = record {
  whole = cost c (r ∷ rs) (v ∷ slice_index_or (ending c l rs u) i []);
  front = cost c rs (slice_index_or (ending c l rs u) i []);
  pose = u;
  rank_at = i;
}

-- one more used of w
abbrev pub bumped : (ℕ → ℕ) → ℕ → ℕ → ℕ
bumped used w u = if u == w then suc (used u) else used u

-- for pose v of the last rung r, which follows rung q; `used u` counts the tracks at pose u of rung q that are used
module _ {V P : Type 0} (c : Rules V P) (l : Limits) (r q : Rung) (rs : Ladder) (v : ℕ) where
  -- the first n tracks that end at v are exactly the extensions of the first `used u` at each pose u with an admissible move to v
  pub record Emitted (n : ℕ) (used : ℕ → ℕ) : Type 0 where
    pub exactly : (u i : ℕ) → u < length q → may_move l q u r v ≡ true → i < length (ending c l (q ∷ rs) u) → (i < used u) ↔ ((j : ℕ) × (j < n) × (slice_index_or (ending c l (r ∷ q ∷ rs) v) j [] ≡ v ∷ slice_index_or (ending c l (q ∷ rs) u) i []))

  -- pose u of rung q has an admissible move to v, and a track that is not used
  pub record Open (used : ℕ → ℕ) (u : ℕ) : Type 0 where
    pub numbered : u < length q
    pub moved : may_move l q u r v ≡ true
    pub more : used u < length (ending c l (q ∷ rs) u)

  -- where the first n ranks at v are found, the least of the waiting candidates is the track of the next rank; and where none waits there is no further rank
  pub record Merges (n : ℕ) (used : ℕ → ℕ) : Type 0 where
    pub next : (w : ℕ) → Open used w → ((u : ℕ) → Open used u → is_le (by_candidate c (candidate c l r (q ∷ rs) v w (used w)) (candidate c l r (q ∷ rs) v u (used u))) ≡ true) → (n < length (ending c l (r ∷ q ∷ rs) v)) × (slice_index_or (ending c l (r ∷ q ∷ rs) v) n [] ≡ v ∷ slice_index_or (ending c l (q ∷ rs) w) (used w) []) × Emitted (suc n) (bumped used w)
    pub done : ((u : ℕ) → Open used u → ⊥) → length (ending c l (r ∷ q ∷ rs) v) ≤ n

-- the candidates with reached costs are in a total order, the first rung has one track for each pose, and the ranks at a pose of any other are merged from those of the rung before
pub record RanksMerge {V P : Type 0} (c : Rules V P) : Type 0 where
  pub orders : Orders (CostsReached c) (by_candidate c)
  pub single : (l : Limits) → Bounded l → (r : Rung) (v : ℕ) → v < length r → ending c l (r ∷ []) v ≡ (v ∷ []) ∷ []
  pub merges : (l : Limits) → Bounded l → (r q : Rung) (rs : Ladder) → length (r ∷ q ∷ rs) ≤ 128 → (v n : ℕ) (used : ℕ → ℕ) → v < length r → Emitted c l r q rs v n used → Merges c l r q rs v n used

-- for a ladder with last rung r; `used v` counts the tracks at pose v of it that are given out
module _ {V P : Type 0} (c : Rules V P) (l : Limits) (r : Rung) (rs : Ladder) where
  -- the first n tracks of the list are exactly the first `used v` that end at each pose v
  pub record GivenOut (n : ℕ) (used : ℕ → ℕ) : Type 0 where
    pub exactly : (v i : ℕ) → v < length r → i < length (ending c l (r ∷ rs) v) → (i < used v) ↔ ((j : ℕ) × (j < n) × (slice_index_or (tracks_of c l (r ∷ rs)) j [] ≡ slice_index_or (ending c l (r ∷ rs) v) i []))

  -- pose v has a track that is not given out
  pub record Left (used : ℕ → ℕ) (v : ℕ) : Type 0 where
    pub numbered : v < length r
    pub more : used v < length (ending c l (r ∷ rs) v)

  -- the cost of the first track at pose v that is not given out
  abbrev pub first_cost : (ℕ → ℕ) → ℕ → V
  first_cost used v = cost c (r ∷ rs) (slice_index_or (ending c l (r ∷ rs) v) (used v) [])

  -- where the first n tracks of the list are given out, the least of the first left at each pose, by cost and then by pose number, is the next of the list; and where none is left the list is at its end
  pub record EndsMerge (n : ℕ) (used : ℕ → ℕ) : Type 0 where
    pub next : (w : ℕ) → Left used w → ((v : ℕ) → Left used v → is_le (ordering_then (c.compare (first_cost used w) (first_cost used v)) (nat_cmp w v)) ≡ true) → (n < length (tracks_of c l (r ∷ rs))) × (slice_index_or (tracks_of c l (r ∷ rs)) n [] ≡ slice_index_or (ending c l (r ∷ rs) w) (used w) []) × GivenOut (suc n) (bumped used w)
    pub done : ((v : ℕ) → Left used v → ⊥) → length (tracks_of c l (r ∷ rs)) ≤ n

-- the list of a ladder is merged from the tracks that end at each pose of its last rung
abbrev pub ListMerges : {V P : Type 0} → Rules V P → Type 0
ListMerges c =
    (l : Limits) → Bounded l → (r : Rung) (rs : Ladder) → length (r ∷ rs) ≤ 128 → (n : ℕ) (used : ℕ → ℕ) → GivenOut c l r rs n used → EndsMerge c l r rs n used
