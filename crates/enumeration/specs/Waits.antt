-- The candidates that wait at one pose. Assumes nothing.
use Rattle.std.specs.Prelude.{◌≡◌, ℕ, ◌+◌, ◌<◌, ◌≤◌, if◌then◌else◌, List, [], ◌∷◌, length, take, sum_by, Option, MatchOption, ◌==◌, slice_index_or}
use Rattle.std.specs.List.{AllByRecursion}
use Rattle.heap.specs.Order.{Stands}
use Rattle.ladder.specs.declared.poses.Limits.{Limits}
use Rattle.ladder.specs.Rules.{Rules}
use Rattle.ladder.specs.Tracks.{Rung, Ladder}
use Rattle.ladder.specs.Ranking.{ending, candidate, Emitted, Open}
use Rattle.enumeration.specs.declared.records.Candidate.{Candidate}
use Rattle.enumeration.specs.Waiting.{plain, ReachedBoth, earlier}

-- the pose that a candidate comes from
abbrev pub origin_of : {C : Type 0} → Candidate C → ℕ
origin_of x = x.back.pose.0

-- 1 for a candidate that comes from pose u
abbrev pub from : {C : Type 0} → ℕ → Candidate C → ℕ
from u x = if origin_of x == u then 1 else 0

-- 1 at pose w, and 0 at every other
abbrev pub only_at : ℕ → ℕ → ℕ
only_at w u = if w == u then 1 else 0

-- 0 at every pose
abbrev pub nowhere : ℕ → ℕ
nowhere u = 0

-- for pose v of rung r, above rung q; `used u` counts the tracks at pose u of rung q whose extensions are found
module _ {C P : Type 0} (c : Rules C P) (l : Limits) (r q : Rung) (rs : Ladder) (v : ℕ) where
  -- x is the candidate of an open pose: the extension of its first unused track
  pub record StandsFor (used : ℕ → ℕ) (x : Candidate C) : Type 0 where
    pub opens : Open c l r q rs v used (origin_of x)
    pub is : plain x ≡ candidate c l r (q ∷ rs) v (origin_of x) (used (origin_of x))

  -- exactly the candidates of the open poses wait, each once, but for the poses where `due` is 1: their candidates have yet to be entered
  pub record Waits (used due : ℕ → ℕ) (xs : List (Candidate C)) : Type 0 where
    pub each : AllByRecursion (StandsFor used) xs
    pub once : (u : ℕ) → due u + sum_by (from u) xs ≤ 1
    pub every : (u : ℕ) → Open c l r q rs v used u → 1 ≤ due u + sum_by (from u) xs

  -- the first n ranks at pose v are found, and the candidates for the next wait in the first m of xs, a heap
  pub record FoundSoFar (n : ℕ) (used due : ℕ → ℕ) (xs : List (Candidate C)) (m : ℕ) : Type 0 where
    pub emitted : Emitted c l r q rs v n used
    pub waits : Waits used due (take m xs)
    pub heap : Stands (ReachedBoth c) (earlier c) xs m

  -- what there is to enter for pose w: the candidate of its first unused track, or none where it is not open
  abbrev pub Successor : (ℕ → ℕ) → ℕ → Option (Candidate C) → Type 0
  Successor used w x = MatchOption x (Open c l r q rs v used w → ⊥) (λ y. (origin_of y ≡ w) × StandsFor used y × ReachedBoth c y)

  -- x is the track of rank n at pose v
  pub record RankedNext (n : ℕ) (used : ℕ → ℕ) (x : Candidate C) : Type 0 where
    pub exists : n < length (ending c l (r ∷ q ∷ rs) v)
    pub extends : slice_index_or (ending c l (r ∷ q ∷ rs) v) n [] ≡ v ∷ slice_index_or (ending c l (q ∷ rs) (origin_of x)) x.back.rank.0 []
    pub stands : StandsFor used x
