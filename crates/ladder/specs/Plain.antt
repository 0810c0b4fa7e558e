-- Tracks read in track order, from the first waypoint to the last. Assumes nothing.
use Rattle.std.specs.Prelude.{◌≡◌, ℕ, ◌<◌, true, ◌↔◌, List, [], ◌∷◌, length, fold, slice_index, slice_index_or}
use Rattle.std.specs.List.{AllByRecursion}
use Rattle.ladder.specs.declared.poses.Step.{Step}
use Rattle.ladder.specs.declared.poses.Turns.{Turns}
use Rattle.ladder.specs.declared.poses.Limits.{Limits}
use Rattle.ladder.specs.Moves.{turns, within}
use Rattle.ladder.specs.Rules.{Rules}
use Rattle.ladder.specs.Tracks.{Ladder, Track, Admissible, steps, cost}

-- the turns of the moves of steps that are held in track order
abbrev pub onward : List Step → List Turns
onward [] = []
onward (p ∷ []) = []
onward (p ∷ q ∷ ps) = turns p.pose q.pose ∷ onward (q ∷ ps)

-- a track's cost is zero joined with the price of its first move, then of its second, up to its last
abbrev pub CostIsFold : {V P : Type 0} → Rules V P → Type 0
CostIsFold c =
    (rs : Ladder) (t : Track) → cost c rs t ≡ fold (λ v m. c.join v (c.price m)) c.zero (onward (steps rs t))

-- there is one pose number for each of the rungs, and each is a number of its rung
pub record Picks (rs : Ladder) (t : Track) : Type 0 where
  pub one_each : length t ≡ length rs
  pub each_there : (i : ℕ) → i < length rs → slice_index t i < length (slice_index_or rs i [])

-- a track is admissible exactly when there is a rung, the track picks one pose of each, and all its moves in track order are within the limits
abbrev pub AdmissibleIsMoves : Type 0
AdmissibleIsMoves =
    (l : Limits) (rs : Ladder) (t : Track) → Admissible l rs t ↔ ((0 < length rs) × Picks rs t × AllByRecursion (λ m. within l m ≡ true) (onward (steps rs t)))
