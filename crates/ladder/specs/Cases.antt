-- Ladders worked by hand. Assumes nothing.
use Rattle.std.specs.Prelude.{◌≡◌, ℕ, List, [], ◌∷◌, map, reverse, pos}
use Rattle.ladder.specs.declared.poses.Pose.{Pose}
use Rattle.ladder.specs.declared.poses.Limits.{Limits}
use Rattle.ladder.specs.declared.costs.Travel.{Travel}
use Rattle.ladder.specs.declared.costs.Worst.{Worst}
use Rattle.ladder.specs.declared.costs.Pair.{Pair}
use Rattle.ladder.specs.Rules.{Rules}
use Rattle.ladder.specs.Costs.{travel, worst, pair}
use Rattle.ladder.specs.Tracks.{Ladder, cost}
use Rattle.ladder.specs.Listed.{tracks_of}

-- a pose of two counts that are not below zero
abbrev pub at : ℕ → ℕ → Pose
at s e = record { shoulder = pos s; elbow = pos e }

-- step limits
abbrev pub limits : ℕ → ℕ → Limits
limits s e = record { shoulder = s; elbow = e }

-- limits that every move is within
abbrev pub free : Limits
free = limits 65535 65535

-- the tracks of a ladder in its order, each in track order, with their costs
abbrev pub listing : {V P : Type 0} → Rules V P → Limits → Ladder → List (List ℕ × V)
listing c l rs = map (λ t. (reverse t, cost c rs t)) (tracks_of c l rs)

-- the rungs (0,0) (4,0), then (4,0), then (14,0)
abbrev pub three : Ladder
three = (at 14 0 ∷ []) ∷ (at 4 0 ∷ []) ∷ (at 0 0 ∷ at 4 0 ∷ []) ∷ []

-- the rungs (0,0), then (5,0) (1,0), then (3,10): two ways to one pose with one worst step, of which that through the later pose has the cheaper front
abbrev pub tied : Ladder
tied = (at 3 10 ∷ []) ∷ (at 5 0 ∷ at 1 0 ∷ []) ∷ (at 0 0 ∷ []) ∷ []

-- a total of turns
abbrev pub total : ℕ → Travel
total n = record { total = n }

-- a largest turn
abbrev pub turn : ℕ → Worst
turn n = record { turn = n }

-- both
abbrev pub both : ℕ → ℕ → Pair Travel Worst
both n k = record { first = total n; second = turn k }

-- the worked ladders
pub record Worked : Type 0 where
  pub by_travel : listing travel free three ≡ (1 ∷ 0 ∷ 0 ∷ [], total 10) ∷ (0 ∷ 0 ∷ 0 ∷ [], total 14) ∷ []
  pub by_worst : listing worst free three ≡ (1 ∷ 0 ∷ 0 ∷ [], turn 10) ∷ (0 ∷ 0 ∷ 0 ∷ [], turn 10) ∷ []
  pub by_pair : listing (pair travel worst) free three ≡ (1 ∷ 0 ∷ 0 ∷ [], both 10 10) ∷ (0 ∷ 0 ∷ 0 ∷ [], both 14 10) ∷ []
  pub too_far : listing travel (limits 9 65535) three ≡ []
  pub just_near : listing travel (limits 10 65535) three ≡ (1 ∷ 0 ∷ 0 ∷ [], total 10) ∷ (0 ∷ 0 ∷ 0 ∷ [], total 14) ∷ []
  pub twice_one_pose : listing travel free ((at 5 5 ∷ at 5 5 ∷ []) ∷ []) ≡ (0 ∷ [], total 0) ∷ (1 ∷ [], total 0) ∷ []
  pub no_rung : listing travel free [] ≡ []
  pub front_decides : listing worst free tied ≡ (0 ∷ 1 ∷ 0 ∷ [], turn 10) ∷ (0 ∷ 0 ∷ 0 ∷ [], turn 10) ∷ []
