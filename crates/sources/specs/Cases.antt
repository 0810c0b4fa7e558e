-- Cases worked by hand, for an arm with two links of length 100. Assumes nothing.
use Rattle.std.specs.Prelude.{◌≡◌, ℕ, [], ◌∷◌, length, pos}
use Rattle.job.specs.declared.values.Arm.{Arm}
use Rattle.job.specs.declared.values.Position.{Position}
use Rattle.sources.specs.Reach.{pose, reaching}

-- the arm, with a window of half side h
abbrev pub even : ℕ → Arm
even h = record { first = 100; second = 100; window = h }

-- a position with coordinates that are not negative
abbrev pub point : ℕ → ℕ → Position
point x y = record { x = pos x; y = pos y }

-- an arm reaches a corner in two ways, folds up on its base in every direction, and comes near a point that is too far with a wider window
pub record Worked : Type 0 where
  pub two_ways : reaching (even 0) (point 100 100) ≡ pose 0 16 ∷ (pose 16 48 ∷ [])
  pub folded_up : length (reaching (even 0) (point 0 0)) ≡ 64
  pub too_far : reaching (even 0) (point 201 0) ≡ []
  pub just_near : reaching (even 1) (point 201 0) ≡ pose 0 0 ∷ []
