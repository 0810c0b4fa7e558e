-- Cases worked by hand. Assumes nothing.
use Rattle.std.specs.Prelude.{◌≡◌, ℕ, [], ◌∷◌, map, pos}
use Rattle.ladder.specs.declared.poses.Step.{Step}
use Rattle.filters.specs.Turning.{turned_back}

-- a step with this shoulder
abbrev pub shoulder_at : ℕ → Step
shoulder_at n = record { number = record { 0 = 0 }; pose = record { shoulder = pos n; elbow = pos 0 } }

-- the shoulder goes up, stands, comes back and goes up again
pub record Worked : Type 0 where
  pub turned_twice : turned_back (map shoulder_at (0 ∷ (3 ∷ (3 ∷ (1 ∷ (4 ∷ [])))))) ≡ 2
