-- Whole turns make no difference to a sine. Assumes nothing.
use Rattle.std.proofs.Common.{◌≡◌, ℕ, ◌%◌, refl}
use native.Mathlib.Nat.{mod-mod}
use Rattle.sources.specs.Directions.{sine}

pub whole_turns : (d : ℕ) → sine (d % 64) ≡ sine d
whole_turns d = rw (mod-mod d 64) refl
