-- The sines and cosines of the directions, 64 to a turn, times 10,000. Assumes nothing.
use Rattle.std.specs.Prelude.{◌≡◌, ℕ, ◌+◌, ◌-◌, ◌%◌, ◌<◌, ◌≤◌, if◌then◌else◌, List, [], ◌∷◌, ℤ, pos, neg_ℤ, nat_le, nat_lt, slice_index}

-- the sines of directions 0 to 16, a quarter turn
abbrev pub quarter : List ℕ
quarter = 0 ∷ 980 ∷ 1951 ∷ 2903 ∷ 3827 ∷ 4714 ∷ 5556 ∷ 6344 ∷ 7071 ∷ 7730 ∷ 8315 ∷ 8819 ∷ 9239 ∷ 9569 ∷ 9808 ∷ 9952 ∷ 10000 ∷ []

-- of directions 0 to 32: the second quarter mirrors the first
abbrev pub half : ℕ → ℕ
half d = if nat_le d 16 then slice_index quarter d else slice_index quarter (32 - d)

-- of every direction: the second half of a turn is the first with the other sign
abbrev pub sine : ℕ → ℤ
sine d = if nat_lt (d % 64) 32 then pos (half (d % 64)) else neg_ℤ (pos (half (d % 64 - 32)))

-- the sine a quarter turn on
abbrev pub cosine : ℕ → ℤ
cosine d = sine (d + 16)

-- the rules of the circle, which leave no choice
pub record Circle (sin : ℕ → ℤ) : Type 0 where
  pub first : (d : ℕ) → d ≤ 16 → sin d ≡ pos (slice_index quarter d)
  pub mirror : (d : ℕ) → d ≤ 16 → sin (32 - d) ≡ sin d
  pub sign : (d : ℕ) → d < 32 → sin (d + 32) ≡ neg_ℤ (sin d)
  pub turn : (d : ℕ) → sin (d + 64) ≡ sin d
