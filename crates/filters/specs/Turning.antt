-- How often the shoulder turns back over the steps of a track. Assumes nothing.
use Rattle.std.specs.Prelude.{ℕ, zero, suc, ◌+◌, Bool, true, false, if◌then◌else◌, ◌&&◌, ◌||◌, List, [], ◌∷◌, map, ℤ, pos, negsuc, ◌-ℤ◌, filter, int_lt}
use Rattle.ladder.specs.declared.poses.Step.{Step}

-- each count less the one before it
abbrev pub differences : List ℤ → List ℤ
differences [] = []
differences (a ∷ []) = []
differences (a ∷ (b ∷ cs)) = (b -ℤ a) ∷ differences (b ∷ cs)

-- a difference other than zero
abbrev pub moves : ℤ → Bool
moves (pos zero) = false
moves (pos (suc n)) = true
moves (negsuc n) = true

-- one is above zero and the other below
abbrev pub opposite : ℤ → ℤ → Bool
opposite a b = (int_lt (pos 0) a && int_lt b (pos 0)) || (int_lt a (pos 0) && int_lt (pos 0) b)

-- how many neighbours are opposite
abbrev pub opposites : List ℤ → ℕ
opposites [] = 0
opposites (a ∷ []) = 0
opposites (a ∷ (b ∷ cs)) = (if opposite a b then 1 else 0) + opposites (b ∷ cs)

-- the shoulder's counts
abbrev pub shoulders : List Step → List ℤ
shoulders steps = map (λ p. p.pose.shoulder) steps

-- the reversals: opposite neighbours among the shoulder's differences, those of zero dropped
abbrev pub turned_back : List Step → ℕ
turned_back steps = opposites (filter moves (differences (shoulders steps)))
