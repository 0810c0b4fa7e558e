-- One step more of a count of reversals. Assumes nothing.
use Rattle.std.proofs.Common.{◌≡◌, ℕ, zero, suc, ◌+◌, ◌≤◌, false, cond, List, ◌∷◌, ◌++◌, ℤ, pos, negsuc, filter, Some, None, Option, refl, arith}
use Rattle.std.specs.Option.{option_to_list}
use Rattle.std.proofs.lemmas.Grind.{common_steps}
use Rattle.filters.specs.Turning.{differences, moves, opposite, opposites}
use Rattle.filters.specs.declared.turning.Tally.{Tally}
use Rattle.filters.specs.Tallies.{turns_back, gone_on}

-- where one of two turns is none, they are not opposite
still_left : (a b : ℤ) → moves a ≡ false → opposite a b ≡ false
still_left (pos zero) b h = refl
still_left (pos (suc n)) b h = cc
still_left (negsuc n) b h = cc

still_right : (a b : ℤ) → moves b ≡ false → opposite a b ≡ false
still_right a (pos zero) h = grind (arith, common_steps)
still_right a (pos (suc n)) h = cc
still_right a (negsuc n) h = cc

-- the last turn if there was one, then a turn b, then others
split : (last : Option ℤ) (b : ℤ) (ds : List ℤ)
    → cond (turns_back last b) 1 0 + opposites (filter moves (option_to_list (cond (moves b) (Some b) last) ++ ds)) ≡ opposites (filter moves (option_to_list last ++ (b ∷ ds)))
split None b ds = grind (arith, common_steps)
split (Some a) b ds = grind (arith, common_steps, still_left, still_right)

-- the reversals so far, with those that the shoulder's counts to come still make
abbrev pub in_all : Tally → List ℤ → ℕ
in_all t counts = t.reversals + opposites (filter moves (option_to_list t.turn ++ differences (t.shoulder ∷ counts)))

-- a step changes nothing in all
pub in_all_more : (t : Tally) (s : ℤ) (rest : List ℤ) → in_all (gone_on t s) rest ≡ in_all t (s ∷ rest)
in_all_more t s rest = grind (arith, split)

-- and counts one reversal at most
pub few_more : (t : Tally) (s : ℤ) → (gone_on t s).reversals ≤ t.reversals + 1
few_more t s = grind arith
