-- Places of a table that is cut into blocks of one width. Assumes nothing.
use Rattle.std.proofs.Common.{◌≡◌, ℕ, zero, suc, ◌+◌, ◌*◌, ◌<◌, ◌≤◌, ◌≢◌, List, [], ◌∷◌, get_or, set, refl, ap, ⊎_elim, mul-le-mul_left, mul-suc, arith}
use Rattle.std.proofs.lemmas.Bool.{cases_order}

-- the blocks before one end before it begins
pub block_ends : (w p r : ℕ) → p < r → w * p + w ≤ w * r
block_ends w p r h = let up : w * suc p ≤ w * r = mul-le-mul_left w h in omega (arith, up, mul-suc w p)

-- places of different blocks, or of one block, are different
pub places_apart : (w q r i j : ℕ) → i < w → j < w → (q ≡ r → i ≡ j → ⊥) → w * q + i ≢ w * r + j
places_apart w q r i j hi hj ne e =
    ⊎_elim (λ same. ne same (omega (arith, e, ap (λ n. w * n) same)))
    (⊎_elim (λ h. omega (arith, block_ends w q r h)) (λ h. omega (arith, block_ends w r q h)))
    (cases_order q r)

-- a write that keeps what f gives
pub kept_field : {X Y : Type 0} (f : X → Y) (xs : List X) (i : ℕ) (y d : X) → f y ≡ f (get_or xs i d) → (q : ℕ) → f (get_or (set xs i y) q d) ≡ f (get_or xs q d)
kept_field f [] i y d e q = refl
kept_field f (x ∷ xs) zero y d e zero = e
kept_field f (x ∷ xs) zero y d e (suc q) = refl
kept_field f (x ∷ xs) (suc i) y d e zero = refl
kept_field f (x ∷ xs) (suc i) y d e (suc q) = kept_field f xs i y d e q
