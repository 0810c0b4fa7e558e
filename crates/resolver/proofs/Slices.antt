-- What a change of a part leaves of the whole. Assumes nothing.
use Rattle.std.proofs.Common.{◌≡◌, ℕ, ◌+◌, ◌-◌, ◌*◌, ◌<◌, ◌≤◌, List, take, drop, sym, ap, ◌∙◌, ⊎_elim, arith}
use Rattle.std.specs.List.{between}
use Rattle.std.proofs.lemmas.Slice.{between_is}
use Rattle.std.proofs.lemmas.List.{take-take, drop-drop}
use Rattle.std.proofs.lemmas.Bool.{cases_order}
use Rattle.resolver.specs.Tables.{part}
use Rattle.resolver.proofs.Blocks.{places_apart}

module _ {X : Type 0} (xs ys : List X) (i j : ℕ) where
  -- a part before the changed one
  pub between_below : (a : ℕ) → take a ys ≡ take a xs → j ≤ a → between i j ys ≡ between i j xs
  between_below a e h = between_is ys i j ∙ ap (drop i) (sym (take-take j a ys h) ∙ ap (take j) e ∙ take-take j a xs h) ∙ sym (between_is xs i j)

  -- a part after the changed one
  pub between_above : (b : ℕ) → drop b ys ≡ drop b xs → b ≤ i → between i j ys ≡ between i j xs
  between_above b e h =
      let at : b + (i - b) ≡ i = omega arith in
      let past : (zs : List X) → drop i zs ≡ drop (i - b) (drop b zs) = λ zs. ap (λ n. drop n zs) (sym at) ∙ sym (drop-drop (i - b) b zs) in
      ap (take (j - i)) (past ys ∙ ap (drop (i - b)) e ∙ sym (past xs))

-- the parts of 16 places other than the changed one, which is part i
pub parts_elsewhere : {X : Type 0} (xs ys : List X) (q u r v i : ℕ) → i ≡ 16 * r + v → u < 16 → v < 16 → (q ≡ r → u ≡ v → ⊥) → take (16 * i) ys ≡ take (16 * i) xs → drop (16 * i + 16) ys ≡ drop (16 * i + 16) xs → part (16 * q + u) ys ≡ part (16 * q + u) xs
parts_elsewhere xs ys q u r v i is hu hv ne below above =
    let j = 16 * (16 * q + u) in
    ⊎_elim (λ e. absurd (places_apart 16 q r u v hu hv ne (e ∙ is)))
    (⊎_elim (λ h. between_below xs ys j (j + 16) (16 * i) below (omega (arith, h))) (λ h. between_above xs ys j (j + 16) (16 * i + 16) above (omega (arith, h))))
    (cases_order (16 * q + u) i)
