-- Going down the rungs to the one where the search can begin. Assumes nothing.
use Rattle.std.proofs.Common.{◌≡◌, ℕ, zero, suc, ◌<◌, ◌≤◌, Bool, true, false, cond, List, length, set, Some, None, sym, refl, ap, ◌∙◌, subst, ⊎_elim, arith, get_or-set_other, get_or-set_same}
use Rattle.std.proofs.lemmas.Bool.{cases_eq}
use Rattle.std.proofs.lemmas.Option.{none-some}
use Rattle.ladder.specs.declared.poses.PoseNumber.{PoseNumber}
use Rattle.enumeration.specs.Tables.{Tables}
use Rattle.enumeration.specs.Sound.{last_back}
use Rattle.enumeration.specs.Writes.{Readable, Backed, PathDown, path_at, needed_at, successor_found}

module _ {C : Type 0} (w : ℕ) (t : Tables C) where
  -- a pose that is waited for is the one that the pending track extends
  needed_is : (p v : ℕ) (u : PoseNumber) → Some u ≡ needed_at t (suc p) v → ((t.station (suc p) v).pending ≡ true) × (u ≡ (last_back t (suc p) v).pose)
  needed_is p v u = go (t.station (suc p) v).pending (successor_found t p v)
    where
      go : (b f : Bool) → Some u ≡ cond b (cond f None (Some (last_back t (suc p) v).pose)) None → (b ≡ true) × (u ≡ (last_back t (suc p) v).pose)
      go true true h = absurd (none-some u (sym h))
      go true false h = (refl, cc)
      go false f h = absurd (none-some u (sym h))

  pub backed_readable : (r q u : ℕ) → Backed w t r → q ≤ r → u < t.size q → Readable w t q u
  backed_readable r zero u b h n = tt
  backed_readable r (suc p) u b h n = λ pends. (b.last (suc p) u h n pends, omega (arith, b.back p u h n pends, b.few p (omega (arith, h))))

  pub path_goes_down : (r : ℕ) (v : PoseNumber) (path : List PoseNumber) (p : ℕ) (u : PoseNumber) → r < length path → Backed w t r → suc p ≤ r → Some u ≡ needed_at t (suc p) (path_at path (suc p)).0 → PathDown t r v path (suc p) → PathDown t r v (set path p u) p
  path_goes_down r v path p u h b below e d =
      let new = set path p u in
      let other : (j : ℕ) → suc p ≤ j → path_at new j ≡ path_at path j = λ j lt. get_or-set_other path p j u (record { 0 = 0 }) (λ same. omega (arith, lt, same)) in
      let here : path_at new p ≡ u = get_or-set_same path p u (record { 0 = 0 }) (omega (arith, h, below)) in
      let is = needed_is p (path_at path (suc p)).0 u e in
      let fits : u.0 < t.size p = subst (λ (z : PoseNumber). z.0 < t.size p) (sym is.1) (b.back p (path_at path (suc p)).0 below (d.numbered (suc p) (omega arith) below) is.0) in
      record {
        top = other r below ∙ d.top;
        numbered = λ j low high. ⊎_elim
            (λ (same : p ≡ j). subst (λ i. (path_at new i).0 < t.size i) same (subst (λ (z : PoseNumber). z.0 < t.size p) (sym here) fits))
            (λ (ne : p ≡ j → ⊥). let lt : suc p ≤ j = omega (arith, low, ne) in subst (λ (z : PoseNumber). z.0 < t.size j) (sym (other j lt)) (d.numbered j lt high))
            (cases_eq p j);
        steps = λ j low high. ⊎_elim
            (λ (same : p ≡ j). subst (λ i. needed_at t (suc i) (path_at new (suc i)).0 ≡ Some (path_at new i)) same (ap (λ (z : PoseNumber). needed_at t (suc p) z.0) (other (suc p) (omega arith)) ∙ sym e ∙ ap Some (sym here)))
            (λ (ne : p ≡ j → ⊥). let lt : suc p ≤ j = omega (arith, low, ne) in ap (λ (z : PoseNumber). needed_at t (suc j) z.0) (other (suc j) (omega (arith, lt))) ∙ d.steps j lt high ∙ ap Some (sym (other j lt)))
            (cases_eq p j);
      }
