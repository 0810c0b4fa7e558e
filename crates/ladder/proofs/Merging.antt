-- A list in ascending order is the merge of rows that rise and that share its elements out among them. Assumes nothing.
use Rattle.std.proofs.Common.{◌≡◌, ℕ, suc, ◌<◌, ◌≤◌, true, cond, ◌⊎◌, ◌↔◌, List, length, get_or, Ordering, Less, Equal, Greater, sym, ap, ◌∙◌, subst, inl, inr, arith}
use Rattle.std.specs.Ordering.{is_le}
use Rattle.std.specs.List.{AllByRecursion}
use Rattle.std.proofs.lemmas.Bool.{false≢true, cases_eq, cases_lt, eq-eqb, ne_eqb}
use Rattle.ladder.specs.Listed.{In, Ascending}
use Rattle.ladder.specs.Ranking.{bumped}
use Rattle.ladder.specs.Ranked.{Ranks, forth, order_from_ranks}
use Rattle.ladder.proofs.Sorting.{all_in, place_once, least_next}

pub bump_at : (used : ℕ → ℕ) (w u : ℕ) → u ≡ w → bumped used w u ≡ suc (used u)
bump_at used w u e = ap (λ x. cond x (suc (used u)) (used u)) (eq-eqb u w e)

pub bump_off : (used : ℕ → ℕ) (w u : ℕ) → (u ≡ w → ⊥) → bumped used w u ≡ used u
bump_off used w u e = ap (λ x. cond x (suc (used u)) (used u)) (ne_eqb u w e)

bump_over : (used : ℕ → ℕ) (w u i : ℕ) → i < used u → i < bumped used w u
bump_over used w u i h = step (cases_eq u w)
  where
    step : (u ≡ w) ⊎ (u ≡ w → ⊥) → i < bumped used w u
    step (inl e) = omega (arith, bump_at used w u e)
    step (inr e) = omega (arith, bump_off used w u e)

not_greater : (o : Ordering) → is_le o ≡ true → o ≡ Greater → ⊥
not_greater o h e = false≢true (sym (ap is_le e) ∙ h)

-- row u, for a u that is fit, has long u elements, of which that at place i is el u i; together the rows have the elements of xs, each once
module _ {X : Type 0} {A : X → Type 0} {cmp : X → X → Ordering} (R : Ranks A cmp) (same : (x y : X) → A x → A y → cmp x y ≡ Equal → x ≡ y) (xs : List X) (d : X) (a : AllByRecursion A xs) (s : Ascending cmp xs) (Fit : ℕ → Type 0) (long : ℕ → ℕ) (el : ℕ → ℕ → X) (there : (u i : ℕ) → Fit u → i < long u → In (el u i) xs) (split : (j : ℕ) → j < length xs → (u : ℕ) × Fit u × ((i : ℕ) × (i < long u) × (get_or xs j d ≡ el u i))) (rising : (u i j : ℕ) → Fit u → i ≤ j → j < long u → is_le (cmp (el u i) (el u j)) ≡ true) (one : (u w i k : ℕ) → Fit u → Fit w → i < long u → k < long w → el u i ≡ el w k → (u ≡ w) × (i ≡ k)) where
  -- the first n of xs are the first `used u` of each row u
  abbrev pub Used : ℕ → (ℕ → ℕ) → Type 0
  Used n used =
      (u i : ℕ) → Fit u → i < long u → (i < used u) ↔ ((j : ℕ) × (j < n) × (get_or xs j d ≡ el u i))

  module _ (n : ℕ) (used : ℕ → ℕ) (exact : Used n used) where
    -- what is not among the first n is not used
    unused : (u i j : ℕ) → Fit u → i < long u → n ≤ j → j < length xs → get_or xs j d ≡ el u i → used u ≤ i
    unused u i j f hi late hj e = step (cases_lt i (used u))
      where
        step : (i < used u) ⊎ (used u ≤ i) → used u ≤ i
        step (inl less) =
            let x = (exact u i f hi).0 less in
            let y : x.0 < n = x.1 in
            let z : x.0 ≡ j = place_once R same xs d a s x.0 j (omega arith) hj (x.2 ∙ sym e) in
            absurd (omega arith)
        step (inr more) = more

    module _ (w : ℕ) (fw : Fit w) (hw : used w < long w) (best : (u : ℕ) → Fit u → used u < long u → is_le (cmp (el w (used w)) (el u (used u))) ≡ true) where
      held : (u i : ℕ) → Fit u → i < long u → A (el u i)
      held u i f h = all_in A xs (el u i) a (there u i f h)

      none_below : (j : ℕ) → n ≤ j → j < length xs → cmp (get_or xs j d) (el w (used w)) ≡ Less → ⊥
      none_below j late hj less =
          let y = split j hj in
          let u : ℕ = y.0 in
          let i : ℕ = y.2.0 in
          let hi : i < long u = y.2.1 in
          let fresh : used u ≤ i = unused u i j y.1 hi late hj y.2.2 in
          let hu : used u < long u = omega arith in
          let aw = held w (used w) fw hw in
          let ai = held u i y.1 hi in
          let le = (order_from_ranks R same).transitive (el w (used w)) (el u (used u)) (el u i) aw (held u (used u) y.1 hu) ai (best u y.1 hu) (rising u (used u) i y.1 fresh hi) in
          not_greater (cmp (el w (used w)) (el u i)) le (forth R (el u i) (el w (used w)) ai aw (subst (λ x. cmp x (el w (used w)) ≡ Less) y.2.2 less))

      next_is : (n < length xs) × (get_or xs n d ≡ el w (used w))
      next_is =
          least_next R same xs d a s n (el w (used w)) (there w (used w) fw hw) (λ j h e. let x : used w < used w = (exact w (used w) fw hw).1 (j, h, e) in omega arith) none_below

      next_used : Used (suc n) (bumped used w)
      next_used u i f hi = (fore, hind)
        where
          fore : i < bumped used w u → (j : ℕ) × (j < suc n) × (get_or xs j d ≡ el u i)
          fore h = step (cases_lt i (used u)) (cases_eq u w)
            where
              step : (i < used u) ⊎ (used u ≤ i) → (u ≡ w) ⊎ (u ≡ w → ⊥) → (j : ℕ) × (j < suc n) × (get_or xs j d ≡ el u i)
              step (inl less) x = let y = (exact u i f hi).0 less in let z : y.0 < n = y.1 in (y.0, omega arith, y.2)
              step (inr more) (inl e) =
                  let k : i ≡ used u = omega (arith, bump_at used w u e) in
                  (n, omega arith, next_is.1 ∙ ap (λ z. el z (used z)) (sym e) ∙ ap (el u) (sym k))
              step (inr more) (inr ne) = absurd (omega (arith, bump_off used w u ne))

          hind : (j : ℕ) × (j < suc n) × (get_or xs j d ≡ el u i) → i < bumped used w u
          hind x = step x.0 x.1 x.2 (cases_lt x.0 n)
            where
              step : (j : ℕ) → j < suc n → get_or xs j d ≡ el u i → (j < n) ⊎ (n ≤ j) → i < bumped used w u
              step j h e (inl less) = bump_over used w u i ((exact u i f hi).1 (j, less, e))
              step j h e (inr more) =
                  let k : j ≡ n = omega arith in
                  let p = one u w i (used w) f fw hi hw (sym e ∙ ap (λ z. get_or xs z d) k ∙ next_is.1) in
                  omega (arith, bump_at used w u p.0, p.1, ap used p.0)

    none_next : ((u : ℕ) → Fit u → used u < long u → ⊥) → length xs ≤ n
    none_next h = step (cases_lt n (length xs))
      where
        step : (n < length xs) ⊎ (length xs ≤ n) → length xs ≤ n
        step (inl less) =
            let y = split n less in
            let fresh : used y.0 ≤ y.2.0 = unused y.0 y.2.0 n y.1 y.2.1 (omega arith) less y.2.2 in
            let hi : y.2.0 < long y.0 = y.2.1 in
            absurd (h y.0 y.1 (omega arith))
        step (inr more) = more

  -- where the first n of xs are used, the least of what is first in each row is the next of xs; and where each row is used up, so is xs
  pub record GoesOn (n : ℕ) (used : ℕ → ℕ) : Type 0 where
    pub next : (w : ℕ) → Fit w → used w < long w → ((u : ℕ) → Fit u → used u < long u → is_le (cmp (el w (used w)) (el u (used u))) ≡ true) → (n < length xs) × (get_or xs n d ≡ el w (used w)) × Used (suc n) (bumped used w)
    pub done : ((u : ℕ) → Fit u → used u < long u → ⊥) → length xs ≤ n

  pub goes_on : (n : ℕ) (used : ℕ → ℕ) → Used n used → GoesOn n used
  goes_on n used exact = record {
    next = λ w fw hw best. let p = next_is n used exact w fw hw best in (p.0, p.1, next_used n used exact w fw hw best);
    done = none_next n used exact;
  }
