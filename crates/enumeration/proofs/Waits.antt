-- One step at a pose, over the list of its candidates. Assumes nothing.
use Rattle.std.proofs.Common.{◌≡◌, ℕ, suc, ◌+◌, ◌<◌, ◌≤◌, Bool, true, false, cond, eqb, List, [], ◌∷◌, length, get_or, take, Some, None, sum_by, sym, refl, ap, ◌∙◌, subst, arith}
use Rattle.std.specs.Ordering.{is_le}
use Rattle.std.specs.List.Sorted.{IsPermutation}
use Rattle.std.specs.List.{AllByRecursion}
use Rattle.std.proofs.lemmas.List.Sums.{sum_by-cons}
use Rattle.std.proofs.lemmas.List.{get_or-take, length-take}
use Rattle.std.proofs.lemmas.List.Sorted.{sum_by-IsPermutation}
use Rattle.std.proofs.ByRecursion.{all_shuffled, All-get_or, All-from_get_or}
use Rattle.std.proofs.lemmas.Bool.{eqb-true, eq-eqb}
use Rattle.heap.specs.Order.{Stands, Least, Pushed, Popped}
use Rattle.ladder.specs.declared.poses.Limits.{Limits}
use Rattle.ladder.specs.Rules.{Rules, Lawful}
use Rattle.ladder.specs.Tracks.{Rung, Ladder, Bounded}
use Rattle.ladder.specs.Ranking.{ending, candidate, by_candidate, Emitted, Open, Merges, bumped}
use Rattle.ladder.proofs.Merged.{ranks_merge}
use Rattle.enumeration.specs.declared.records.Candidate.{Candidate}
use Rattle.enumeration.specs.Waiting.{plain, ReachedBoth, earlier}
use Rattle.enumeration.specs.Waits.{origin_of, from, only_at, nowhere, StandsFor, Waits, FoundSoFar, Successor, RankedNext}
use Rattle.enumeration.proofs.Orders.{in_order, not_after}

abbrev bit : Bool → ℕ
bit b = cond b 1 0

-- where one comes from pose u there is a place of one
place_from : {C : Type 0} (u : ℕ) (xs : List (Candidate C)) → 1 ≤ sum_by (from u) xs → (k : ℕ) × (k < length xs) × ((d : Candidate C) → origin_of (get_or xs k d) ≡ u)
place_from u [] h = absurd (let no : ⊥ = omega arith in no)
place_from {C} u (x ∷ xs) h = at (eqb (origin_of x) u) refl (place_from u xs)
  where
    at : (b : Bool) → eqb (origin_of x) u ≡ b → (1 ≤ sum_by (from u) xs → (k : ℕ) × (k < length xs) × ((d : Candidate C) → origin_of (get_or xs k d) ≡ u)) → (k : ℕ) × (k < length (x ∷ xs)) × ((d : Candidate C) → origin_of (get_or (x ∷ xs) k d) ≡ u)
    at true e f = (0, omega arith, λ d. eqb-true _ _ e)
    at false e f =
        let more : 1 ≤ sum_by (from u) xs = omega (arith, h, sum_by-cons (from u) x xs, ap bit e) in
        let i = f more in (suc i.0, omega (arith, i.1), i.2)

-- where none comes from pose w, each comes from another
others : {C : Type 0} (w : ℕ) (xs : List (Candidate C)) → sum_by (from w) xs ≡ 0 → AllByRecursion (λ x. eqb (origin_of x) w ≡ false) xs
others w [] h = tt
others w (x ∷ xs) h = (at (eqb (origin_of x) w) refl, others w xs (omega (arith, h, sum_by-cons (from w) x xs)))
  where
    at : (b : Bool) → eqb (origin_of x) w ≡ b → eqb (origin_of x) w ≡ false
    at true e = absurd (let no : ⊥ = omega (arith, h, sum_by-cons (from w) x xs, ap bit e) in no)
    at false e = e

-- what two facts give of each
pub all_both : {X : Type 0} (P Q R : X → Type 0) → ((x : X) → P x → Q x → R x) → (xs : List X) → AllByRecursion P xs → AllByRecursion Q xs → AllByRecursion R xs
all_both P Q R f [] p q = tt
all_both P Q R f (x ∷ xs) p q = (f x p.0 q.0, all_both P Q R f xs p.1 q.1)

module _ {C P : Type 0} (c : Rules C P) (laws : Lawful c) (l : Limits) (b : Bounded l) (r q : Rung) (rs : Ladder) (few : length (r ∷ q ∷ rs) ≤ 128) (v : ℕ) (vr : v < length r) where
  merges : (n : ℕ) (used : ℕ → ℕ) → Emitted c l r q rs v n used → Merges c l r q rs v n used
  merges n used e = (ranks_merge c laws).merges l b r q rs few v n used vr e

  -- the candidate of a pose where one is due is entered: there none is due any more
  pub entered : (used due due' : ℕ → ℕ) (w : ℕ) (x : Candidate C) (xs zs : List (Candidate C)) → Waits c l r q rs v used due xs → origin_of x ≡ w → StandsFor c l r q rs v used x → IsPermutation (x ∷ xs) zs → ((u : ℕ) → due' u + only_at w u ≡ due u) → Waits c l r q rs v used due' zs
  entered used due due' w x xs zs h o s m less = record {
    each = all_shuffled (StandsFor c l r q rs v used) (x ∷ xs) zs m (s, h.each);
    once = λ u. omega (arith, same u, h.once u, less u);
    every = λ u i. omega (arith, same u, h.every u i, less u);
  }
    where
      same : (u : ℕ) → sum_by (from u) zs ≡ only_at w u + sum_by (from u) xs
      same u = sum_by-IsPermutation (from u) (x ∷ xs) zs m ∙ sum_by-cons (from u) x xs ∙ ap (λ o. cond (eqb o u) 1 0 + sum_by (from u) xs) o

  -- a pose where one is due is not open: there is none to enter
  pub skipped : (used due due' : ℕ → ℕ) (w : ℕ) (xs : List (Candidate C)) → Waits c l r q rs v used due xs → (Open c l r q rs v used w → ⊥) → ((u : ℕ) → due' u + only_at w u ≡ due u) → Waits c l r q rs v used due' xs
  skipped used due due' w xs h shut less = record {
    each = h.each;
    once = λ u. omega (arith, h.once u, less u);
    every = λ u i. at u i (eqb w u) refl;
  }
    where
      at : (u : ℕ) → Open c l r q rs v used u → (b : Bool) → eqb w u ≡ b → 1 ≤ due' u + sum_by (from u) xs
      at u i true e = absurd (shut (subst (Open c l r q rs v used) (sym (eqb-true _ _ e)) i))
      at u i false e = omega (arith, h.every u i, less u, ap bit e)

  -- the least is drawn
  module _ (n : ℕ) (used : ℕ → ℕ) (x : Candidate C) (xs ys : List (Candidate C)) (em : Emitted c l r q rs v n used) (h : Waits c l r q rs v used nowhere xs) (fit : AllByRecursion (ReachedBoth c) xs) (m : IsPermutation xs (x ∷ ys)) (least : Least (earlier c) x xs) where
    all_x : AllByRecursion (StandsFor c l r q rs v used) (x ∷ ys)
    all_x = all_shuffled (StandsFor c l r q rs v used) xs (x ∷ ys) m h.each

    fit_x : AllByRecursion (ReachedBoth c) (x ∷ ys)
    fit_x = all_shuffled (ReachedBoth c) xs (x ∷ ys) m fit

    best : (u : ℕ) → Open c l r q rs v used u → is_le (by_candidate c (candidate c l r (q ∷ rs) v (origin_of x) (used (origin_of x))) (candidate c l r (q ∷ rs) v u (used u))) ≡ true
    best u i =
        let k = place_from u xs (omega (arith, h.every u i)) in
        let y = get_or xs k.0 x in
        let is : plain y ≡ candidate c l r (q ∷ rs) v u (used u) = (All-get_or (StandsFor c l r q rs v used) xs k.0 x k.1 h.each).is ∙ ap (λ p. candidate c l r (q ∷ rs) v p (used p)) (k.2 x) in
        let le : is_le (by_candidate c (plain x) (plain y)) ≡ true = not_after c laws x y fit_x.0 (All-get_or (ReachedBoth c) xs k.0 x k.1 fit) (least k.0 x k.1) in
        subst (λ p. is_le (by_candidate c p (candidate c l r (q ∷ rs) v u (used u))) ≡ true) all_x.0.is (subst (λ p. is_le (by_candidate c (plain x) p) ≡ true) is le)

    next : (n < length (ending c l (r ∷ q ∷ rs) v)) × (get_or (ending c l (r ∷ q ∷ rs) v) n [] ≡ v ∷ get_or (ending c l (q ∷ rs) (origin_of x)) (used (origin_of x)) []) × Emitted c l r q rs v (suc n) (bumped used (origin_of x))
    next = (merges n used em).next (origin_of x) all_x.0.opens best

    -- it is the track of the next rank
    pub drawn_rank : RankedNext c l r q rs v n used x
    drawn_rank = record {
      exists = next.0;
      extends = next.1 ∙ ap (λ i. v ∷ get_or (ending c l (q ∷ rs) (origin_of x)) i []) (sym (ap (λ p. p.rank_at) all_x.0.is));
      stands = all_x.0;
    }

    -- one track more of the pose that it comes from is used
    pub drawn_emitted : Emitted c l r q rs v (suc n) (bumped used (origin_of x))
    drawn_emitted = next.2

    count : (u : ℕ) → only_at (origin_of x) u + sum_by (from u) ys ≡ sum_by (from u) xs
    count u = sym (sum_by-cons (from u) x ys) ∙ sum_by-IsPermutation (from u) xs (x ∷ ys) m

    none_left : sum_by (from (origin_of x)) ys ≡ 0
    none_left = omega (arith, h.once (origin_of x), count (origin_of x), ap bit (eq-eqb (origin_of x) (origin_of x) refl))

    kept : (y : Candidate C) → StandsFor c l r q rs v used y → eqb (origin_of y) (origin_of x) ≡ false → StandsFor c l r q rs v (bumped used (origin_of x)) y
    kept y s e =
        let same : bumped used (origin_of x) (origin_of y) ≡ used (origin_of y) = ap (λ b. cond b (suc (used (origin_of y))) (used (origin_of y))) e in
        record {
          opens = record { numbered = s.opens.numbered; moved = s.opens.moved; more = subst (λ i. i < length (ending c l (q ∷ rs) (origin_of y))) (sym same) s.opens.more };
          is = s.is ∙ ap (candidate c l r (q ∷ rs) v (origin_of y)) (sym same);
        }

    no_less : (u : ℕ) (b : Bool) → used u ≤ cond b (suc (used u)) (used u)
    no_less u true = omega arith
    no_less u false = omega arith

    -- the others wait on, and the successor of the one drawn is due
    pub drawn_waits : Waits c l r q rs v (bumped used (origin_of x)) (only_at (origin_of x)) ys
    drawn_waits = record {
      each = all_both (StandsFor c l r q rs v used) (λ y. eqb (origin_of y) (origin_of x) ≡ false) (StandsFor c l r q rs v (bumped used (origin_of x))) kept ys all_x.1 (others (origin_of x) ys none_left);
      once = λ u. omega (arith, count u, h.once u);
      every = λ u i. omega (arith, count u, h.every u (record { numbered = i.numbered; moved = i.moved; more = omega (arith, i.more, no_less u (eqb u (origin_of x))) }));
    }

  -- where nothing waits there is no further rank
  pub none_next : (n : ℕ) (used : ℕ → ℕ) → Emitted c l r q rs v n used → Waits c l r q rs v used nowhere [] → length (ending c l (r ∷ q ∷ rs) v) ≤ n
  none_next n used em h = (merges n used em).done (λ u i. let k = h.every u i in omega arith)

  all_fit : (xs : List (Candidate C)) (m : ℕ) (d : Candidate C) → Stands (ReachedBoth c) (earlier c) xs m → AllByRecursion (ReachedBoth c) (take m xs)
  all_fit xs m d s = All-from_get_or (ReachedBoth c) (take m xs) d (λ i h. let lt : i < m = omega (arith, h, length-take m xs) in subst (ReachedBoth c) (sym (get_or-take m xs i d lt)) (s.sound i d lt))

  -- the same steps, over the heap that holds the candidates
  pub pushed_found : (n : ℕ) (used due due' : ℕ → ℕ) (w : ℕ) (x : Candidate C) (xs zs : List (Candidate C)) (m k : ℕ) → FoundSoFar c l r q rs v n used due xs m → Successor c l r q rs v used w (Some x) → ((u : ℕ) → due' u + only_at w u ≡ due u) → Pushed (ReachedBoth c) (earlier c) xs m x zs k → FoundSoFar c l r q rs v n used due' zs k
  pushed_found n used due due' w x xs zs m k f s less p = record {
    emitted = f.emitted;
    waits = entered used due due' w x (take m xs) (take k zs) f.waits s.0 s.1 p.items less;
    heap = p.stands (in_order c laws) s.2 f.heap;
  }

  pub skipped_found : (n : ℕ) (used due due' : ℕ → ℕ) (w : ℕ) (xs : List (Candidate C)) (m : ℕ) → FoundSoFar c l r q rs v n used due xs m → Successor c l r q rs v used w None → ((u : ℕ) → due' u + only_at w u ≡ due u) → FoundSoFar c l r q rs v n used due' xs m
  skipped_found n used due due' w xs m f s less = record {
    emitted = f.emitted;
    waits = skipped used due due' w (take m xs) f.waits s less;
    heap = f.heap;
  }

  pub popped_next : (n : ℕ) (used : ℕ → ℕ) (x : Candidate C) (xs ys : List (Candidate C)) (m k : ℕ) → FoundSoFar c l r q rs v n used nowhere xs m → Popped (ReachedBoth c) (earlier c) xs m x ys k → RankedNext c l r q rs v n used x × FoundSoFar c l r q rs v (suc n) (bumped used (origin_of x)) (only_at (origin_of x)) ys k
  popped_next n used x xs ys m k f p =
      let s = p.stands (in_order c laws) f.heap in
      let a = all_fit xs m x f.heap in (
        drawn_rank n used x (take m xs) (take k ys) f.emitted f.waits a p.items s.0,
        record {
          emitted = drawn_emitted n used x (take m xs) (take k ys) f.emitted f.waits a p.items s.0;
          waits = drawn_waits n used x (take m xs) (take k ys) f.emitted f.waits a p.items s.0;
          heap = s.1;
        },
      )

  pub empty_done : (n : ℕ) (used : ℕ → ℕ) (xs : List (Candidate C)) (m : ℕ) → m ≡ 0 → FoundSoFar c l r q rs v n used nowhere xs m → length (ending c l (r ∷ q ∷ rs) v) ≤ n
  empty_done n used xs m e f = none_next n used f.emitted (subst (λ i. Waits c l r q rs v used nowhere (take i xs)) e f.waits)
