-- The poses that reach, as listed, are what the arm offers. Assumes nothing.
use Rattle.std.proofs.Common.{◌≡◌, ℕ, zero, suc, ◌+◌, ◌<◌, ◌≤◌, true, List, pos, ◌<ℤ◌, Some, None, filter, get_or, Option, sym, refl, ap, subst, inl, inr, arith}
use Rattle.std.specs.List.{range_with_len, All, Contains, flat_map}
use Rattle.std.proofs.lemmas.List.Elements.{All-contains, All-map, All-weaker, All-filter, filter_passes}
use Rattle.std.proofs.lemmas.Int.{ints}
use Rattle.std.proofs.lemmas.Bool.{and_parts, and_from, leb-true, le-leb}
use Rattle.job.specs.declared.values.Arm.{Arm}
use Rattle.job.specs.declared.values.Position.{Position}
use Rattle.ladder.specs.declared.poses.Pose.{Pose}
use Rattle.sources.specs.Directions.{sine, cosine}
use Rattle.sources.specs.Reach.{near, reaching_pose, pose, row, rows, reaching}
use Rattle.sources.specs.Files.{reached, Offered}
use Rattle.sources.specs.Offers.{Reaches, Before, Offers}
use Rattle.sources.proofs.Rising.{Rising, rising_get_or, rising_append, rising_kept_by, rising_weaker, rising_map, rising_counting, has_kept_by, has_map, has_joined, has_counting, all_joined, all_counting, same_rising, rising_from_get_or}

module _ (a : Arm) (at : Position) where
  -- the test says what it should
  passes : (s e : ℕ) → Reaches a at s e → reaching_pose a at s e ≡ true
  passes s e r = and_from _ _ (le-leb _ _ r.across) (le-leb _ _ r.along)

  means : (s e : ℕ) → s < 64 → e < 64 → reaching_pose a at s e ≡ true → Reaches a at s e
  means s e h k t =
      let p = and_parts (near a (cosine s) (cosine (s + e)) at.x) (near a (sine s) (sine (s + e)) at.y) t in
      record { shoulder = h; elbow = k; across = leb-true _ _ p.0; along = leb-true _ _ p.1 }

  -- a pose with shoulder s that reaches
  abbrev InRow : ℕ → Pose → Type 0
  InRow s p = (e : ℕ) × (p ≡ pose s e) × Reaches a at s e

  elbows : (s : ℕ) → s < 64 → (es : List ℕ) → All (λ e. e < 64) es → All (λ e. InRow s (pose s e)) (filter (reaching_pose a at s) es)
  elbows s h es below k d l =
      let kept = filter (reaching_pose a at s) es in
      let e = get_or kept k d in
      (e, refl, means s e h (All-filter (reaching_pose a at s) (λ e. e < 64) es below k d l) (filter_passes (reaching_pose a at s) es k d l))

  -- rows and lists up to some elbow or shoulder
  in_row : (s n : ℕ) → s < 64 → n ≤ 64 → All (InRow s) (row a at s n)
  unfolding row
  in_row s n h k =
      All-map (InRow s) (pose s) (filter (reaching_pose a at s) (range_with_len 0 n)) (elbows s h (range_with_len 0 n) (all_counting (λ e. e < 64) 0 n (λ e p q. omega arith)))

  row_rises : (s n : ℕ) → Rising Before (row a at s n)
  unfolding row
  row_rises s n =
      rising_map Before (pose s) (filter (reaching_pose a at s) (range_with_len 0 n))
      (rising_kept_by (λ x y. Before (pose s x) (pose s y)) (reaching_pose a at s) (range_with_len 0 n)
      (rising_weaker (λ x y. x < y) (λ x y. Before (pose s x) (pose s y)) (λ x y h. inr (refl, omega (arith, ints))) (range_with_len 0 n) (rising_counting 0 n)))

  -- of a pose in row s, every pose in a later row comes after
  rows_apart : (s u : ℕ) (p q : Pose) → s < u → InRow s p → InRow u q → Before p q
  rows_apart s u p q h k l =
      inl (let e : pos s <ℤ pos u = omega (arith, ints) in
      subst (λ z. z <ℤ q.shoulder) (sym (ap (λ r. r.shoulder) k.1)) (subst (λ z. pos s <ℤ z) (sym (ap (λ r. r.shoulder) l.1)) e))

  -- the poses with shoulder s
  abbrev whole : ℕ → List Pose
  whole s = row a at s 64

  in_whole : (s : ℕ) → s < 64 → All (InRow s) (whole s)
  in_whole s h = in_row s 64 h (omega arith)

  -- the shoulders from s on, n of them
  from_rise : (s n : ℕ) → s + n ≤ 64 → Rising Before (flat_map whole (range_with_len s n))
  from_rise s zero h = tt
  from_rise s (suc n) h =
      rising_append Before (whole s) (flat_map whole (range_with_len (s + 1) n)) (row_rises s 64) (from_rise (s + 1) n (omega arith))
      (All-weaker (InRow s) (λ p. All (Before p) (flat_map whole (range_with_len (s + 1) n)))
      (λ p k. all_joined (Before p) whole (range_with_len (s + 1) n)
      (all_counting (λ u. All (Before p) (whole u)) (s + 1) n
      (λ u l m. All-weaker (InRow u) (Before p) (λ q j. rows_apart s u p q (omega arith) k j) (whole u) (in_whole u (omega arith)))))
      (whole s) (in_whole s (omega arith)))

  rows_rise : (n : ℕ) → n ≤ 64 → Rising Before (rows a at n)
  unfolding rows
  rows_rise n h = from_rise 0 n (omega arith)

  abbrev Reached : Pose → Type 0
  Reached p = (s : ℕ) × (e : ℕ) × (p ≡ pose s e) × Reaches a at s e

  rows_reach : (n : ℕ) → n ≤ 64 → All Reached (rows a at n)
  unfolding rows
  rows_reach n h =
      all_joined Reached whole (range_with_len 0 n)
      (all_counting (λ s. All Reached (whole s)) 0 n
      (λ s p q. All-weaker (InRow s) Reached (λ x k. (s, k.0, k.1, k.2)) (whole s) (in_whole s (omega arith))))

  -- every pose that reaches is there
  in_a_row : (s e n : ℕ) → e < n → Reaches a at s e → Contains (row a at s n) (pose s e)
  unfolding row
  in_a_row s e n h r =
      has_map (pose s) (filter (reaching_pose a at s) (range_with_len 0 n)) e (has_kept_by (reaching_pose a at s) (range_with_len 0 n) e (passes s e r) (has_counting n e h))

  in_rows : (s e n : ℕ) → s < n → Reaches a at s e → Contains (rows a at n) (pose s e)
  unfolding rows
  in_rows s e n h r = has_joined whole (range_with_len 0 n) s (pose s e) (has_counting n s h) (in_a_row s e 64 r.elbow r)

  pub offers : Offers a at (reaching a at)
  offers = record {
    every = λ s e r. in_rows s e 64 r.shoulder r;
    only = λ p h. All-contains Reached (reaching a at) p (rows_reach 64 (omega arith)) h;
    rising = λ i j d h k. rising_get_or Before (reaching a at) i j d (rows_rise 64 (omega arith)) h k;
  }

never_before : (p : Pose) → Before p p → ⊥
never_before p (inl h) = omega (arith, ints, h)
never_before p (inr h) = omega (arith, ints, h.1)

one_way : (p q : Pose) → Before p q → Before q p → ⊥
one_way p q (inl h) (inl k) = omega (arith, ints, h, k)
one_way p q (inl h) (inr k) = omega (arith, ints, h, k.0)
one_way p q (inr h) (inl k) = omega (arith, ints, h.0, k)
one_way p q (inr h) (inr k) = omega (arith, ints, h.1, k.1)

-- there is no other such list
pub offers_one : (a : Arm) (at : Position) (ps qs : List Pose) → Offers a at ps → Offers a at qs → ps ≡ qs
offers_one a at ps qs o u =
    same_rising Before never_before one_way ps qs (rising_from_get_or Before ps o.rising) (rising_from_get_or Before qs u.rising) (has a at ps qs o u) (has a at qs ps u o)
  where
    has : (a : Arm) (at : Position) (ps qs : List Pose) → Offers a at ps → Offers a at qs → (p : Pose) → Contains ps p → Contains qs p
    has a at ps qs o u p h = let k = o.only p h in subst (Contains qs) (sym k.2) (u.every k.0 k.1 k.3)

-- what an arm offers for a position, where there is an arm and a position
pub reached_offered : (a : Option Arm) (at : Option Position) → Offered a at (reached a at)
reached_offered None at = refl
reached_offered (Some a) None = refl
reached_offered (Some a) (Some at) = offers a at
