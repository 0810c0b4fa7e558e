-- The tracks that end at a pose are those that end on the rung before, extended and merged. Assumes nothing.
use Rattle.std.proofs.Common.{◌≡◌, ℕ, ◌<◌, ◌≤◌, true, false, ltb, ◌⊎◌, [], ◌∷◌, length, get_or, drop, Ordering, Less, Equal, Greater, sym, refl, ap, ◌∙◌, subst, inl, inr, arith}
use Rattle.std.specs.Ordering.{is_le, ordering_then, nat_cmp}
use Rattle.std.proofs.lemmas.Bool.{false≢true, and_parts, and_from, ltb-true, lt-ltb, cases_eq, cases_order}
use Rattle.ladder.specs.declared.poses.Limits.{Limits}
use Rattle.ladder.specs.Moves.{turns}
use Rattle.ladder.specs.Rules.{Rules, Lawful, Reached, Short, Orders}
use Rattle.ladder.specs.Tracks.{Rung, Ladder, Track, Bounded, Admissible, all_within, moves, step_at, steps_back, in_range, cost}
use Rattle.ladder.specs.Listed.{peel, In}
use Rattle.ladder.specs.Ranking.{ending, may_move, Candidate, by_candidate, CostsReached, candidate, Emitted, Merges, RanksMerge}
use Rattle.ladder.specs.Ranked.{Ranks, self, ranks_of, ranks_then, ranks_from_order, order_from_ranks, ordering_then_equal}
use Rattle.ladder.specs.Numbers.{rank_ranks, rank_same, rank_self}
use Rattle.ladder.specs.Laws.{reached_join, reached_more}
use Rattle.ladder.proofs.Sorting.{in_place, ascending_less, by_place}
use Rattle.ladder.proofs.Peeled.{Sound, sound, reached, within_short, tail_sound, less_cheaper}
use Rattle.ladder.proofs.Merging.{goes_on}
use Rattle.ladder.proofs.Endings.{R, same, in_ending, ending_sound, ending_ascends, at_ending, rank_once, rank_at, rank_reached, single}

-- ---- comparisons put together

then_decided : (o a b : Ordering) → (o ≡ Equal → ⊥) → ordering_then o a ≡ ordering_then o b
then_decided Less a b h = refl
then_decided Equal a b h = absurd (h refl)
then_decided Greater a b h = refl

then_again : (o a : Ordering) → ordering_then o (ordering_then o a) ≡ ordering_then o a
then_again Less a = refl
then_again Equal a = refl
then_again Greater a = refl

le_cases : (o : Ordering) → is_le o ≡ true → (o ≡ Less) ⊎ (o ≡ Equal)
le_cases Less h = inl refl
le_cases Equal h = inr refl
le_cases Greater h = absurd (false≢true h)

-- ---- candidates

module _ {V P : Type 0} (c : Rules V P) (laws : Lawful c) where
  all_four : (x y : Candidate V) → CostsReached c x → CostsReached c y → by_candidate c x y ≡ Equal → x ≡ y
  all_four x y h k e =
      let p = ordering_then_equal _ _ e in
      let q = ordering_then_equal _ _ p.1 in
      let s = ordering_then_equal _ _ q.1 in
      let whole = (laws.order.same x.whole y.whole h.0 k.0).0 p.0 in
      let front = (laws.order.same x.front y.front h.1 k.1).0 q.0 in
      let pose = rank_same x.pose y.pose s.0 in
      let rank_at = rank_same x.rank_at y.rank_at s.1 in
      λ i. record { whole = whole i; front = front i; pose = pose i; rank_at = rank_at i }

  -- candidates with reached costs are in a total order, and equal only where all four parts are
  pub candidates_order : Orders (CostsReached c) (by_candidate c)
  candidates_order =
      order_from_ranks (ranks_then (ranks_of (CostsReached c) (Reached c 127) (λ x. x.whole) c.compare (λ x h. h.0) costs) (ranks_then (ranks_of (CostsReached c) (Reached c 127) (λ x. x.front) c.compare (λ x h. h.1) costs) (ranks_then (ranks_of (CostsReached c) (λ (n : ℕ). Unit {0}) (λ x. x.pose) nat_cmp (λ x h. tt) rank_ranks) (ranks_of (CostsReached c) (λ (n : ℕ). Unit {0}) (λ x. x.rank_at) nat_cmp (λ x h. tt) rank_ranks)))) all_four
    where
      costs : Ranks (Reached c 127) c.compare
      costs = ranks_from_order laws.order

-- ---- ranks

module _ {V P : Type 0} (c : Rules V P) (laws : Lawful c) (l : Limits) (b : Bounded l) where
  -- the first part of a comparison of two tracks
  peel_first : (r : Rung) (rs : Ladder) (s t : Track) → Sound l (r ∷ rs) s → Sound l (r ∷ rs) t → (a : Ordering) × (peel c (r ∷ rs) s t ≡ ordering_then (c.compare (cost c (r ∷ rs) s) (cost c (r ∷ rs) t)) (ordering_then (nat_cmp (get_or s 0 0) (get_or t 0 0)) a))
  peel_first r rs [] t h k = absurd (false≢true h.0)
  peel_first r rs (i ∷ s) [] h k = absurd (false≢true k.0)
  peel_first r rs (i ∷ s) (j ∷ t) h k = (peel c rs s t, refl)

  module _ (q : Rung) (rs : Ladder) (n128 : length (q ∷ rs) ≤ 128) where
    -- the track of rank i at pose u
    abbrev ranked : ℕ → ℕ → Track
    ranked u i = get_or (ending c l (q ∷ rs) u) i []

    -- the costs of two such tracks, compared
    abbrev costs : Track → Track → Ordering
    costs s t = c.compare (cost c (q ∷ rs) s) (cost c (q ∷ rs) t)

    ends_same : (u i j : ℕ) → i < length (ending c l (q ∷ rs) u) → j < length (ending c l (q ∷ rs) u) → ordering_then (costs (ranked u i) (ranked u j)) (ordering_then (nat_cmp u u) (nat_cmp i j)) ≡ peel c (q ∷ rs) (ranked u i) (ranked u j)
    ends_same u i j h k =
        let z : peel c (q ∷ rs) (ranked u i) (ranked u j) ≡ nat_cmp i j = by_place (R c laws l b (q ∷ rs) n128) (same c laws l b (q ∷ rs) n128) (ending c l (q ∷ rs) u) [] (ending_sound c laws l b (q ∷ rs) n128 u) (ending_ascends c laws l b (q ∷ rs) n128 u) i j h k in
        let f = peel_first q rs (ranked u i) (ranked u j) (sound l (q ∷ rs) (ranked u i) (at_ending c laws l b (q ∷ rs) n128 u i h).0) (sound l (q ∷ rs) (ranked u j) (at_ending c laws l b (q ∷ rs) n128 u j k).0) in
        let o : Ordering = costs (ranked u i) (ranked u j) in
        ap (λ x. ordering_then o (ordering_then x (nat_cmp i j))) (rank_self u) ∙ ap (ordering_then o) (sym z ∙ f.1) ∙ then_again o _ ∙ sym f.1

    ends_apart : (u w i j : ℕ) → (u ≡ w → ⊥) → i < length (ending c l (q ∷ rs) u) → j < length (ending c l (q ∷ rs) w) → ordering_then (costs (ranked u i) (ranked w j)) (ordering_then (nat_cmp u w) (nat_cmp i j)) ≡ peel c (q ∷ rs) (ranked u i) (ranked w j)
    ends_apart u w i j ne h k =
        let x = at_ending c laws l b (q ∷ rs) n128 u i h in
        let y = at_ending c laws l b (q ∷ rs) n128 w j k in
        let f = peel_first q rs (ranked u i) (ranked w j) (sound l (q ∷ rs) (ranked u i) x.0) (sound l (q ∷ rs) (ranked w j) y.0) in
        let o : Ordering = costs (ranked u i) (ranked w j) in
        ap (ordering_then o) (then_decided (nat_cmp u w) (nat_cmp i j) f.0 (λ e. ne (rank_same u w e)) ∙ ap (λ m. ordering_then (nat_cmp m w) f.0) (sym x.1) ∙ ap (λ m. ordering_then (nat_cmp (get_or (ranked u i) 0 0) m) f.0) (sym y.1)) ∙ sym f.1

    -- two tracks by cost, then by the pose at which they end, then by their ranks there: that is the peel order
    pub ends_compare : (u w i j : ℕ) → i < length (ending c l (q ∷ rs) u) → j < length (ending c l (q ∷ rs) w) → ordering_then (costs (ranked u i) (ranked w j)) (ordering_then (nat_cmp u w) (nat_cmp i j)) ≡ peel c (q ∷ rs) (ranked u i) (ranked w j)
    ends_compare u w i j h k = step (cases_eq u w) k
      where
        step : (u ≡ w) ⊎ (u ≡ w → ⊥) → j < length (ending c l (q ∷ rs) w) → ordering_then (costs (ranked u i) (ranked w j)) (ordering_then (nat_cmp u w) (nat_cmp i j)) ≡ peel c (q ∷ rs) (ranked u i) (ranked w j)
        step (inl e) = subst (λ n. j < length (ending c l (q ∷ rs) n) → ordering_then (costs (ranked u i) (ranked n j)) (ordering_then (nat_cmp u n) (nat_cmp i j)) ≡ peel c (q ∷ rs) (ranked u i) (ranked n j)) e (ends_same u i j h)
        step (inr ne) = ends_apart u w i j ne h

  module _ (r q : Rung) (rs : Ladder) (n128 : length (r ∷ q ∷ rs) ≤ 128) (v : ℕ) where
    n127 : length (q ∷ rs) ≤ 128
    n127 = omega arith

    -- the extension of the track of rank i at pose u of the rung before
    abbrev ext : ℕ → ℕ → Track
    ext u i = v ∷ get_or (ending c l (q ∷ rs) u) i []

    -- candidates are compared as their tracks are
    pub candidates_peel : (u w i j : ℕ) → i < length (ending c l (q ∷ rs) u) → j < length (ending c l (q ∷ rs) w) → by_candidate c (candidate c l r (q ∷ rs) v u i) (candidate c l r (q ∷ rs) v w j) ≡ peel c (r ∷ q ∷ rs) (ext u i) (ext w j)
    candidates_peel u w i j h k =
        ap (ordering_then (c.compare (cost c (r ∷ q ∷ rs) (ext u i)) (cost c (r ∷ q ∷ rs) (ext w j)))) (ends_compare q rs n127 u w i j h k ∙ sym (ap (λ o. ordering_then o (peel c (q ∷ rs) (ranked q rs n127 u i) (ranked q rs n127 w j))) (rank_self v)))

    -- the cost of an extension is that of its front and one price more
    pub cost_extended : (u i : ℕ) → i < length (ending c l (q ∷ rs) u) → cost c (r ∷ q ∷ rs) (ext u i) ≡ c.join (cost c (q ∷ rs) (get_or (ending c l (q ∷ rs) u) i [])) (c.price (turns (step_at q u).pose (step_at r v).pose))
    cost_extended u i h =
        let at = rank_at c laws l b q rs n127 u i h in
        let P : Track → Type 0 = λ t. cost c (r ∷ q ∷ rs) (v ∷ t) ≡ c.join (cost c (q ∷ rs) t) (c.price (turns (step_at q u).pose (step_at r v).pose)) in
        subst P (sym at.begins) refl

    -- both costs of a candidate by an admissible move are reached
    pub candidate_reached : (u i : ℕ) → may_move l q u r v ≡ true → i < length (ending c l (q ∷ rs) u) → CostsReached c (candidate c l r (q ∷ rs) v u i)
    candidate_reached u i m h =
        let front : Reached c 126 (cost c (q ∷ rs) (get_or (ending c l (q ∷ rs) u) i [])) = rank_reached c laws l b q rs n127 126 u i (omega arith) h in
        let whole = reached_join c 126 (cost c (q ∷ rs) (get_or (ending c l (q ∷ rs) u) i [])) (turns (step_at q u).pose (step_at r v).pose) front (within_short l (turns (step_at q u).pose (step_at r v).pose) b m) in
        (subst (Reached c 127) (sym (cost_extended u i h)) whole, reached_more c 126 127 (cost c (q ∷ rs) (get_or (ending c l (q ∷ rs) u) i [])) (omega arith) front)

    -- an extension of an admissible track by an admissible move
    extends : (u : ℕ) (t : Track) → v < length r → may_move l q u r v ≡ true → Admissible l (q ∷ rs) t → get_or t 0 0 ≡ u → Admissible l (r ∷ q ∷ rs) (v ∷ t)
    extends u [] hv m h e = absurd (false≢true h.numbered)
    extends u (k ∷ t) hv m h e = record {
      some_rung = omega arith;
      numbered = and_from _ _ (lt-ltb v (length r) hv) h.numbered;
      moved = and_from _ _ (subst (λ n. may_move l q n r v ≡ true) (sym e) m) h.moved;
    }

    -- and every track that ends at v is one
    splits : (y : Track) → Admissible l (r ∷ q ∷ rs) y → get_or y 0 0 ≡ v → (u : ℕ) × (u < length q) × (may_move l q u r v ≡ true) × ((t : Track) × (y ≡ v ∷ t) × Admissible l (q ∷ rs) t × (get_or t 0 0 ≡ u))
    splits [] h e = absurd (false≢true h.numbered)
    splits (j ∷ []) h e = absurd (false≢true (and_parts (ltb j (length r)) false h.numbered).1)
    splits (j ∷ k ∷ t) h e =
        let p = and_parts (ltb j (length r)) (in_range (q ∷ rs) (k ∷ t)) h.numbered in
        let m = and_parts (may_move l q k r j) (all_within l (moves (steps_back (q ∷ rs) (k ∷ t)))) h.moved in
        (k, ltb-true _ _ (and_parts (ltb k (length q)) (in_range rs t) p.1).0, subst (λ n. may_move l q k r n ≡ true) e m.0, (k ∷ t, ap (λ n. n ∷ k ∷ t) e, record { some_rung = omega arith; numbered = p.1; moved = m.1 }, refl))

    -- THE STEP: of two tracks that end at one pose, the earlier stays the earlier when both are extended by one move
    pub extended_less : (u : ℕ) (s t : Track) → Sound l (r ∷ q ∷ rs) (v ∷ u ∷ s) → Sound l (r ∷ q ∷ rs) (v ∷ u ∷ t) → Short (turns (step_at q u).pose (step_at r v).pose) → peel c (q ∷ rs) (u ∷ s) (u ∷ t) ≡ Less → peel c (r ∷ q ∷ rs) (v ∷ u ∷ s) (v ∷ u ∷ t) ≡ Less
    extended_less u s t hs ht short less = step (le_cases _ mono)
      where
        prefix_reached : (t : Track) → Sound l (r ∷ q ∷ rs) (v ∷ u ∷ t) → Reached c 126 (cost c (q ∷ rs) (u ∷ t))
        prefix_reached t h = reached c l q rs 126 (u ∷ t) b (omega arith) (tail_sound l r (q ∷ rs) v (u ∷ t) h)

        mono : is_le (c.compare (cost c (r ∷ q ∷ rs) (v ∷ u ∷ s)) (cost c (r ∷ q ∷ rs) (v ∷ u ∷ t))) ≡ true
        mono = laws.monotone (cost c (q ∷ rs) (u ∷ s)) (cost c (q ∷ rs) (u ∷ t)) (turns (step_at q u).pose (step_at r v).pose) (prefix_reached s hs) (prefix_reached t ht) short (less_cheaper c (q ∷ rs) (u ∷ s) (u ∷ t) less)

        step : (c.compare (cost c (r ∷ q ∷ rs) (v ∷ u ∷ s)) (cost c (r ∷ q ∷ rs) (v ∷ u ∷ t)) ≡ Less) ⊎ (c.compare (cost c (r ∷ q ∷ rs) (v ∷ u ∷ s)) (cost c (r ∷ q ∷ rs) (v ∷ u ∷ t)) ≡ Equal) → peel c (r ∷ q ∷ rs) (v ∷ u ∷ s) (v ∷ u ∷ t) ≡ Less
        step (inl e) = ap (λ o. ordering_then o (ordering_then (nat_cmp v v) (peel c (q ∷ rs) (u ∷ s) (u ∷ t)))) e
        step (inr e) = ap (λ o. ordering_then o (ordering_then (nat_cmp v v) (peel c (q ∷ rs) (u ∷ s) (u ∷ t)))) e ∙ ap (λ o. ordering_then o (peel c (q ∷ rs) (u ∷ s) (u ∷ t))) (rank_self v) ∙ less

    extended_less_at : (u : ℕ) (s t : Track) → Sound l (r ∷ q ∷ rs) (v ∷ s) → Sound l (r ∷ q ∷ rs) (v ∷ t) → get_or s 0 0 ≡ u → get_or t 0 0 ≡ u → may_move l q u r v ≡ true → peel c (q ∷ rs) s t ≡ Less → peel c (r ∷ q ∷ rs) (v ∷ s) (v ∷ t) ≡ Less
    extended_less_at u [] t hs ht e f m = absurd (false≢true (and_parts (ltb v (length r)) false hs.0).1)
    extended_less_at u (i ∷ s) [] hs ht e f m = absurd (false≢true (and_parts (ltb v (length r)) false ht.0).1)
    extended_less_at u (i ∷ s) (j ∷ t) hs ht e f m =
        subst (λ x. Sound l (r ∷ q ∷ rs) (v ∷ x ∷ s) → Sound l (r ∷ q ∷ rs) (v ∷ j ∷ t) → peel c (q ∷ rs) (x ∷ s) (j ∷ t) ≡ Less → peel c (r ∷ q ∷ rs) (v ∷ x ∷ s) (v ∷ j ∷ t) ≡ Less) (sym e) (subst (λ y. Sound l (r ∷ q ∷ rs) (v ∷ u ∷ s) → Sound l (r ∷ q ∷ rs) (v ∷ y ∷ t) → peel c (q ∷ rs) (u ∷ s) (y ∷ t) ≡ Less → peel c (r ∷ q ∷ rs) (v ∷ u ∷ s) (v ∷ y ∷ t) ≡ Less) (sym f) (λ ks kt less. extended_less u s t ks kt (within_short l (turns (step_at q u).pose (step_at r v).pose) b m) less)) hs ht

    module _ (hv : v < length r) where
      ext_admissible : (u i : ℕ) → may_move l q u r v ≡ true → i < length (ending c l (q ∷ rs) u) → Admissible l (r ∷ q ∷ rs) (ext u i)
      ext_admissible u i m h = let x = at_ending c laws l b (q ∷ rs) n127 u i h in extends u (get_or (ending c l (q ∷ rs) u) i []) hv m x.0 x.1

      ext_sound : (u i : ℕ) → may_move l q u r v ≡ true → i < length (ending c l (q ∷ rs) u) → Sound l (r ∷ q ∷ rs) (ext u i)
      ext_sound u i m h = sound l (r ∷ q ∷ rs) (ext u i) (ext_admissible u i m h)

      ext_in : (u i : ℕ) → may_move l q u r v ≡ true → i < length (ending c l (q ∷ rs) u) → In (ext u i) (ending c l (r ∷ q ∷ rs) v)
      ext_in u i m h = in_ending c laws l b (r ∷ q ∷ rs) n128 v (ext u i) (ext_admissible u i m h) refl

      -- pose u of rung q has an admissible move to v
      abbrev Fit : ℕ → Type 0
      Fit u = (u < length q) × (may_move l q u r v ≡ true)

      abbrev long : ℕ → ℕ
      long u = length (ending c l (q ∷ rs) u)

      -- each track that ends at v extends one of some rank at some pose
      split : (j : ℕ) → j < length (ending c l (r ∷ q ∷ rs) v) → (u : ℕ) × Fit u × ((i : ℕ) × (i < long u) × (get_or (ending c l (r ∷ q ∷ rs) v) j [] ≡ ext u i))
      split j h =
          let x = at_ending c laws l b (r ∷ q ∷ rs) n128 v j h in
          ranked_at (splits (get_or (ending c l (r ∷ q ∷ rs) v) j []) x.0 x.1)
        where
          at_rank : (u : ℕ) (t : Track) → get_or (ending c l (r ∷ q ∷ rs) v) j [] ≡ v ∷ t → (i : ℕ) × (i < long u) × (get_or (ending c l (q ∷ rs) u) i [] ≡ t) → (i : ℕ) × (i < long u) × (get_or (ending c l (r ∷ q ∷ rs) v) j [] ≡ ext u i)
          at_rank u t e p = (p.0, p.1, e ∙ ap (λ s. v ∷ s) (sym p.2))

          ranked_at : (u : ℕ) × (u < length q) × (may_move l q u r v ≡ true) × ((t : Track) × (get_or (ending c l (r ∷ q ∷ rs) v) j [] ≡ v ∷ t) × Admissible l (q ∷ rs) t × (get_or t 0 0 ≡ u)) → (u : ℕ) × Fit u × ((i : ℕ) × (i < long u) × (get_or (ending c l (r ∷ q ∷ rs) v) j [] ≡ ext u i))
          ranked_at y =
              (y.0, (y.1, y.2), at_rank y.0 y.3.0 y.3.1 (in_place (ending c l (q ∷ rs) y.0) y.3.0 [] (in_ending c laws l b (q ∷ rs) n127 y.0 y.3.0 y.3.2 y.3.3)))

      -- at one pose a lower rank stays the lower
      rising : (u i j : ℕ) → Fit u → i ≤ j → j < long u → is_le (peel c (r ∷ q ∷ rs) (ext u i) (ext u j)) ≡ true
      rising u i j f h k = step (cases_order i j)
        where
          step : (i ≡ j) ⊎ ((i < j) ⊎ (j < i)) → is_le (peel c (r ∷ q ∷ rs) (ext u i) (ext u j)) ≡ true
          step (inl e) = subst (λ n. is_le (peel c (r ∷ q ∷ rs) (ext u i) (ext u n)) ≡ true) e (ap is_le (self (R c laws l b (r ∷ q ∷ rs) n128) (ext u i) (ext_sound u i f.1 (omega arith))))
          step (inr (inl e)) = ap is_le (extended_less_at u (get_or (ending c l (q ∷ rs) u) i []) (get_or (ending c l (q ∷ rs) u) j []) (ext_sound u i f.1 (omega arith)) (ext_sound u j f.1 k) (at_ending c laws l b (q ∷ rs) n127 u i (omega arith)).1 (at_ending c laws l b (q ∷ rs) n127 u j k).1 f.1 (ascending_less (peel c (q ∷ rs)) (ending c l (q ∷ rs) u) i j [] (ending_ascends c laws l b (q ∷ rs) n127 u) e k))
          step (inr (inr e)) = absurd (omega arith)

      -- a track extends one of one rank at one pose
      one : (u w i k : ℕ) → Fit u → Fit w → i < long u → k < long w → ext u i ≡ ext w k → (u ≡ w) × (i ≡ k)
      one u w i k f g hi hk e = (alike, rank_once c laws l b (q ∷ rs) n127 w i k (subst (λ z. i < long z) alike hi) hk (sym (ap (λ z. get_or (ending c l (q ∷ rs) z) i []) alike) ∙ fronts))
        where
          fronts : get_or (ending c l (q ∷ rs) u) i [] ≡ get_or (ending c l (q ∷ rs) w) k []
          fronts = ap (λ t. drop 1 t) e

          alike : u ≡ w
          alike =
              sym (at_ending c laws l b (q ∷ rs) n127 u i hi).1 ∙ ap (λ t. get_or t 0 0) fronts ∙ (at_ending c laws l b (q ∷ rs) n127 w k hk).1

      merges : (n : ℕ) (used : ℕ → ℕ) → Emitted c l r q rs v n used → Merges c l r q rs v n used
      merges n used em =
          let on = goes_on (R c laws l b (r ∷ q ∷ rs) n128) (same c laws l b (r ∷ q ∷ rs) n128) (ending c l (r ∷ q ∷ rs) v) [] (ending_sound c laws l b (r ∷ q ∷ rs) n128 v) (ending_ascends c laws l b (r ∷ q ∷ rs) n128 v) Fit long ext (λ u i f h. ext_in u i f.1 h) split rising one n used (λ u i f. em.exactly u i f.0 f.1) in
          record {
            next = λ w o best. let p = on.next w (o.numbered, o.moved) o.more (λ u f h. sym (ap is_le (candidates_peel w u (used w) (used u) o.more h)) ∙ best u (record { numbered = f.0; moved = f.1; more = h })) in (p.0, p.1, record { exactly = λ u i h m. p.2 u i (h, m) });
            done = λ none. on.done (λ u f h. none u (record { numbered = f.0; moved = f.1; more = h }));
          }

-- before the first rank nothing is used
pub none_emitted : {V P : Type 0} (c : Rules V P) (l : Limits) (r q : Rung) (rs : Ladder) (v : ℕ) → Emitted c l r q rs v 0 (λ u. 0)
none_emitted c l r q rs v = record { exactly = λ u i hu m hi. (λ h. absurd (omega arith), λ x. let h : x.0 < 0 = x.1 in absurd (omega arith)) }

pub ranks_merge : {V P : Type 0} (c : Rules V P) → Lawful c → RanksMerge c
ranks_merge c laws = record {
  orders = candidates_order c laws;
  single = λ l b r v hv. single c laws l b r v hv;
  merges = λ l b r q rs n128 v n used hv em. merges c laws l b r q rs n128 v hv n used em;
}
