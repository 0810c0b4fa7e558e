-- The best of what the poses of the last rung offer is the next of the list. Assumes nothing.
use Rattle.std.proofs.Common.{◌≡◌, ℕ, suc, ◌<◌, ◌≤◌, true, false, ◌⊎◌, [], length, get_or, Some, None, Option, Ordering, Less, Equal, Greater, sym, refl, ap, ◌∙◌, subst, inl, inr, ⊎_elim, arith}
use Rattle.std.specs.Ordering.{is_le, is_lt, ordering_then, nat_cmp}
use Rattle.std.proofs.lemmas.Bool.{false≢true}
use Rattle.std.proofs.lemmas.Bool.Decides.{eqb_tells}
use Rattle.ladder.specs.declared.poses.Limits.{Limits}
use Rattle.ladder.specs.Rules.{Rules, Lawful, Reached}
use Rattle.ladder.specs.Tracks.{Bounded, cost}
use Rattle.ladder.specs.Listed.{tracks_of}
use Rattle.ladder.specs.Ranking.{GivenOut, Left, EndsMerge, bumped, first_cost}
use Rattle.ladder.proofs.Ends.{list_merges}
use Rattle.ladder.proofs.Endings.{rank_reached}
use Rattle.ladder.specs.Ranked.{Ranks, ranks_from_order, back, even, alike_right, self}
use Rattle.ladder.specs.Numbers.{lt_rank, rank_self}
use Rattle.enumeration.specs.Tables.{Tables, poses, ladder}
use Rattle.enumeration.specs.Sound.{ends, Lies, RungSound}
use Rattle.enumeration.proofs.Frames.{length_poses, length_ladder}
use Rattle.enumeration.specs.Taking.{Heads, Offers, last_cost, AtMost, BestBelow}

module _ {C P : Type 0} (c : Rules C P) (laws : Lawful c) (l : Limits) (b : Bounded l) (t : Tables C) (r : ℕ) (few : suc r ≤ 128) (sound : RungSound c l t r) (taken : ℕ → ℕ) where
  -- the track found last at a pose that offers one: it has the rank that is taken next
  module _ (n : ℕ) (h : Heads c l t r taken n None) where
    found_is : (v : ℕ) → Offers c l t r taken v → (t.station r v).found ≡ suc (taken v)
    found_is v o = omega (arith, o.some, (h.each v o.numbered).high)

    lies : (v : ℕ) → Offers c l t r taken v → Lies t r v (taken v) (t.station r v).last.0
    lies v o = (sound.poses v o.numbered).last (taken v) (sym (found_is v o))

    exists : (v : ℕ) → Offers c l t r taken v → taken v < length (ends c l t r v)
    exists v o = omega (arith, found_is v o, (sound.poses v o.numbered).some)

    pub cost_is : (v : ℕ) → Offers c l t r taken v → last_cost c l t r taken v ≡ cost c (ladder t (suc r)) (get_or (ends c l t r v) (taken v) [])
    cost_is v o =
        let i = (t.station r v).last.0 in
        let e = lies v o in
        (sound.places i e.in_use).costs
        ∙ ap (λ u. cost c (ladder t (suc r)) (get_or (ends c l t r u) (t.track r i).rank.0 [])) e.of_pose
        ∙ ap (λ k. cost c (ladder t (suc r)) (get_or (ends c l t r v) k [])) e.of_rank

    reached : (v : ℕ) → Offers c l t r taken v → Reached c 127 (last_cost c l t r taken v)
    unfolding ladder
    reached v o =
        subst (Reached c 127) (sym (cost_is v o)) (rank_reached c laws l b (poses t r) (ladder t r) (omega (arith, length_ladder t r)) 127 v (taken v) (omega (arith, length_ladder t r)) (exists v o))

    costs : Ranks (Reached c 127) c.compare
    costs = ranks_from_order laws.order

    -- the better of two
    keeps : (w v : ℕ) → Offers c l t r taken w → Offers c l t r taken v → w < v → (o : Ordering) → c.compare (last_cost c l t r taken v) (last_cost c l t r taken w) ≡ o → is_lt o ≡ false → AtMost c l t r taken w v
    keeps w v a d lt Less e h = absurd (false≢true (sym h))
    keeps w v a d lt Equal e h = ap (λ k. is_le (ordering_then k (nat_cmp w v))) (even costs _ _ (reached v d) (reached w a) e) ∙ ap is_le (lt_rank w v lt)
    keeps w v a d lt Greater e h = ap (λ k. is_le (ordering_then k (nat_cmp w v))) (back costs _ _ (reached v d) (reached w a) e)

    replaces : (w v u : ℕ) → Offers c l t r taken w → Offers c l t r taken v → Offers c l t r taken u → c.compare (last_cost c l t r taken v) (last_cost c l t r taken w) ≡ Less → (o : Ordering) → c.compare (last_cost c l t r taken w) (last_cost c l t r taken u) ≡ o → is_le (ordering_then o (nat_cmp w u)) ≡ true → AtMost c l t r taken v u
    replaces w v u a d g e Less p h = ap (λ k. is_le (ordering_then k (nat_cmp v u))) (costs.chain _ _ _ (reached v d) (reached w a) (reached u g) e p)
    replaces w v u a d g e Equal p h = ap (λ k. is_le (ordering_then k (nat_cmp v u))) (sym (alike_right costs _ _ _ (reached v d) (reached w a) (reached u g) p) ∙ e)
    replaces w v u a d g e Greater p h = absurd (false≢true h)

    itself : (v : ℕ) → Offers c l t r taken v → AtMost c l t r taken v v
    itself v o = ap (λ k. is_le (ordering_then k (nat_cmp v v))) (self costs (last_cost c l t r taken v) (reached v o)) ∙ ap is_le (rank_self v)

    upto : (i u : ℕ) → u < suc i → (u < i) ⊎ (u ≡ i)
    upto i u h = ⊎_elim (λ e. inr e.1) (λ e. let ne : u ≡ i → ⊥ = e.1 in inl (omega arith)) (eqb_tells u i)

    -- one pose more is looked at: it offers nothing; it is the first that does; the best so far stays; it is better
    pub best_passes : (i : ℕ) (best : Option ℕ) → (Offers c l t r taken i → ⊥) → BestBelow c l t r taken i best → BestBelow c l t r taken (suc i) best
    best_passes i None bare h = λ u lt o. ⊎_elim (λ a. h u a o) (λ e. bare (subst (Offers c l t r taken) e o)) (upto i u lt)
    best_passes i (Some w) bare h = (omega (arith, h.0), h.1, λ u lt o. ⊎_elim (λ a. h.2 u a o) (λ e. absurd (bare (subst (Offers c l t r taken) e o))) (upto i u lt))

    pub best_begins : (i : ℕ) → Offers c l t r taken i → BestBelow c l t r taken i None → BestBelow c l t r taken (suc i) (Some i)
    best_begins i o h = (omega arith, o, λ u lt g. ⊎_elim (λ a. absurd (h u a g)) (λ e. subst (AtMost c l t r taken i) (sym e) (itself i o)) (upto i u lt))

    pub best_stays : (i w : ℕ) → Offers c l t r taken i → is_lt (c.compare (last_cost c l t r taken i) (last_cost c l t r taken w)) ≡ false → BestBelow c l t r taken i (Some w) → BestBelow c l t r taken (suc i) (Some w)
    best_stays i w o e h =
        (omega (arith, h.0), h.1, λ u lt g. ⊎_elim (λ a. h.2 u a g) (λ q. subst (AtMost c l t r taken w) (sym q) (keeps w i h.1 o h.0 _ refl e)) (upto i u lt))

    less_is : (o : Ordering) → is_lt o ≡ true → o ≡ Less
    less_is Less e = refl
    less_is Equal e = absurd (false≢true e)
    less_is Greater e = absurd (false≢true e)

    pub best_changes : (i w : ℕ) → Offers c l t r taken i → is_lt (c.compare (last_cost c l t r taken i) (last_cost c l t r taken w)) ≡ true → BestBelow c l t r taken i (Some w) → BestBelow c l t r taken (suc i) (Some i)
    best_changes i w o e h =
        (omega arith, o, λ u lt g. ⊎_elim (λ a. replaces w i u h.1 o g (less_is _ e) _ refl (h.2 u a g)) (λ q. subst (AtMost c l t r taken i) (sym q) (itself i o)) (upto i u lt))

    -- the best of all is the next of the list
    merge : EndsMerge c l (poses t r) (ladder t r) n taken
    merge = list_merges c laws l b (poses t r) (ladder t r) (omega (arith, length_ladder t r)) n taken h.given

    offers : (v : ℕ) → Left c l (poses t r) (ladder t r) taken v → Offers c l t r taken v
    unfolding ladder
    offers v e =
        let nv : v < t.size r = omega (arith, e.numbered, length_poses t r) in
        let hd = h.each v nv in
        record {
          numbered = nv;
          some = ⊎_elim (λ q. absurd (let no_way : ⊥ = omega (arith, e.more, hd.ended q.1 (λ z. z), q.1) in no_way)) (λ q. let ne : taken v ≡ (t.station r v).found → ⊥ = q.1 in omega (arith, hd.low)) (eqb_tells (taken v) (t.station r v).found);
        }

    first_is : (v : ℕ) → Offers c l t r taken v → first_cost c l (poses t r) (ladder t r) taken v ≡ last_cost c l t r taken v
    unfolding ladder
    first_is v o = sym (cost_is v o)

    -- the best of what all poses offer is the next of the list
    pub next_of_list : (v : ℕ) → BestBelow c l t r taken (t.size r) (Some v) → (n < length (tracks_of c l (ladder t (suc r)))) × (get_or (tracks_of c l (ladder t (suc r))) n [] ≡ get_or (ends c l t r v) (taken v) []) × GivenOut c l (poses t r) (ladder t r) (suc n) (bumped taken v)
    unfolding ladder
    next_of_list v best =
        merge.next v (record { numbered = omega (arith, best.1.numbered, length_poses t r); more = exists v best.1 }) (λ u left.
        let o = offers u left in
        subst (λ k. is_le (ordering_then (c.compare k (first_cost c l (poses t r) (ladder t r) taken u)) (nat_cmp v u)) ≡ true) (sym (first_is v best.1))
        (subst (λ k. is_le (ordering_then (c.compare (last_cost c l t r taken v) k) (nat_cmp v u)) ≡ true) (sym (first_is u o)) (best.2 u o.numbered o)))

    -- where no pose offers one, the list is at its end
    pub end_of_list : BestBelow c l t r taken (t.size r) None → length (tracks_of c l (ladder t (suc r))) ≤ n
    unfolding ladder
    end_of_list none = merge.done (λ u left. let o = offers u left in none u o.numbered o)
