-- Candidates of a lawful cost are in order. Assumes nothing.
use Rattle.std.proofs.Common.{◌≡◌, true, false, Ordering, Less, Equal, Greater, sym, refl, ap, ◌∙◌}
use Rattle.std.specs.Ordering.{is_lt, is_le}
use Rattle.std.proofs.lemmas.Bool.{false≢true}
use Rattle.heap.specs.Order.{OrderOn}
use Rattle.ladder.specs.Rules.{Rules, Lawful}
use Rattle.ladder.specs.Ranking.{by_candidate, CostsReached}
use Rattle.ladder.specs.Ranked.{Ranks, ranks_of, ranks_from_order, back, forth, even, alike_right}
use Rattle.ladder.proofs.Merged.{candidates_order}
use Rattle.enumeration.specs.Waiting.{plain, ReachedBoth, earlier}
use Rattle.enumeration.specs.declared.records.Candidate.{Candidate}

module _ {X : Type 0} {A : X → Type 0} {cmp : X → X → Ordering} (R : Ranks A cmp) where
  not_both : (x y : X) → A x → A y → (o : Ordering) → cmp x y ≡ o → is_lt o ≡ true → is_lt (cmp y x) ≡ false
  not_both x y a b Less e h = ap is_lt (forth R x y a b e)
  not_both x y a b Equal e h = absurd (false≢true h)
  not_both x y a b Greater e h = absurd (false≢true h)

  on_and_on : (x y z : X) → A x → A y → A z → (o : Ordering) → cmp x y ≡ o → is_lt o ≡ false → (u : Ordering) → cmp y z ≡ u → is_lt u ≡ false → is_lt (cmp x z) ≡ false
  on_and_on x y z a b d Less p h u q k = absurd (false≢true (sym h))
  on_and_on x y z a b d Equal p h u q k = ap is_lt (R.alike x y z a b d p ∙ q) ∙ k
  on_and_on x y z a b d Greater p h Less q k = absurd (false≢true (sym k))
  on_and_on x y z a b d Greater p h Equal q k = ap is_lt (sym (alike_right R x y z a b d q) ∙ p)
  on_and_on x y z a b d Greater p h Greater q k =
      ap is_lt (forth R z x d a (R.chain z y x d b a (back R y z b d q) (back R x y a b p)))

  -- what ranks is an order for a heap
  order_on : OrderOn A (λ x y. is_lt (cmp x y))
  order_on = record {
    one_way = λ x y a b h. not_both x y a b (cmp x y) refl h;
    chain = λ x y z a b d h k. on_and_on x y z a b d (cmp x y) refl h (cmp y z) refl k;
  }

  at_most : (x y : X) → A x → A y → (o : Ordering) → cmp y x ≡ o → is_lt o ≡ false → is_le (cmp x y) ≡ true
  at_most x y a b Less e h = absurd (false≢true (sym h))
  at_most x y a b Equal e h = ap is_le (even R y x b a e)
  at_most x y a b Greater e h = ap is_le (back R y x b a e)

module _ {C P : Type 0} (c : Rules C P) (laws : Lawful c) where
  candidates_rank : Ranks (ReachedBoth c) (λ x y. by_candidate c (plain x) (plain y))
  candidates_rank = ranks_of (ReachedBoth c) (CostsReached c) plain (by_candidate c) (λ x a. a) (ranks_from_order (candidates_order c laws))

  -- the candidates whose costs are reached are in order
  pub in_order : OrderOn (ReachedBoth c) (earlier c)
  in_order = order_on candidates_rank

  -- of two candidates one is at most the other, unless that one is before it
  pub not_after : (x y : Candidate C) → ReachedBoth c x → ReachedBoth c y → earlier c y x ≡ false → is_le (by_candidate c (plain x) (plain y)) ≡ true
  not_after x y a b h = at_most candidates_rank x y a b (by_candidate c (plain y) (plain x)) refl h
