-- Comparisons that rank the values of which A holds, and how they are put together. Assumes nothing.
use Rattle.std.specs.Prelude.{◌≡◌, true, ◌||◌, ◌⊎◌, ◌≢◌, refl}
use Rattle.std.specs.declared.cmp.Ordering.TheVariants.{Less, Equal, Greater}
use Rattle.std.specs.declared.cmp.Ordering.{Ordering}
use Rattle.std.proofs.Common.{sym, ◌∙◌, ap, subst, inl, inr, arith}
use Rattle.std.specs.Ordering.{is_le, ordering_then, ordering_reverse, ordering_index}
use Rattle.std.proofs.lemmas.Bool.{false≢true}
use Rattle.ladder.specs.Rules.{Orders}

-- a comparison ranks: swapping turns the answer round, below goes on through below, and what is equal on the left compares the same
pub record Ranks {X : Type 0} (A : X → Type 0) (cmp : X → X → Ordering) : Type 0 where
  pub flip : (x y : X) → A x → A y → cmp x y ≡ ordering_reverse (cmp y x)
  pub chain : (x y z : X) → A x → A y → A z → cmp x y ≡ Less → cmp y z ≡ Less → cmp x z ≡ Less
  pub alike : (x y z : X) → A x → A y → A z → cmp x y ≡ Equal → cmp x z ≡ cmp y z

pub own_reverse : (o : Ordering) → o ≡ ordering_reverse o → o ≡ Equal
own_reverse Less e = absurd (omega (arith, ap ordering_index e))
own_reverse Equal e = refl
own_reverse Greater e = absurd (omega (arith, ap ordering_index e))

pub not_less_greater : {o : Ordering} → o ≡ Less → o ≢ Greater
not_less_greater {o} p q = omega (arith, ap ordering_index (sym p ∙ q))

pub not_less_equal : {o : Ordering} → o ≡ Less → o ≢ Equal
not_less_equal {o} p q = omega (arith, ap ordering_index (sym p ∙ q))

pub not_equal_greater : {o : Ordering} → o ≡ Equal → o ≢ Greater
not_equal_greater {o} p q = omega (arith, ap ordering_index (sym p ∙ q))

pub reversed_twice : (o : Ordering) → ordering_reverse (ordering_reverse o) ≡ o
reversed_twice Less = refl
reversed_twice Equal = refl
reversed_twice Greater = refl

reversed_then : (a b : Ordering) → ordering_then (ordering_reverse a) (ordering_reverse b) ≡ ordering_reverse (ordering_then a b)
reversed_then Less b = refl
reversed_then Equal b = refl
reversed_then Greater b = refl

pub ordering_then_equal : (a b : Ordering) → ordering_then a b ≡ Equal → (a ≡ Equal) × (b ≡ Equal)
ordering_then_equal Less b e = absurd (omega (arith, ap ordering_index e))
ordering_then_equal Equal b e = (refl, e)
ordering_then_equal Greater b e = absurd (omega (arith, ap ordering_index e))

pub ordering_then_less : (a b : Ordering) → ordering_then a b ≡ Less → (a ≡ Less) ⊎ ((a ≡ Equal) × (b ≡ Less))
ordering_then_less Less b e = inl refl
ordering_then_less Equal b e = inr (refl, e)
ordering_then_less Greater b e = absurd (omega (arith, ap ordering_index e))

module _ {X : Type 0} {A : X → Type 0} {cmp : X → X → Ordering} (R : Ranks A cmp) where
  pub self : (x : X) → A x → cmp x x ≡ Equal
  self x a = own_reverse (cmp x x) (R.flip x x a a)

  pub back : (x y : X) → A x → A y → cmp x y ≡ Greater → cmp y x ≡ Less
  back x y a b e = R.flip y x b a ∙ ap ordering_reverse e

  pub forth : (x y : X) → A x → A y → cmp x y ≡ Less → cmp y x ≡ Greater
  forth x y a b e = R.flip y x b a ∙ ap ordering_reverse e

  pub even : (x y : X) → A x → A y → cmp x y ≡ Equal → cmp y x ≡ Equal
  even x y a b e = R.flip y x b a ∙ ap ordering_reverse e

  -- what is equal on the right compares the same
  pub alike_right : (x y z : X) → A x → A y → A z → cmp y z ≡ Equal → cmp x y ≡ cmp x z
  alike_right x y z a b d e = R.flip x y a b ∙ ap ordering_reverse (R.alike y z x b d a e) ∙ sym (R.flip x z a d)

-- a comparison that answers as another does
pub ranks_like : {X : Type 0} (A : X → Type 0) (cmp dmp : X → X → Ordering) → ((x y : X) → A x → A y → cmp x y ≡ dmp x y) → Ranks A dmp → Ranks A cmp
ranks_like A cmp dmp e R = record {
  flip = λ x y a b. e x y a b ∙ R.flip x y a b ∙ ap ordering_reverse (sym (e y x b a));
  chain = λ x y z a b d p q. e x z a d ∙ R.chain x y z a b d (sym (e x y a b) ∙ p) (sym (e y z b d) ∙ q);
  alike = λ x y z a b d p. e x z a d ∙ R.alike x y z a b d (sym (e x y a b) ∙ p) ∙ sym (e y z b d);
}

-- a comparison of what a function gives
pub ranks_of : {X Y : Type 0} (A : X → Type 0) (B : Y → Type 0) (f : X → Y) (cmp : Y → Y → Ordering) → ((x : X) → A x → B (f x)) → Ranks B cmp → Ranks A (λ x y. cmp (f x) (f y))
ranks_of A B f cmp h R = record {
  flip = λ x y a b. R.flip (f x) (f y) (h x a) (h y b);
  chain = λ x y z a b d. R.chain (f x) (f y) (f z) (h x a) (h y b) (h z d);
  alike = λ x y z a b d. R.alike (f x) (f y) (f z) (h x a) (h y b) (h z d);
}

-- the first comparison, and the second where it says equal
module _ {X : Type 0} {A : X → Type 0} {cmp dmp : X → X → Ordering} (R : Ranks A cmp) (S : Ranks A dmp) where
  then_chain : (x y z : X) → A x → A y → A z → (cmp x y ≡ Less) ⊎ ((cmp x y ≡ Equal) × (dmp x y ≡ Less)) → (cmp y z ≡ Less) ⊎ ((cmp y z ≡ Equal) × (dmp y z ≡ Less)) → ordering_then (cmp x z) (dmp x z) ≡ Less
  then_chain x y z a b d (inl p) (inl q) = ap (λ o. ordering_then o (dmp x z)) (R.chain x y z a b d p q)
  then_chain x y z a b d (inl p) (inr q) = ap (λ o. ordering_then o (dmp x z)) (sym (alike_right R x y z a b d q.0) ∙ p)
  then_chain x y z a b d (inr p) (inl q) = ap (λ o. ordering_then o (dmp x z)) (R.alike x y z a b d p.0 ∙ q)
  then_chain x y z a b d (inr p) (inr q) = ap (λ o. ordering_then o (dmp x z)) (R.alike x y z a b d p.0 ∙ q.0) ∙ S.chain x y z a b d p.1 q.1

  pub ranks_then : Ranks A (λ x y. ordering_then (cmp x y) (dmp x y))
  ranks_then = record {
    flip = λ x y a b. ap (λ o. ordering_then o (dmp x y)) (R.flip x y a b) ∙ ap (ordering_then (ordering_reverse (cmp y x))) (S.flip x y a b) ∙ reversed_then (cmp y x) (dmp y x);
    chain = λ x y z a b d p q. then_chain x y z a b d (ordering_then_less (cmp x y) (dmp x y) p) (ordering_then_less (cmp y z) (dmp y z) q);
    alike = λ x y z a b d p. ap (λ o. ordering_then o (dmp x z)) (R.alike x y z a b d (ordering_then_equal (cmp x y) (dmp x y) p).0) ∙ ap (ordering_then (cmp y z)) (S.alike x y z a b d (ordering_then_equal (cmp x y) (dmp x y) p).1);
  }

-- an order ranks
module _ {X : Type 0} {A : X → Type 0} {cmp : X → X → Ordering} (O : Orders A cmp) where
  order_flip : (x y : X) → A x → A y → (o : Ordering) → cmp x y ≡ o → o ≡ ordering_reverse (cmp y x)
  order_flip x y a b Less e = sym (ap ordering_reverse ((O.below x y a b).0 e))
  order_flip x y a b Equal e = sym (ap ordering_reverse ((O.same y x b a).1 (sym ((O.same x y a b).0 e))))
  order_flip x y a b Greater e = sym (ap ordering_reverse ((O.below y x b a).1 e))

  order_chain : (x y z : X) → A x → A y → A z → cmp x y ≡ Less → cmp y z ≡ Less → (o : Ordering) → cmp x z ≡ o → is_le o ≡ true → o ≡ Less
  order_chain x y z a b d p q Less e h = refl
  order_chain x y z a b d p q Equal e h =
      absurd (not_less_greater p ((O.below y x b a).0 (subst (λ w. cmp y w ≡ Less) (sym ((O.same x z a d).0 e)) q)))
  order_chain x y z a b d p q Greater e h = absurd (false≢true h)

  pub ranks_from_order : Ranks A cmp
  ranks_from_order = record {
    flip = λ x y a b. order_flip x y a b (cmp x y) refl;
    chain = λ x y z a b d p q. order_chain x y z a b d p q (cmp x z) refl (O.transitive x y z a b d (ap is_le p) (ap is_le q));
    alike = λ x y z a b d p. ap (λ w. cmp w z) ((O.same x y a b).0 p);
  }

-- a ranking that tells all apart is an order
module _ {X : Type 0} {A : X → Type 0} {cmp : X → X → Ordering} (R : Ranks A cmp) (same : (x y : X) → A x → A y → cmp x y ≡ Equal → x ≡ y) where
  le_either : (o : Ordering) → (is_le o || is_le (ordering_reverse o)) ≡ true
  le_either Less = refl
  le_either Equal = refl
  le_either Greater = refl

  trans : (x y z : X) → A x → A y → A z → (o : Ordering) → cmp x y ≡ o → is_le o ≡ true → (u : Ordering) → cmp y z ≡ u → is_le u ≡ true → is_le (cmp x z) ≡ true
  trans x y z a b d Less p h Less q k = ap is_le (R.chain x y z a b d p q)
  trans x y z a b d Less p h Equal q k = ap is_le (sym (alike_right R x y z a b d q) ∙ p)
  trans x y z a b d Less p h Greater q k = absurd (false≢true k)
  trans x y z a b d Equal p h u q k = ap is_le (R.alike x y z a b d p ∙ q) ∙ k
  trans x y z a b d Greater p h u q k = absurd (false≢true h)

  pub order_from_ranks : Orders A cmp
  order_from_ranks = record {
    total = λ x y a b. ap (λ o. is_le (cmp x y) || is_le o) (R.flip y x b a) ∙ le_either (cmp x y);
    transitive = λ x y z a b d p q. trans x y z a b d (cmp x y) refl p (cmp y z) refl q;
    same = λ x y a b. (same x y a b, λ e. subst (λ w. cmp x w ≡ Equal) e (self R x a));
    below = λ x y a b. (forth R x y a b, back R y x b a);
  }

-- what orders all orders some
pub orders_on : {X : Type 0} {A B : X → Type 0} {cmp : X → X → Ordering} → ((x : X) → B x → A x) → Orders A cmp → Orders B cmp
orders_on f O = record {
  total = λ x y a b. O.total x y (f x a) (f y b);
  transitive = λ x y z a b d. O.transitive x y z (f x a) (f y b) (f z d);
  same = λ x y a b. O.same x y (f x a) (f y b);
  below = λ x y a b. O.below x y (f x a) (f y b);
}
