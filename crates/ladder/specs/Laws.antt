-- Travel, the worst step and pairs are lawful, and travel keeps. Assumes nothing.
use Rattle.std.specs.Prelude.{◌≡◌, ℕ, ◌+◌, ◌*◌, ◌≤◌, min, true, List, [], ◌∷◌, length, refl}
use Rattle.std.specs.declared.cmp.Ordering.TheVariants.{Less, Equal, Greater}
use Rattle.std.specs.declared.cmp.Ordering.{Ordering}
use Rattle.std.proofs.Common.{◌∙◌, ap, subst, arith}
use Rattle.std.specs.Ordering.{is_le, ordering_then, nat_cmp}
use Rattle.std.specs.List.{AllByRecursion}
use Rattle.std.proofs.lemmas.Bool.{false≢true}
use Rattle.std.proofs.Math.Nat.{mul-suc, mul-le-mul_left}
use Rattle.ladder.specs.declared.poses.Turns.{Turns}
use Rattle.ladder.specs.declared.costs.Travel.{Travel}
use Rattle.ladder.specs.declared.costs.Pair.{Pair}
use Rattle.ladder.specs.Rules.{Rules, Lawful, Keeps, Reached, Short, joined}
use Rattle.ladder.specs.Costs.{travel, worst, pair, NeverSaturates, KeepingIsNeeded}
use Rattle.ladder.specs.Ranked.{ranks_of, ranks_then, ranks_from_order, order_from_ranks, ordering_then_equal, not_less_equal}
use Rattle.ladder.specs.Numbers.{orders_by, rank_le, le_rank, rank_lt, lt_rank}

-- ---- reached costs

module _ {V P : Type 0} (c : Rules V P) where
  pub reached_zero : (n : ℕ) → Reached c n c.zero
  reached_zero n = record { by = []; few = omega arith; short = tt; is = refl }

  pub reached_more : (m n : ℕ) (v : V) → m ≤ n → Reached c m v → Reached c n v
  reached_more m n v le r = record { by = r.by; few = omega (arith, r.few); short = r.short; is = r.is }

  pub reached_join : (n : ℕ) (v : V) (m : Turns) → Reached c n v → Short m → Reached c (n + 1) (c.join v (c.price m))
  reached_join n v m r s = record { by = m ∷ r.by; few = omega (arith, r.few); short = (s, r.short); is = ap (λ w. c.join w (c.price m)) r.is }

-- ---- sums

-- a cost that is a number and adds its prices, up to the greatest 32-bit number
abbrev pub adding : {V : Type 0} → (V → ℕ) → (ℕ → V) → (Turns → ℕ) → ℕ → Rules V ℕ
adding total make price letter = record {
  zero = make 0;
  price = price;
  join = λ v p. make (min (total v + p) 4294967295);
  compare = λ v w. nat_cmp (total v) (total w);
  letter = letter;
}

module _ {V : Type 0} (total : V → ℕ) (make : ℕ → V) (price : Turns → ℕ) (letter : ℕ) (made : (n : ℕ) → total (make n) ≡ n) where
  -- one price more
  abbrev after : V → Turns → V
  after v m = make (min (total v + price m) 4294967295)

  after-total : (v : V) (m : Turns) → total (after v m) ≡ min (total v + price m) 4294967295
  after-total v m = made (min (total v + price m) 4294967295)

  pub adding_lawful : ((v w : V) → total v ≡ total w → v ≡ w) → Lawful (adding total make price letter)
  adding_lawful one = record {
    order = orders_by (Reached (adding total make price letter) 127) total one;
    monotone = λ a b m _ _ _ h. le_rank (total (after a m)) (total (after b m)) (omega (arith, after-total a m, after-total b m, rank_le (total a) (total b) h));
  }

  module _ (most : ℕ) (bound : (m : Turns) → Short m → price m ≤ most) where
    joined_small : (ms : List Turns) → AllByRecursion Short ms → total (joined (adding total make price letter) ms) ≤ most * length ms
    joined_small [] h = omega (arith, made 0)
    joined_small (m ∷ ms) h = omega (arith, after-total (joined (adding total make price letter) ms) m, joined_small ms h.1, bound m h.0, mul-suc most (length ms))

    -- what n moves reach is at most n times the greatest price
    pub adding_small : (n : ℕ) (v : V) → Reached (adding total make price letter) n v → total v ≤ most * n
    adding_small n v r = omega (arith, ap total r.is, joined_small r.by r.short, mul-le-mul_left most r.few)

    pub adding_keeps : most * 127 ≤ 4294967295 → Keeps (adding total make price letter)
    adding_keeps room a b m x y s h =
        lt_rank (total (after a m)) (total (after b m)) (omega (arith, after-total a m, after-total b m, rank_lt (total a) (total b) h, adding_small 126 a x, adding_small 126 b y, bound m s, room, mul-suc most 126))

-- ---- travel

pub travel_lawful : Lawful travel
travel_lawful = adding_lawful (λ v. v.total) (λ n. record { total = n }) (λ m. m.shoulder + m.elbow) 84 (λ n. refl) (λ v w e. λ i. record { total = e i })

pub travel_small : (n : ℕ) (v : Travel) → Reached travel n v → v.total ≤ 131070 * n
travel_small = adding_small (λ v. v.total) (λ n. record { total = n }) (λ m. m.shoulder + m.elbow) 84 (λ n. refl) 131070 (λ m s. omega (arith, s.0, s.1))

pub travel_keeps : Keeps travel
travel_keeps = adding_keeps (λ v. v.total) (λ n. record { total = n }) (λ m. m.shoulder + m.elbow) 84 (λ n. refl) 131070 (λ m s. omega (arith, s.0, s.1)) (omega arith)

pub never_saturates : NeverSaturates
never_saturates = record {
  small = λ v r. omega (arith, travel_small 127 v r);
  plain = λ v m r s. omega (arith, travel_small 126 v r, s.0, s.1);
}

-- ---- the worst step

pub worst_lawful : Lawful worst
worst_lawful = record {
  order = orders_by (Reached worst 127) (λ v. v.turn) (λ v w e. λ i. record { turn = e i });
  monotone = λ a b m _ _ _ h. le_rank (worst.join a (worst.price m)).turn (worst.join b (worst.price m)).turn (omega (arith, rank_le a.turn b.turn h));
}

-- ---- pairs

module _ {V P W Q : Type 0} (c : Rules V P) (d : Rules W Q) where
  joined_first : (ms : List Turns) → (joined (pair c d) ms).first ≡ joined c ms
  joined_first [] = refl
  joined_first (m ∷ ms) = ap (λ v. c.join v (c.price m)) (joined_first ms)

  joined_second : (ms : List Turns) → (joined (pair c d) ms).second ≡ joined d ms
  joined_second [] = refl
  joined_second (m ∷ ms) = ap (λ v. d.join v (d.price m)) (joined_second ms)

  first_reached : (n : ℕ) (v : Pair V W) → Reached (pair c d) n v → Reached c n v.first
  first_reached n v r = record { by = r.by; few = r.few; short = r.short; is = ap (λ x. x.first) r.is ∙ joined_first r.by }

  second_reached : (n : ℕ) (v : Pair V W) → Reached (pair c d) n v → Reached d n v.second
  second_reached n v r = record { by = r.by; few = r.few; short = r.short; is = ap (λ x. x.second) r.is ∙ joined_second r.by }

  module _ (lc : Lawful c) (keeps : Keeps c) (ld : Lawful d) where
    one : (v w : Pair V W) → Reached (pair c d) 127 v → Reached (pair c d) 127 w → (pair c d).compare v w ≡ Equal → v ≡ w
    one v w r s e =
        let p = ordering_then_equal _ _ e in
        let x : v.first ≡ w.first = (lc.order.same v.first w.first (first_reached 127 v r) (first_reached 127 w s)).0 p.0 in
        let y : v.second ≡ w.second = (ld.order.same v.second w.second (second_reached 127 v r) (second_reached 127 w s)).0 p.1 in
        λ i. record { first = x i; second = y i }

    monotone : (a b : Pair V W) (m : Turns) → Reached (pair c d) 126 a → Reached (pair c d) 126 b → Short m → is_le ((pair c d).compare a b) ≡ true → is_le ((pair c d).compare ((pair c d).join a ((pair c d).price m)) ((pair c d).join b ((pair c d).price m))) ≡ true
    monotone a b m ra rb s = step (c.compare a.first b.first) refl
      where
        fa : Reached c 126 a.first
        fa = first_reached 126 a ra

        fb : Reached c 126 b.first
        fb = first_reached 126 b rb

        step : (o : Ordering) → c.compare a.first b.first ≡ o → is_le (ordering_then o (d.compare a.second b.second)) ≡ true → is_le ((pair c d).compare ((pair c d).join a ((pair c d).price m)) ((pair c d).join b ((pair c d).price m))) ≡ true
        step Less e h = ap (λ o. is_le (ordering_then o (d.compare (d.join a.second (d.price m)) (d.join b.second (d.price m))))) (keeps a.first b.first m fa fb s e)
        step Equal e h =
            let x : a.first ≡ b.first = (lc.order.same a.first b.first (reached_more c 126 127 a.first (omega arith) fa) (reached_more c 126 127 b.first (omega arith) fb)).0 e in
            let next = reached_join c 126 a.first m fa s in
            let z : c.compare (c.join a.first (c.price m)) (c.join b.first (c.price m)) ≡ Equal = subst (λ v. c.compare (c.join a.first (c.price m)) (c.join v (c.price m)) ≡ Equal) x ((lc.order.same _ _ next next).1 refl) in
            ap (λ o. is_le (ordering_then o (d.compare (d.join a.second (d.price m)) (d.join b.second (d.price m))))) z ∙ ld.monotone a.second b.second m (second_reached 126 a ra) (second_reached 126 b rb) s h
        step Greater e h = absurd (false≢true h)

    pub pair_lawful : Lawful (pair c d)
    pair_lawful = record {
      order = order_from_ranks (ranks_then (ranks_of (Reached (pair c d) 127) (Reached c 127) (λ v. v.first) c.compare (first_reached 127) (ranks_from_order lc.order)) (ranks_of (Reached (pair c d) 127) (Reached d 127) (λ v. v.second) d.compare (second_reached 127) (ranks_from_order ld.order))) one;
      monotone = monotone;
    }

-- ---- why the first cost of a pair keeps

abbrev move : ℕ → ℕ → Turns
move s e = record { shoulder = s; elbow = e }

short : (s e : ℕ) → s ≤ 65535 → e ≤ 65535 → Short (move s e)
short s e p q = (p, q)

-- what one move reaches, and two
by_one : {V P : Type 0} (c : Rules V P) (m : Turns) → Short m → Reached c 126 (c.join c.zero (c.price m))
by_one c m s = record { by = m ∷ []; few = omega arith; short = (s, tt); is = refl }

by_two : {V P : Type 0} (c : Rules V P) (m n : Turns) → Short m → Short n → Reached c 126 (c.join (c.join c.zero (c.price m)) (c.price n))
by_two c m n s t = record { by = n ∷ m ∷ []; few = omega arith; short = (t, (s, tt)); is = refl }

-- worst steps 1 and 2 are made alike by a turn of 3
worst_keeps_not : Keeps worst → ⊥
worst_keeps_not k =
    not_less_equal (k (record { turn = 1 }) (record { turn = 2 }) (move 3 0) (by_one worst (move 1 0) (short 1 0 (omega arith) (omega arith))) (by_one worst (move 2 0) (short 2 0 (omega arith) (omega arith))) (short 3 0 (omega arith) (omega arith)) refl) refl

-- two moves of 4 and 4 come before one of 5 by the worst step, and after it once a turn of 10 makes those alike
worst_first_unlawful : Lawful (pair worst travel) → ⊥
worst_first_unlawful h =
    let four = short 4 4 (omega arith) (omega arith) in
    false≢true (h.monotone (record { first = record { turn = 4 }; second = record { total = 16 } }) (record { first = record { turn = 5 }; second = record { total = 5 } }) (move 10 0) (by_two (pair worst travel) (move 4 4) (move 4 4) four four) (by_one (pair worst travel) (move 5 0) (short 5 0 (omega arith) (omega arith))) (short 10 0 (omega arith) (omega arith)) refl)

pub keeping_is_needed_lem : KeepingIsNeeded
keeping_is_needed_lem = record { worst_keeps_not = worst_keeps_not; worst_first_unlawful = worst_first_unlawful }
