-- The peel order is an order on a ladder's tracks, and the computed list is the list of the ladder. Assumes nothing.
use Rattle.std.proofs.Common.{◌≡◌, ℕ, zero, suc, ◌<◌, ◌≤◌, true, ◌⊎◌, List, [], ◌∷◌, ◌++◌, map, length, get_or, drop, Ordering, Less, Equal, sym, refl, ap, ◌∙◌, subst, inl, inr, arith}
use Rattle.std.specs.Ordering.{is_le, ordering_then, nat_cmp}
use Rattle.std.specs.List.{AllByRecursion}
use Rattle.std.proofs.lemmas.Bool.{false≢true, and_parts, and_from, leb-true, ltb-true, lt-ltb, cases_eq}
use Rattle.ladder.specs.declared.poses.Step.{Step}
use Rattle.ladder.specs.declared.poses.Turns.{Turns}
use Rattle.ladder.specs.declared.poses.Limits.{Limits}
use Rattle.ladder.specs.Moves.{within}
use Rattle.ladder.specs.Rules.{Rules, Lawful, Reached, Short, Orders}
use Rattle.ladder.specs.Tracks.{Rung, Ladder, Track, Bounded, Admissible, all_within, moves, step_at, steps_back, in_range, cost}
use Rattle.ladder.specs.Listed.{peel, In, Ascending, ListOf, extended, rows, admissible_tracks, tracks_of, OneList}
use Rattle.ladder.specs.Ranked.{Ranks, ranks_like, ranks_of, ranks_then, ranks_from_order, order_from_ranks, orders_on, ordering_then_equal, ordering_then_less, not_less_equal}
use Rattle.ladder.specs.Numbers.{rank_ranks, rank_same}
use Rattle.ladder.proofs.Sorting.{Apart, all_in, all_from_in, in_map, in_map_from, in_append_left, in_append_right, in_append_cases, in_kept, in_kept_from, apart_kept, apart_map, apart_append, in_sorted, all_sorted, ascending_sorted, place_once, same_elements}

-- an admissible track, or the empty track of no rung
abbrev pub Sound : Limits → Ladder → Track → Type 0
Sound l rs t = (in_range rs t ≡ true) × (all_within l (moves (steps_back rs t)) ≡ true)

pub tail_within : (l : Limits) (s : Step) (ss : List Step) → all_within l (moves (s ∷ ss)) ≡ true → all_within l (moves ss) ≡ true
tail_within l s [] h = refl
tail_within l s (q ∷ ss) h = (and_parts _ _ h).1

pub tail_sound : (l : Limits) (r : Rung) (rs : Ladder) (i : ℕ) (t : Track) → Sound l (r ∷ rs) (i ∷ t) → Sound l rs t
tail_sound l r rs i t h = ((and_parts _ _ h.0).1, tail_within l (step_at r i) (steps_back rs t) h.1)

pub within_short : (l : Limits) (m : Turns) → Bounded l → within l m ≡ true → Short m
within_short l m b h =
    let p = and_parts _ _ h in
    let x : m.shoulder ≤ l.shoulder = leb-true _ _ p.0 in
    let y : m.elbow ≤ l.elbow = leb-true _ _ p.1 in
    (omega arith, omega arith)

all_short : (l : Limits) (ms : List Turns) → Bounded l → all_within l ms ≡ true → AllByRecursion Short ms
all_short l [] b h = tt
all_short l (m ∷ ms) b h = (within_short l m b (and_parts _ _ h).0, all_short l ms b (and_parts _ _ h).1)

length_moves : (s : Step) (ss : List Step) → length (moves (s ∷ ss)) ≡ length ss
length_moves s [] = refl
length_moves s (q ∷ ss) = ap suc (length_moves q ss)

length_steps_back : (rs : Ladder) (t : Track) → length (steps_back rs t) ≤ length rs
length_steps_back [] t = omega arith
length_steps_back (r ∷ rs) [] = omega arith
length_steps_back (r ∷ rs) (j ∷ t) = omega (arith, length_steps_back rs t)

-- a track over n + 1 rungs has a cost of at most n prices
pub reached : {V P : Type 0} (c : Rules V P) (l : Limits) (r : Rung) (rs : Ladder) (n : ℕ) (t : Track) → Bounded l → length rs ≤ n → Sound l (r ∷ rs) t → Reached c n (cost c (r ∷ rs) t)
reached c l r rs n [] b k h = record { by = []; few = omega arith; short = tt; is = refl }
reached c l r rs n (j ∷ t) b k h =
    let ms = moves (steps_back (r ∷ rs) (j ∷ t)) in
    record { by = ms; few = omega (arith, length_moves (step_at r j) (steps_back rs t), length_steps_back rs t); short = all_short l ms b h.1; is = refl }

-- ---- the peel order ranks

abbrev first : Track → ℕ
first t = get_or t 0 0

abbrev rest : Track → Track
rest t = drop 1 t

module _ {V P : Type 0} (c : Rules V P) (laws : Lawful c) (l : Limits) (b : Bounded l) where
  peel_is : (r : Rung) (rs : Ladder) (t u : Track) → Sound l (r ∷ rs) t → Sound l (r ∷ rs) u → peel c (r ∷ rs) t u ≡ ordering_then (c.compare (cost c (r ∷ rs) t) (cost c (r ∷ rs) u)) (ordering_then (nat_cmp (first t) (first u)) (peel c rs (rest t) (rest u)))
  peel_is r rs [] u h k = absurd (false≢true h.0)
  peel_is r rs (i ∷ t) [] h k = absurd (false≢true k.0)
  peel_is r rs (i ∷ t) (j ∷ u) h k = refl

  rest_sound : (r : Rung) (rs : Ladder) (t : Track) → Sound l (r ∷ rs) t → Sound l rs (rest t)
  rest_sound r rs [] h = absurd (false≢true h.0)
  rest_sound r rs (i ∷ t) h = tail_sound l r rs i t h

  pub peel_ranks : (rs : Ladder) → length rs ≤ 128 → Ranks (Sound l rs) (peel c rs)
  peel_ranks [] n = record { flip = λ x y _ _. refl; chain = λ x y z _ _ _ p q. p; alike = λ x y z _ _ _ p. refl }
  peel_ranks (r ∷ rs) n =
      ranks_like (Sound l (r ∷ rs)) (peel c (r ∷ rs)) (λ t u. ordering_then (c.compare (cost c (r ∷ rs) t) (cost c (r ∷ rs) u)) (ordering_then (nat_cmp (first t) (first u)) (peel c rs (rest t) (rest u)))) (peel_is r rs) (ranks_then (ranks_of (Sound l (r ∷ rs)) (Reached c 127) (cost c (r ∷ rs)) c.compare (λ t h. reached c l r rs 127 t b (omega arith) h) (ranks_from_order laws.order)) (ranks_then (ranks_of (Sound l (r ∷ rs)) (λ (m : ℕ). Unit {0}) first nat_cmp (λ t h. tt) rank_ranks) (ranks_of (Sound l (r ∷ rs)) (Sound l rs) rest (peel c rs) (rest_sound r rs) (peel_ranks rs (omega arith)))))

  pub peel_same : (rs : Ladder) (t u : Track) → Sound l rs t → Sound l rs u → peel c rs t u ≡ Equal → t ≡ u
  peel_same [] [] [] h k e = refl
  peel_same [] [] (j ∷ u) h k e = absurd (false≢true k.0)
  peel_same [] (i ∷ t) u h k e = absurd (false≢true h.0)
  peel_same (r ∷ rs) [] u h k e = absurd (false≢true h.0)
  peel_same (r ∷ rs) (i ∷ t) [] h k e = absurd (false≢true k.0)
  peel_same (r ∷ rs) (i ∷ t) (j ∷ u) h k e =
      let p = ordering_then_equal _ _ (ordering_then_equal _ _ e).1 in
      let x : i ≡ j = rank_same i j p.0 in
      let y : t ≡ u = peel_same rs t u (tail_sound l r rs i t h) (tail_sound l r rs j u k) p.1 in
      ap (λ w. w ∷ t) x ∙ ap (λ w. j ∷ w) y

  -- on the tracks of one ladder the peel order is an order
  pub peel_orders : (rs : Ladder) → length rs ≤ 128 → Orders (Sound l rs) (peel c rs)
  peel_orders rs n = order_from_ranks (peel_ranks rs n) (peel_same rs)

-- an earlier track costs at most as much
pub less_cheaper : {V P : Type 0} (c : Rules V P) (rs : Ladder) (t u : Track) → peel c rs t u ≡ Less → is_le (c.compare (cost c rs t) (cost c rs u)) ≡ true
less_cheaper c [] t u h = absurd (not_less_equal h refl)
less_cheaper c (r ∷ rs) [] u h = absurd (not_less_equal h refl)
less_cheaper c (r ∷ rs) (i ∷ t) [] h = absurd (not_less_equal h refl)
less_cheaper c (r ∷ rs) (i ∷ t) (j ∷ u) h = step (ordering_then_less _ _ h)
  where
    step : {o q : Ordering} → (o ≡ Less) ⊎ ((o ≡ Equal) × (q ≡ Less)) → is_le o ≡ true
    step (inl e) = ap is_le e
    step (inr e) = ap is_le e.0

-- ---- the rows

in_extended : (n : ℕ) (ts : List Track) (j : ℕ) (t : Track) → j < n → In t ts → In (j ∷ t) (extended n ts)
in_extended zero ts j t h i = absurd (omega arith)
in_extended (suc n) ts j t h i = step (cases_eq j n) (in_extended n ts j t)
  where
    step : (j ≡ n) ⊎ (j ≡ n → ⊥) → (j < n → In t ts → In (j ∷ t) (extended n ts)) → In (j ∷ t) (map (λ u. n ∷ u) ts ++ extended n ts)
    step (inl e) f =
        in_append_left (map (λ u. n ∷ u) ts) (extended n ts) (j ∷ t) (subst (λ w. In (w ∷ t) (map (λ u. n ∷ u) ts)) (sym e) (in_map (λ u. n ∷ u) ts t i))
    step (inr ne) f = in_append_right (map (λ u. n ∷ u) ts) (extended n ts) (j ∷ t) (f (omega arith) i)

-- what an extended row is
in_extended_from : (n : ℕ) (ts : List Track) (t : Track) → In t (extended n ts) → (j : ℕ) × (j < n) × ((u : Track) × (t ≡ j ∷ u) × In u ts)
in_extended_from zero ts t i = absurd i
in_extended_from (suc n) ts t i =
    step (in_append_cases (map (λ u. n ∷ u) ts) (extended n ts) t i) (in_extended_from n ts t)
  where
    step : In t (map (λ u. n ∷ u) ts) ⊎ In t (extended n ts) → (In t (extended n ts) → (j : ℕ) × (j < n) × ((u : Track) × (t ≡ j ∷ u) × In u ts)) → (j : ℕ) × (j < suc n) × ((u : Track) × (t ≡ j ∷ u) × In u ts)
    step (inl k) f = let m = in_map_from (λ u. n ∷ u) ts t k in (n, omega arith, (m.0, sym m.2, m.1))
    step (inr k) f = let m = f k in let less : m.0 < n = m.1 in (m.0, omega arith, m.2)

apart_extended : (n : ℕ) (ts : List Track) → Apart ts → Apart (extended n ts)
apart_extended zero ts a = tt
apart_extended (suc n) ts a =
    apart_append (map (λ u. n ∷ u) ts) (extended n ts) (apart_map (λ u. n ∷ u) (λ x y e. ap rest e) ts a) (apart_extended n ts a) no_both
  where
    no_both : (t : Track) → In t (map (λ u. n ∷ u) ts) → In t (extended n ts) → ⊥
    no_both t i k =
        let m = in_map_from (λ u. n ∷ u) ts t i in
        let q = in_extended_from n ts t k in
        let less : q.0 < n = q.1 in
        let e : n ≡ q.0 = ap first (m.2 ∙ q.2.1) in
        omega arith

rows_apart : (rs : Ladder) → Apart (rows rs)
rows_apart [] = (λ i. i, tt)
rows_apart (r ∷ rs) = apart_extended (length r) (rows rs) (rows_apart rs)

in_rows : (rs : Ladder) (t : Track) → in_range rs t ≡ true → In t (rows rs)
in_rows [] [] h = inl refl
in_rows [] (j ∷ t) h = absurd (false≢true h)
in_rows (r ∷ rs) [] h = absurd (false≢true h)
in_rows (r ∷ rs) (j ∷ t) h =
    in_extended (length r) (rows rs) j t (ltb-true _ _ (and_parts _ _ h).0) (in_rows rs t (and_parts _ _ h).1)

rows_in : (rs : Ladder) (t : Track) → In t (rows rs) → in_range rs t ≡ true
rows_in [] t (inl e) = subst (λ w. in_range [] w ≡ true) e refl
rows_in [] t (inr i) = absurd i
rows_in (r ∷ rs) t i =
    let m = in_extended_from (length r) (rows rs) t i in
    subst (λ w. in_range (r ∷ rs) w ≡ true) (sym m.2.1) (and_from _ _ (lt-ltb _ _ m.1) (rows_in rs m.2.0 m.2.2))

-- ---- the list

pub admissible_in : (l : Limits) (rs : Ladder) (t : Track) → Admissible l rs t → In t (admissible_tracks l rs)
admissible_in l [] t h = absurd (omega (arith, h.some_rung))
admissible_in l (r ∷ rs) t h =
    in_kept (λ u. all_within l (moves (steps_back (r ∷ rs) u))) (rows (r ∷ rs)) t (in_rows (r ∷ rs) t h.numbered) h.moved

pub in_admissible : (l : Limits) (rs : Ladder) (t : Track) → In t (admissible_tracks l rs) → Admissible l rs t
in_admissible l [] t i = absurd i
in_admissible l (r ∷ rs) t i =
    let k = in_kept_from (λ u. all_within l (moves (steps_back (r ∷ rs) u))) (rows (r ∷ rs)) t i in
    record { some_rung = omega arith; numbered = rows_in (r ∷ rs) t k.0; moved = k.1 }

admissible_apart : (l : Limits) (rs : Ladder) → Apart (admissible_tracks l rs)
admissible_apart l [] = tt
admissible_apart l (r ∷ rs) =
    apart_kept (λ u. all_within l (moves (steps_back (r ∷ rs) u))) (rows (r ∷ rs)) (rows_apart (r ∷ rs))

pub sound : (l : Limits) (rs : Ladder) (t : Track) → Admissible l rs t → Sound l rs t
sound l rs t h = (h.numbered, h.moved)

sound_all : (l : Limits) (rs : Ladder) (ts : List Track) → AllByRecursion (Admissible l rs) ts → AllByRecursion (Sound l rs) ts
sound_all l rs [] h = tt
sound_all l rs (t ∷ ts) h = (sound l rs t h.0, sound_all l rs ts h.1)

module _ {V P : Type 0} (c : Rules V P) (laws : Lawful c) (l : Limits) (b : Bounded l) (rs : Ladder) (n : length rs ≤ 128) where
  R : Ranks (Sound l rs) (peel c rs)
  R = peel_ranks c laws l b rs n

  same : (t u : Track) → Sound l rs t → Sound l rs u → peel c rs t u ≡ Equal → t ≡ u
  same = peel_same c laws l b rs

  all_admissible : AllByRecursion (Admissible l rs) (admissible_tracks l rs)
  all_admissible = all_from_in (Admissible l rs) (admissible_tracks l rs) (in_admissible l rs)

  ascends : Ascending (peel c rs) (tracks_of c l rs)
  ascends = ascending_sorted R same (admissible_tracks l rs) (sound_all l rs (admissible_tracks l rs) all_admissible) (admissible_apart l rs)

  only_admissible : AllByRecursion (Admissible l rs) (tracks_of c l rs)
  only_admissible = all_sorted (peel c rs) (Admissible l rs) (admissible_tracks l rs) all_admissible

  -- the computed list is the list of the ladder
  pub tracks_of_lists : ListOf c l rs (tracks_of c l rs)
  tracks_of_lists = record {
    every = λ t h. in_sorted (peel c rs) t (admissible_tracks l rs) (admissible_in l rs t h);
    only = only_admissible;
    once = place_once R same (tracks_of c l rs) [] (sound_all l rs (tracks_of c l rs) only_admissible) ascends;
    ordered = ascends;
  }

  -- and there is no other
  pub list_unique : (ts us : List Track) → ListOf c l rs ts → ListOf c l rs us → ts ≡ us
  list_unique ts us h k =
      same_elements R same ts us (sound_all l rs ts h.only) (sound_all l rs us k.only) h.ordered k.ordered (λ t i. k.every t (all_in (Admissible l rs) ts t h.only i)) (λ t i. h.every t (all_in (Admissible l rs) us t k.only i))

pub one_list : {V P : Type 0} (c : Rules V P) → Lawful c → OneList c
one_list c laws = record {
  orders = λ l b rs n. orders_on (sound l rs) (peel_orders c laws l b rs n);
  lists = λ l b rs n. tracks_of_lists c laws l b rs n;
  alone = λ l b rs n ts h. list_unique c laws l b rs n ts (tracks_of c l rs) h (tracks_of_lists c laws l b rs n);
}
