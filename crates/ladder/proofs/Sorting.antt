-- Lists in ascending order: sorting gives one, and two with the same elements are one list. Assumes nothing.
use Rattle.std.proofs.Common.{◌≡◌, ℕ, zero, suc, ◌<◌, ◌≤◌, Bool, true, false, cond, ◌⊎◌, List, [], ◌∷◌, ◌++◌, map, length, get_or, filter, Ordering, Less, Equal, Greater, sym, refl, ap, ◌∙◌, subst, inl, inr, arith}
use Rattle.std.specs.Ordering.{is_lt, nat_cmp}
use Rattle.std.specs.List.{AllByRecursion}
use Rattle.std.proofs.ByRecursion.{all_kept_by, All-get_or}
use Rattle.std.proofs.lemmas.Bool.{cases_order}
use Rattle.ladder.specs.Listed.{In, Ascending, placed_in, sorted}
use Rattle.ladder.specs.Ranked.{Ranks, self, back, forth, not_less_equal, not_less_greater}
use Rattle.ladder.specs.Numbers.{rank_ranks, rank_same, rank_self, lt_rank}

-- no element stands twice
abbrev pub Apart : {X : Type 0} → List X → Type 0
Apart [] = Unit {0}
Apart (x ∷ xs) = (In x xs → ⊥) × Apart xs

pub all_in : {X : Type 0} (P : X → Type 0) (xs : List X) (x : X) → AllByRecursion P xs → In x xs → P x
all_in P [] x h i = absurd i
all_in P (y ∷ ys) x h (inl e) = subst P e h.0
all_in P (y ∷ ys) x h (inr i) = all_in P ys x h.1 i

pub all_from_in : {X : Type 0} (P : X → Type 0) (xs : List X) → ((x : X) → In x xs → P x) → AllByRecursion P xs
all_from_in P [] h = tt
all_from_in P (x ∷ xs) h = (h x (inl refl), all_from_in P xs (λ y i. h y (inr i)))

pub in_get_or : {X : Type 0} (xs : List X) (i : ℕ) (d : X) → i < length xs → In (get_or xs i d) xs
in_get_or [] i d h = absurd (omega arith)
in_get_or (x ∷ xs) zero d h = inl refl
in_get_or (x ∷ xs) (suc i) d h = inr (in_get_or xs i d (omega arith))

pub in_append_left : {X : Type 0} (xs ys : List X) (x : X) → In x xs → In x (xs ++ ys)
in_append_left [] ys x i = absurd i
in_append_left (y ∷ xs) ys x (inl e) = inl e
in_append_left (y ∷ xs) ys x (inr i) = inr (in_append_left xs ys x i)

pub in_append_right : {X : Type 0} (xs ys : List X) (x : X) → In x ys → In x (xs ++ ys)
in_append_right [] ys x i = i
in_append_right (y ∷ xs) ys x i = inr (in_append_right xs ys x i)

pub in_append_cases : {X : Type 0} (xs ys : List X) (x : X) → In x (xs ++ ys) → In x xs ⊎ In x ys
in_append_cases [] ys x i = inr i
in_append_cases (y ∷ xs) ys x (inl e) = inl (inl e)
in_append_cases (y ∷ xs) ys x (inr i) = step (in_append_cases xs ys x i)
  where
    step : In x xs ⊎ In x ys → In x (y ∷ xs) ⊎ In x ys
    step (inl j) = inl (inr j)
    step (inr j) = inr j

pub in_map : {X Y : Type 0} (f : X → Y) (xs : List X) (x : X) → In x xs → In (f x) (map f xs)
in_map f [] x i = absurd i
in_map f (y ∷ xs) x (inl e) = inl (ap f e)
in_map f (y ∷ xs) x (inr i) = inr (in_map f xs x i)

pub in_map_from : {X Y : Type 0} (f : X → Y) (xs : List X) (y : Y) → In y (map f xs) → (x : X) × In x xs × (f x ≡ y)
in_map_from f [] y i = absurd i
in_map_from f (x ∷ xs) y (inl e) = (x, inl refl, e)
in_map_from f (x ∷ xs) y (inr i) = let r = in_map_from f xs y i in (r.0, inr r.1, r.2)

pub in_kept : {X : Type 0} (p : X → Bool) (xs : List X) (x : X) → In x xs → p x ≡ true → In x (filter p xs)
in_kept p [] x i h = absurd i
in_kept p (y ∷ xs) x (inl e) h = subst (λ b. In x (cond b (y ∷ filter p xs) (filter p xs))) (sym (ap p e ∙ h)) (inl e)
in_kept p (y ∷ xs) x (inr i) h = step (p y) (in_kept p xs x i h)
  where
    step : (b : Bool) → In x (filter p xs) → In x (cond b (y ∷ filter p xs) (filter p xs))
    step true j = inr j
    step false j = j

pub in_kept_from : {X : Type 0} (p : X → Bool) (xs : List X) (x : X) → In x (filter p xs) → In x xs × (p x ≡ true)
in_kept_from p [] x i = absurd i
in_kept_from p (y ∷ xs) x i = step (p y) refl (in_kept_from p xs x) i
  where
    step : (b : Bool) → p y ≡ b → (In x (filter p xs) → In x xs × (p x ≡ true)) → In x (cond b (y ∷ filter p xs) (filter p xs)) → In x (y ∷ xs) × (p x ≡ true)
    step true e r (inl q) = (inl q, ap p (sym q) ∙ e)
    step true e r (inr j) = (inr (r j).0, (r j).1)
    step false e r j = (inr (r j).0, (r j).1)

pub apart_kept : {X : Type 0} (p : X → Bool) (xs : List X) → Apart xs → Apart (filter p xs)
apart_kept p [] a = tt
apart_kept p (y ∷ xs) a = step (p y) (apart_kept p xs a.1)
  where
    step : (b : Bool) → Apart (filter p xs) → Apart (cond b (y ∷ filter p xs) (filter p xs))
    step true r = (λ i. a.0 (in_kept_from p xs y i).0, r)
    step false r = r

pub apart_map : {X Y : Type 0} (f : X → Y) → ((x y : X) → f x ≡ f y → x ≡ y) → (xs : List X) → Apart xs → Apart (map f xs)
apart_map f inj [] a = tt
apart_map f inj (x ∷ xs) a =
    (λ i. let r = in_map_from f xs (f x) i in a.0 (subst (λ w. In w xs) (inj r.0 x r.2) r.1), apart_map f inj xs a.1)

pub apart_append : {X : Type 0} (xs ys : List X) → Apart xs → Apart ys → ((x : X) → In x xs → In x ys → ⊥) → Apart (xs ++ ys)
apart_append [] ys a b h = b
apart_append (x ∷ xs) ys a b h = (out, apart_append xs ys a.1 b (λ z i j. h z (inr i) j))
  where
    cases : In x xs ⊎ In x ys → ⊥
    cases (inl i) = a.0 i
    cases (inr j) = h x (inl refl) j

    out : In x (xs ++ ys) → ⊥
    out i = cases (in_append_cases xs ys x i)

module _ {X : Type 0} (cmp : X → X → Ordering) where
  pub all_placed : (P : X → Type 0) (x : X) (ys : List X) → P x → AllByRecursion P ys → AllByRecursion P (placed_in cmp x ys)
  all_placed P x [] h a = (h, tt)
  all_placed P x (y ∷ ys) h a = step (is_lt (cmp x y)) (all_placed P x ys h a.1)
    where
      step : (b : Bool) → AllByRecursion P (placed_in cmp x ys) → AllByRecursion P (cond b (x ∷ y ∷ ys) (y ∷ placed_in cmp x ys))
      step true r = (h, a)
      step false r = (a.0, r)

  pub in_placed : (z x : X) (ys : List X) → In z (x ∷ ys) → In z (placed_in cmp x ys)
  in_placed z x [] i = i
  in_placed z x (y ∷ ys) i = step (is_lt (cmp x y)) (in_placed z x ys) i
    where
      step : (b : Bool) → (In z (x ∷ ys) → In z (placed_in cmp x ys)) → In z (x ∷ y ∷ ys) → In z (cond b (x ∷ y ∷ ys) (y ∷ placed_in cmp x ys))
      step true r j = j
      step false r (inl e) = inr (r (inl e))
      step false r (inr (inl e)) = inl e
      step false r (inr (inr k)) = inr (r (inr k))

  pub in_sorted : (z : X) (xs : List X) → In z xs → In z (sorted cmp xs)
  in_sorted z [] i = i
  in_sorted z (x ∷ xs) (inl e) = in_placed z x (sorted cmp xs) (inl e)
  in_sorted z (x ∷ xs) (inr i) = in_placed z x (sorted cmp xs) (inr (in_sorted z xs i))

  pub all_sorted : (P : X → Type 0) (xs : List X) → AllByRecursion P xs → AllByRecursion P (sorted cmp xs)
  all_sorted P [] a = tt
  all_sorted P (x ∷ xs) a = all_placed P x (sorted cmp xs) a.0 (all_sorted P xs a.1)

  -- what holds of none before sorting holds of none after
  pub sorted_in : (z : X) (xs : List X) → In z (sorted cmp xs) → In z xs
  sorted_in z xs i = all_in (λ w. In w xs) (sorted cmp xs) z (all_sorted (λ w. In w xs) xs (all_from_in (λ w. In w xs) xs (λ w j. j))) i

  -- an earlier element is below a later one
  pub ascending_less : (xs : List X) (i j : ℕ) (d : X) → Ascending cmp xs → i < j → j < length xs → cmp (get_or xs i d) (get_or xs j d) ≡ Less
  ascending_less [] i j d s h k = absurd (omega arith)
  ascending_less (x ∷ xs) i zero d s h k = absurd (omega arith)
  ascending_less (x ∷ xs) zero (suc j) d s h k = all_in (λ z. cmp x z ≡ Less) xs (get_or xs j d) s.0 (in_get_or xs j d (omega arith))
  ascending_less (x ∷ xs) (suc i) (suc j) d s h k = ascending_less xs i j d s.1 (omega arith) (omega arith)

module _ {X : Type 0} {A : X → Type 0} {cmp : X → X → Ordering} (R : Ranks A cmp) (same : (x y : X) → A x → A y → cmp x y ≡ Equal → x ≡ y) where
  above_all : (x y : X) (ys : List X) → A x → A y → AllByRecursion A ys → cmp x y ≡ Less → AllByRecursion (λ z. cmp y z ≡ Less) ys → AllByRecursion (λ z. cmp x z ≡ Less) ys
  above_all x y [] a b h p q = tt
  above_all x y (z ∷ ys) a b h p q = (R.chain x y z a b h.0 p q.0, above_all x y ys a b h.1 p q.1)

  pub ascending_placed : (x : X) (ys : List X) → A x → AllByRecursion A ys → (In x ys → ⊥) → Ascending cmp ys → Ascending cmp (placed_in cmp x ys)
  ascending_placed x [] a h n s = (tt, tt)
  ascending_placed x (y ∷ ys) a h n s = step (cmp x y) refl (ascending_placed x ys a h.1 (λ i. n (inr i)) s.1)
    where
      step : (o : Ordering) → cmp x y ≡ o → Ascending cmp (placed_in cmp x ys) → Ascending cmp (cond (is_lt o) (x ∷ y ∷ ys) (y ∷ placed_in cmp x ys))
      step Less e r = ((e, above_all x y ys a h.0 h.1 e s.0), s)
      step Equal e r = absurd (n (inl (sym (same x y a h.0 e))))
      step Greater e r =
          (all_placed cmp (λ z. cmp y z ≡ Less) x ys (back R x y a h.0 e) s.0, r)

  pub ascending_sorted : (xs : List X) → AllByRecursion A xs → Apart xs → Ascending cmp (sorted cmp xs)
  ascending_sorted [] h a = tt
  ascending_sorted (x ∷ xs) h a =
      ascending_placed x (sorted cmp xs) h.0 (all_sorted cmp A xs h.1) (λ i. a.0 (sorted_in cmp x xs i)) (ascending_sorted xs h.1 a.1)

  -- no element of an ascending list is below itself
  not_later : (x y : X) (ys : List X) → A x → AllByRecursion (λ z. cmp x z ≡ Less) ys → In y ys → x ≡ y → ⊥
  not_later x y ys a h i e = not_less_equal (subst (λ w. cmp x w ≡ Less) (sym e) (all_in (λ z. cmp x z ≡ Less) ys y h i)) (self R x a)

  heads : (x y : X) (xs ys : List X) → AllByRecursion A (x ∷ xs) → AllByRecursion A (y ∷ ys) → Ascending cmp (x ∷ xs) → Ascending cmp (y ∷ ys) → In x (y ∷ ys) → In y (x ∷ xs) → x ≡ y
  heads x y xs ys a b s t (inl e) j = sym e
  heads x y xs ys a b s t (inr i) (inl e) = e
  heads x y xs ys a b s t (inr i) (inr j) =
      absurd (not_less_greater (all_in (λ z. cmp x z ≡ Less) xs y s.0 j) (forth R y x b.0 a.0 (all_in (λ z. cmp y z ≡ Less) ys x t.0 i)))

  pub same_elements : (xs ys : List X) → AllByRecursion A xs → AllByRecursion A ys → Ascending cmp xs → Ascending cmp ys → ((z : X) → In z xs → In z ys) → ((z : X) → In z ys → In z xs) → xs ≡ ys
  same_elements [] [] a b s t f g = refl
  same_elements [] (y ∷ ys) a b s t f g = absurd (g y (inl refl))
  same_elements (x ∷ xs) [] a b s t f g = absurd (f x (inl refl))
  same_elements (x ∷ xs) (y ∷ ys) a b s t f g =
      let e : x ≡ y = heads x y xs ys a b s t (f x (inl refl)) (g y (inl refl)) in
      let r : xs ≡ ys = same_elements xs ys a.1 b.1 s.1 t.1 (λ z i. fore z i (f z (inr i))) (λ z i. hind z i (g z (inr i))) in
      ap (λ w. w ∷ xs) e ∙ ap (λ w. y ∷ w) r
    where
      fore : (z : X) → In z xs → In z (y ∷ ys) → In z ys
      fore z i (inl e) = absurd (not_later x z xs a.0 s.0 i (heads x y xs ys a b s t (f x (inl refl)) (g y (inl refl)) ∙ e))
      fore z i (inr j) = j

      hind : (z : X) → In z ys → In z (x ∷ xs) → In z xs
      hind z i (inl e) =
          absurd (not_later y z ys b.0 t.0 i (sym (heads x y xs ys a b s t (f x (inl refl)) (g y (inl refl))) ∙ e))
      hind z i (inr j) = j

-- ---- places in an ascending list

pub ascending_kept : {X : Type 0} (cmp : X → X → Ordering) (p : X → Bool) (xs : List X) → Ascending cmp xs → Ascending cmp (filter p xs)
ascending_kept cmp p [] s = tt
ascending_kept cmp p (x ∷ xs) s = step (p x) (ascending_kept cmp p xs s.1)
  where
    step : (b : Bool) → Ascending cmp (filter p xs) → Ascending cmp (cond b (x ∷ filter p xs) (filter p xs))
    step true r = (all_kept_by p (λ y. cmp x y ≡ Less) xs s.0, r)
    step false r = r

pub in_place : {X : Type 0} (xs : List X) (x d : X) → In x xs → (i : ℕ) × (i < length xs) × (get_or xs i d ≡ x)
in_place [] x d i = absurd i
in_place (y ∷ xs) x d (inl e) = (0, omega arith, e)
in_place (y ∷ xs) x d (inr i) = let r = in_place xs x d i in (suc r.0, omega (arith, r.1), r.2)

module _ {X : Type 0} {A : X → Type 0} {cmp : X → X → Ordering} (R : Ranks A cmp) (same : (x y : X) → A x → A y → cmp x y ≡ Equal → x ≡ y) (xs : List X) (d : X) (a : AllByRecursion A xs) (s : Ascending cmp xs) where
  -- elements compare as their places do
  pub by_place : (i j : ℕ) → i < length xs → j < length xs → cmp (get_or xs i d) (get_or xs j d) ≡ nat_cmp i j
  by_place i j h k = step (cases_order i j)
    where
      step : (i ≡ j) ⊎ ((i < j) ⊎ (j < i)) → cmp (get_or xs i d) (get_or xs j d) ≡ nat_cmp i j
      step (inl e) = subst (λ n. cmp (get_or xs i d) (get_or xs n d) ≡ nat_cmp i n) e (self R (get_or xs i d) (All-get_or A xs i d h a) ∙ sym (rank_self i))
      step (inr (inl e)) = ascending_less cmp xs i j d s e k ∙ sym (lt_rank i j e)
      step (inr (inr e)) = forth R (get_or xs j d) (get_or xs i d) (All-get_or A xs j d k a) (All-get_or A xs i d h a) (ascending_less cmp xs j i d s e h) ∙ sym (forth rank_ranks j i tt tt (lt_rank j i e))

  pub place_once : (i j : ℕ) → i < length xs → j < length xs → get_or xs i d ≡ get_or xs j d → i ≡ j
  place_once i j h k e =
      rank_same i j (sym (by_place i j h k) ∙ subst (λ x. cmp (get_or xs i d) x ≡ Equal) e (self R (get_or xs i d) (All-get_or A xs i d h a)))

  -- an element that is not among the first n, and that none of the others is below, is the next one
  pub least_next : (n : ℕ) (x : X) → In x xs → ((j : ℕ) → j < n → get_or xs j d ≡ x → ⊥) → ((j : ℕ) → n ≤ j → j < length xs → cmp (get_or xs j d) x ≡ Less → ⊥) → (n < length xs) × (get_or xs n d ≡ x)
  least_next n x i new least = let p = in_place xs x d i in step p.0 p.1 p.2 (cases_order p.0 n)
    where
      step : (k : ℕ) → k < length xs → get_or xs k d ≡ x → (k ≡ n) ⊎ ((k < n) ⊎ (n < k)) → (n < length xs) × (get_or xs n d ≡ x)
      step k h e (inl q) = (omega arith, subst (λ m. get_or xs m d ≡ x) q e)
      step k h e (inr (inl q)) = absurd (new k q e)
      step k h e (inr (inr q)) = absurd (least n (omega arith) (omega arith) (subst (λ y. cmp (get_or xs n d) y ≡ Less) e (ascending_less cmp xs n k d s q h)))
