-- Lists in strictly rising order, and what a list has. Assumes nothing.
use Rattle.std.proofs.Common.{◌≡◌, ℕ, zero, suc, ◌+◌, ◌<◌, ◌≤◌, Bool, true, false, cond, ◌⊎◌, List, [], ◌∷◌, ◌++◌, map, length, get_or, filter, sym, refl, ap, ◌∙◌, subst, inl, inr, ⊎_elim, suc-le-suc, le_of_suc-le-suc, not-suc-le-zero, arith}
use Rattle.std.specs.List.{range_with_len, All, Contains, flat_map}
use Rattle.std.proofs.lemmas.List.Elements.{All-nil, All-head, All-tail, All-cons, All-append, All-get_or, All-from_get_or, All-contains, All-map, All-filter, All-weaker, Contains-append_left, Contains-append_right}
use Rattle.std.proofs.lemmas.Bool.{false≢true}
use Rattle.std.proofs.lemmas.List.FromFn.{length-range_with_len, get_or-range_with_len}

module _ {X : Type 0} where
  pub has_here : (x : X) (xs : List X) → Contains (x ∷ xs) x
  has_here x xs = (0, omega arith, refl)

  pub has_there : (x y : X) (xs : List X) → Contains xs y → Contains (x ∷ xs) y
  has_there x y xs h = (suc h.0, suc-le-suc h.1, h.2)

  pub has_cases : (x y : X) (xs : List X) → Contains (x ∷ xs) y → (x ≡ y) ⊎ Contains xs y
  has_cases x y xs (zero, h, e) = inl e
  has_cases x y xs (suc k, h, e) = inr (k, le_of_suc-le-suc h, e)

  pub has_none : (y : X) → Contains [] y → ⊥
  has_none y h = not-suc-le-zero h.1

  kept_one : (b : Bool) (x y : X) (xs : List X) → (y ≡ x → b ≡ true) → (y ≡ x) ⊎ Contains xs x → Contains (cond b (y ∷ xs) xs) x
  kept_one true x y xs p (inl e) = subst (Contains (y ∷ xs)) e (has_here y xs)
  kept_one true x y xs p (inr h) = has_there y x xs h
  kept_one false x y xs p (inl e) = absurd (false≢true (p e))
  kept_one false x y xs p (inr h) = h

  -- what passes is kept
  pub has_kept_by : (t : X → Bool) (xs : List X) (x : X) → t x ≡ true → Contains xs x → Contains (filter t xs) x
  has_kept_by t [] x p h = absurd (has_none x h)
  has_kept_by t (y ∷ xs) x p h =
      kept_one (t y) x y (filter t xs) (λ e. ap t e ∙ p) (⊎_elim inl (λ k. inr (has_kept_by t xs x p k)) (has_cases y x xs h))

  -- strictly rising
  abbrev pub Rising : (X → X → Type 0) → List X → Type 0
  Rising R [] = Unit {0}
  Rising R (x ∷ xs) = All (R x) xs × Rising R xs

  pub rising_get_or : (R : X → X → Type 0) (xs : List X) (i j : ℕ) (d : X) → Rising R xs → i < j → j < length xs → R (get_or xs i d) (get_or xs j d)
  rising_get_or R [] i j d r h k = absurd (not-suc-le-zero k)
  rising_get_or R (x ∷ xs) i zero d r h k = absurd (not-suc-le-zero h)
  rising_get_or R (x ∷ xs) zero (suc j) d r h k = All-get_or (R x) xs j d (le_of_suc-le-suc k) r.0
  rising_get_or R (x ∷ xs) (suc i) (suc j) d r h k = rising_get_or R xs i j d r.1 (le_of_suc-le-suc h) (le_of_suc-le-suc k)

  pub rising_append : (R : X → X → Type 0) (xs ys : List X) → Rising R xs → Rising R ys → All (λ x. All (R x) ys) xs → Rising R (xs ++ ys)
  rising_append R [] ys r s a = s
  rising_append R (x ∷ xs) ys r s a = (All-append (R x) xs ys r.0 (All-head (λ z. All (R z) ys) x xs a), rising_append R xs ys r.1 s (All-tail (λ z. All (R z) ys) x xs a))

  rising_one : (R : X → X → Type 0) (b : Bool) (x : X) (xs : List X) → All (R x) xs → Rising R xs → Rising R (cond b (x ∷ xs) xs)
  rising_one R true x xs a r = (a, r)
  rising_one R false x xs a r = r

  pub rising_kept_by : (R : X → X → Type 0) (t : X → Bool) (xs : List X) → Rising R xs → Rising R (filter t xs)
  rising_kept_by R t [] r = tt
  rising_kept_by R t (x ∷ xs) r = rising_one R (t x) x (filter t xs) (All-filter t (R x) xs r.0) (rising_kept_by R t xs r.1)

  pub rising_weaker : (R S : X → X → Type 0) → ((x y : X) → R x y → S x y) → (xs : List X) → Rising R xs → Rising S xs
  rising_weaker R S f [] r = tt
  rising_weaker R S f (x ∷ xs) r = (All-weaker (R x) (S x) (f x) xs r.0, rising_weaker R S f xs r.1)

-- of a list that is mapped
pub rising_map : {X Y : Type 0} (R : Y → Y → Type 0) (f : X → Y) (xs : List X) → Rising (λ x y. R (f x) (f y)) xs → Rising R (map f xs)
rising_map R f [] r = tt
rising_map R f (x ∷ xs) r = (All-map (R (f x)) f xs r.0, rising_map R f xs r.1)

pub has_map : {X Y : Type 0} (f : X → Y) (xs : List X) (x : X) → Contains xs x → Contains (map f xs) (f x)
has_map f [] x h = absurd (has_none x h)
has_map f (y ∷ xs) x h =
    ⊎_elim (λ e. subst (λ z. Contains (f y ∷ map f xs) (f z)) e (has_here (f y) (map f xs))) (λ k. has_there (f y) (f x) (map f xs) (has_map f xs x k))
    (has_cases y x xs h)

pub has_joined : {X Y : Type 0} (f : X → List Y) (xs : List X) (x : X) (y : Y) → Contains xs x → Contains (f x) y → Contains (flat_map f xs) y
has_joined f [] x y h k = absurd (has_none x h)
has_joined f (z ∷ xs) x y h k =
    ⊎_elim (λ e. Contains-append_left (f z) (flat_map f xs) y (subst (λ v. Contains (f v) y) (sym e) k)) (λ l. Contains-append_right (f z) (flat_map f xs) y (has_joined f xs x y l k))
    (has_cases z x xs h)

pub all_joined : {X Y : Type 0} (P : Y → Type 0) (f : X → List Y) (xs : List X) → All (λ x. All P (f x)) xs → All P (flat_map f xs)
all_joined P f [] a = All-nil P
all_joined P f (x ∷ xs) a = All-append P (f x) (flat_map f xs) (All-head (λ z. All P (f z)) x xs a) (all_joined P f xs (All-tail (λ z. All P (f z)) x xs a))

-- numbers in a row
pub has_counting : (n k : ℕ) → k < n → Contains (range_with_len 0 n) k
has_counting n k h =
    (k, rw length-range_with_len h, get_or-range_with_len 0 n k k h ∙ (omega arith))

pub all_counting : (P : ℕ → Type 0) (a n : ℕ) → ((k : ℕ) → a ≤ k → k < a + n → P k) → All P (range_with_len a n)
all_counting P a zero h = All-nil P
all_counting P a (suc n) h = All-cons P a (range_with_len (a + 1) n) (h a (omega arith) (omega arith)) (all_counting P (a + 1) n (λ k p q. h k (omega arith) (omega arith)))

pub rising_counting : (a n : ℕ) → Rising (λ x y. x < y) (range_with_len a n)
rising_counting a zero = tt
rising_counting a (suc n) = (all_counting (λ k. a < k) (a + 1) n (λ k p q. omega arith), rising_counting (a + 1) n)

-- two lists in the same strict order that have the same are equal
module _ {X : Type 0} (R : X → X → Type 0) (never : (x : X) → R x x → ⊥) (one_way : (x y : X) → R x y → R y x → ⊥) where
  heads : (x y : X) (xs ys : List X) → All (R x) xs → All (R y) ys → (y ≡ x) ⊎ Contains ys x → (x ≡ y) ⊎ Contains xs y → x ≡ y
  heads x y xs ys a b (inl e) k = sym e
  heads x y xs ys a b (inr h) (inl e) = e
  heads x y xs ys a b (inr h) (inr k) = absurd (one_way x y (All-contains (R x) xs y a k) (All-contains (R y) ys x b h))

  -- what the rest of one has, the rest of the other has
  tails : (x y : X) (xs ys : List X) → x ≡ y → All (R x) xs → ((z : X) → Contains (x ∷ xs) z → Contains (y ∷ ys) z) → (z : X) → Contains xs z → Contains ys z
  tails x y xs ys e a f z h =
      ⊎_elim (λ k. absurd (never x (subst (R x) (sym (e ∙ k)) (All-contains (R x) xs z a h)))) (λ k. k) (has_cases y z ys (f z (has_there x z xs h)))

  pub same_rising : (xs ys : List X) → Rising R xs → Rising R ys → ((z : X) → Contains xs z → Contains ys z) → ((z : X) → Contains ys z → Contains xs z) → xs ≡ ys
  same_rising [] [] r s f g = refl
  same_rising [] (y ∷ ys) r s f g = absurd (has_none y (g y (has_here y ys)))
  same_rising (x ∷ xs) [] r s f g = absurd (has_none x (f x (has_here x xs)))
  same_rising (x ∷ xs) (y ∷ ys) r s f g =
      let e : x ≡ y = heads x y xs ys r.0 s.0 (has_cases y x ys (f x (has_here x xs))) (has_cases x y xs (g y (has_here y ys))) in
      let t : xs ≡ ys = same_rising xs ys r.1 s.1 (tails x y xs ys e r.0 f) (tails y x ys xs (sym e) s.0 g) in
      ap (λ z. z ∷ xs) e ∙ ap (λ zs. y ∷ zs) t

pub rising_from_get_or : {X : Type 0} (R : X → X → Type 0) (xs : List X) → ((i j : ℕ) (d : X) → i < j → j < length xs → R (get_or xs i d) (get_or xs j d)) → Rising R xs
rising_from_get_or R [] h = tt
rising_from_get_or R (x ∷ xs) h =
    (All-from_get_or (R x) xs x (λ i k. h 0 (suc i) x (omega arith) (suc-le-suc k)), rising_from_get_or R xs (λ i j d k l. h (suc i) (suc j) d (suc-le-suc k) (suc-le-suc l)))
