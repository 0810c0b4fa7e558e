-- A binary heap over records, whose order need be one on the valid records only. Assumes nothing.
use Rattle.std.specs.Prelude.{◌≡◌, ℕ, ◌+◌, ◌*◌, ◌<◌, ◌≤◌, min, Bool, true, false, List, ◌∷◌, length, take, drop, slice_index_or}
use Rattle.std.specs.List.Sorted.{IsPermutation}

-- on the valid records `before` is a strict order in which any two compare
pub record OrderOn {X : Type 0} (valid : X → Type 0) (before : X → X → Bool) : Type 0 where
  pub one_way : (x y : X) → valid x → valid y → before x y ≡ true → before y x ≡ false
  pub chain : (x y z : X) → valid x → valid y → valid z → before x y ≡ false → before y z ≡ false → before x z ≡ false

-- how many slots are in use, where `len` are said to be
abbrev pub used : {X : Type 0} → List X → ℕ → ℕ
used xs len = min len (length xs)

-- the first n are valid
abbrev pub Valid : {X : Type 0} → (X → Type 0) → List X → ℕ → Type 0
Valid {X} valid xs n = (k : ℕ) (d : X) → k < n → valid (slice_index_or xs k d)

module _ {X : Type 0} (before : X → X → Bool) where
  -- of the first n none is before its parent, where the parent stands at low or after it
  abbrev pub Heaped : List X → ℕ → ℕ → Type 0
  Heaped xs low n = (p k : ℕ) (d : X) → low ≤ p → p * 2 + 1 ≤ k → k ≤ p * 2 + 2 → k < n → before (slice_index_or xs k d) (slice_index_or xs p d) ≡ false

  -- no child of j below n is before the record at c
  abbrev pub Best : List X → ℕ → ℕ → ℕ → Type 0
  Best xs j c n = (k : ℕ) (d : X) → j * 2 + 1 ≤ k → k ≤ j * 2 + 2 → k < n → before (slice_index_or xs k d) (slice_index_or xs c d) ≡ false

  -- none of xs is before x
  abbrev pub Least : X → List X → Type 0
  Least x xs = (k : ℕ) (d : X) → k < length xs → before (slice_index_or xs k d) x ≡ false

-- the first n of xs are valid, and a heap
pub record Stands {X : Type 0} (valid : X → Type 0) (before : X → X → Bool) (xs : List X) (n : ℕ) : Type 0 where
  pub sound : Valid valid xs n
  pub heaped : Heaped before xs 0 n

module _ {X : Type 0} (valid : X → Type 0) (before : X → X → Bool) where
  -- the heap of the first m of xs took x, and is the first n of ys: the same records and x, in a heap's arrangement; the slots behind them stay
  pub record Pushed (xs : List X) (m : ℕ) (x : X) (ys : List X) (n : ℕ) : Type 0 where
    pub size : n ≡ m + 1
    pub items : IsPermutation (x ∷ take m xs) (take n ys)
    pub long : length ys ≡ length xs
    pub rest : drop n ys ≡ drop n xs
    pub stands : OrderOn valid before → valid x → Stands valid before xs m → Stands valid before ys n

  -- the heap of the first m of xs gave x, and is the first n of ys: x and the records left are those that it held, none of which is before x; the slots behind them stay
  pub record Popped (xs : List X) (m : ℕ) (x : X) (ys : List X) (n : ℕ) : Type 0 where
    pub size : n + 1 ≡ m
    pub items : IsPermutation (take m xs) (x ∷ take n ys)
    pub long : length ys ≡ length xs
    pub rest : drop m ys ≡ drop m xs
    pub stands : OrderOn valid before → Stands valid before xs m → Least before x (take m xs) × Stands valid before ys n
