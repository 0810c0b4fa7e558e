-- What each exchange of a heap keeps. Assumes nothing.
use Rattle.std.proofs.Common.{◌≡◌, ℕ, zero, suc, ◌+◌, ◌-◌, ◌*◌, ◌/◌, ◌<◌, ◌≤◌, Bool, true, false, List, length, get_or, sym, refl, ap, ◌∙◌, subst, ⊎_elim, arith}
use Rattle.std.proofs.lemmas.Bool.Decides.{eqb_tells}
use Rattle.heap.specs.Order.{OrderOn, Valid, Heaped, Best, Least, Stands}

pub cases : {G : Type 0} (a b : ℕ) → (a ≡ b → G) → ((a ≡ b → ⊥) → G) → G
cases a b f g = ⊎_elim (λ t. f t.1) (λ t. g t.1) (eqb_tells a b)

-- ys is xs with the elements at i and j exchanged, by places
abbrev pub Swap : {X : Type 0} → List X → List X → ℕ → ℕ → Type 0
Swap {X} xs ys i j = ((d : X) → get_or ys i d ≡ get_or xs j d) × ((d : X) → get_or ys j d ≡ get_or xs i d) × ((k : ℕ) (d : X) → (k ≡ i → ⊥) → (k ≡ j → ⊥) → get_or ys k d ≡ get_or xs k d)

module _ {X : Type 0} (valid : X → Type 0) (before : X → X → Bool) where
  by : (a b x y : X) → a ≡ x → b ≡ y → before y x ≡ false → before b a ≡ false
  by a b x y p q h = (λ i. before (q i) (p i)) ∙ h

  -- the grandparents' half of both shapes
  abbrev pub Across : List X → ℕ → ℕ → Type 0
  Across xs j n = (p k : ℕ) (d : X) → p * 2 + 1 ≤ j → j ≤ p * 2 + 2 → j * 2 + 1 ≤ k → k ≤ j * 2 + 2 → k < n → before (get_or xs k d) (get_or xs p d) ≡ false

  -- a heap, but the element at j may be before its parent
  abbrev pub Gap : List X → ℕ → ℕ → Type 0
  Gap xs j n = ((p k : ℕ) (d : X) → p * 2 + 1 ≤ k → k ≤ p * 2 + 2 → k < n → (k ≡ j → ⊥) → before (get_or xs k d) (get_or xs p d) ≡ false) × Across xs j n

  -- a heap, but a child of j may be before the element at j
  abbrev pub Hole : List X → ℕ → ℕ → Type 0
  Hole xs j n = ((p k : ℕ) (d : X) → p * 2 + 1 ≤ k → k ≤ p * 2 + 2 → k < n → (p ≡ j → ⊥) → before (get_or xs k d) (get_or xs p d) ≡ false) × Across xs j n

  pub valid_swap : (xs ys : List X) (i j n : ℕ) → i < n → j < n → Swap xs ys i j → Valid valid xs n → Valid valid ys n
  valid_swap xs ys i j n a b s v = λ k d f. cases k i
      (λ e. subst valid (sym (ap (λ m. get_or ys m d) e ∙ s.0 d)) (v j d b))
      (λ u. cases k j
      (λ e. subst valid (sym (ap (λ m. get_or ys m d) e ∙ s.1 d)) (v i d a))
      (λ w. subst valid (sym (s.2 k d u w)) (v k d f)))

  module _ (o : OrderOn valid before) where
    never : (x : X) (b : Bool) → valid x → before x x ≡ b → before x x ≡ false
    never x true v e = o.one_way x x v v e
    never x false v e = e

    itself : (xs : List X) (j k n : ℕ) (d : X) → j < n → Valid valid xs n → k ≡ j → before (get_or xs k d) (get_or xs j d) ≡ false
    itself xs j k n d a v e = by _ _ _ _ refl (ap (λ m. get_or xs m d) e) (never (get_or xs j d) _ (v j d a) refl)

    up : (xs ys : List X) (i j n : ℕ) → i * 2 + 1 ≤ j → j ≤ i * 2 + 2 → j < n → Valid valid xs n → Swap xs ys i j → ((d : X) → before (get_or xs j d) (get_or xs i d) ≡ true) → Gap xs j n → Gap ys i n
    up xs ys i j n from to in' v s t h =
        let after : (d : X) → before (get_or xs i d) (get_or xs j d) ≡ false = λ d. o.one_way _ _ (v j d in') (v i d (omega arith)) (t d) in (
          λ p k d a b f u. cases k j
              (λ e. let q : p ≡ i = omega arith in by _ _ _ _ (ap (λ m. get_or ys m d) q ∙ s.0 d) (ap (λ m. get_or ys m d) e ∙ s.1 d) (after d))
              (λ w. cases p i
              (λ e. by _ _ _ _ (ap (λ m. get_or ys m d) e ∙ s.0 d) (s.2 k d u w) (o.chain _ _ _ (v k d f) (v i d (omega arith)) (v j d in') (h.0 i k d (omega arith) (omega arith) f w) (after d)))
              (λ z. cases p j
              (λ e. by _ _ _ _ (ap (λ m. get_or ys m d) e ∙ s.1 d) (s.2 k d u w) (h.1 i k d from to (omega arith) (omega arith) f))
              (λ y. by _ _ _ _ (s.2 p d z y) (s.2 k d u w) (h.0 p k d a b f w)))),
          λ p k d a b f g l.
              let over = h.0 p i d a b (omega arith) (omega arith) in
              let same = s.2 p d (omega arith) (omega arith) in
              cases k j
              (λ e. by _ _ _ _ same (ap (λ m. get_or ys m d) e ∙ s.1 d) over)
              (λ w. by _ _ _ _ same (s.2 k d (omega arith) w) (o.chain _ _ _ (v k d l) (v i d (omega arith)) (v p d (omega arith)) (h.0 i k d f g l w) over)),
        )

    down : (xs ys : List X) (j c n : ℕ) → j * 2 + 1 ≤ c → c ≤ j * 2 + 2 → c < n → Valid valid xs n → Swap xs ys j c → ((d : X) → before (get_or xs c d) (get_or xs j d) ≡ true) → Best before xs j c n → Hole xs j n → Hole ys c n
    down xs ys j c n from to in' v s t best h = (
      λ p k d a b f u. cases p j
          (λ e. cases k c
          (λ q. by _ _ _ _ (ap (λ m. get_or ys m d) e ∙ s.0 d) (ap (λ m. get_or ys m d) q ∙ s.1 d) (o.one_way _ _ (v c d in') (v j d (omega arith)) (t d)))
          (λ w. by _ _ _ _ (ap (λ m. get_or ys m d) e ∙ s.0 d) (s.2 k d (omega arith) w) (best k d (omega arith) (omega arith) f)))
          (λ w. cases k j
          (λ e. by _ _ _ _ (s.2 p d w u) (ap (λ m. get_or ys m d) e ∙ s.0 d) (h.1 p c d (omega arith) (omega arith) from to in'))
          (λ z. by _ _ _ _ (s.2 p d w u) (s.2 k d z (omega arith)) (h.0 p k d a b f w))),
      λ p k d a b f g l.
          let e : p ≡ j = omega arith in
          by _ _ _ _ (ap (λ m. get_or ys m d) e ∙ s.0 d) (s.2 k d (omega arith) (omega arith)) (h.0 c k d f g l (omega arith)),
    )

    -- the first of a heap is a least one
    top : (xs : List X) (n : ℕ) (d : X) → Stands valid before xs n → (fuel k : ℕ) → k ≤ fuel → k < n → before (get_or xs k d) (get_or xs 0 d) ≡ false
    top xs n d h zero k a b = itself xs 0 k n d (omega arith) h.sound (omega arith)
    top xs n d h (suc fuel) k a b = cases k 0 (itself xs 0 k n d (omega arith) h.sound)
        (λ u. o.chain _ _ _ (h.sound k d b) (h.sound ((k - 1) / 2) d (omega arith)) (h.sound 0 d (omega arith))
        (h.heaped ((k - 1) / 2) k d (omega arith) (omega arith) (omega arith) b) (top xs n d h fuel ((k - 1) / 2) (omega arith) (omega arith)))

    pub least : (xs : List X) (x : X) → ((d : X) → x ≡ get_or xs 0 d) → Stands valid before xs (length xs) → Least before x xs
    least xs x e h = λ k d f. by _ _ _ _ (e d) refl (top xs (length xs) d h k k (omega arith) f)

  -- `sift_up`: the record that began last in xs is at j in ys
  pub Rising : List X → List X → ℕ → Type 0
  Rising xs ys j = OrderOn valid before → Valid valid xs (length xs) → Heaped before xs 0 (length xs - 1) → Valid valid ys (length xs) × Gap ys j (length xs)

  pub rise_begins : (xs : List X) (j : ℕ) → j + 1 ≡ length xs → Rising xs xs j
  unfolding Rising
  rise_begins xs j e = λ o v h. (v, (λ p k d a b f u. h p k d (omega arith) a b (omega arith), λ p k d a b f g l. absurd (omega arith)))

  pub rise_steps : (xs ys zs : List X) (i j : ℕ) → i * 2 + 1 ≤ j → j ≤ i * 2 + 2 → j < length xs → Swap ys zs i j → ((d : X) → before (get_or ys j d) (get_or ys i d) ≡ true) → Rising xs ys j → Rising xs zs i
  unfolding Rising
  rise_steps xs ys zs i j from to in' s t was = λ o v h.
      let w = was o v h in (valid_swap ys zs i j (length xs) (omega arith) in' s w.0, up o ys zs i j (length xs) from to in' w.0 s t w.1)

  abbrev pub Risen : List X → List X → Type 0
  Risen xs ys = OrderOn valid before → Valid valid xs (length xs) → Heaped before xs 0 (length xs - 1) → Stands valid before ys (length xs)

  pub rise_tops : (xs ys : List X) (j : ℕ) → j ≡ 0 → Rising xs ys j → Risen xs ys
  unfolding Rising
  rise_tops xs ys j e was = λ o v h. let w = was o v h in record { sound = w.0; heaped = λ p k d lo a b f. w.1.0 p k d a b f (omega arith) }

  pub rise_rests : (xs ys : List X) (i j : ℕ) → i * 2 + 1 ≤ j → j ≤ i * 2 + 2 → ((d : X) → before (get_or ys j d) (get_or ys i d) ≡ false) → Rising xs ys j → Risen xs ys
  unfolding Rising
  rise_rests xs ys i j from to t was = λ o v h. let w = was o v h in record {
    sound = w.0;
    heaped = λ p k d lo a b f. cases k j
        (λ e. let q : p ≡ i = omega arith in by _ _ _ _ (ap (λ m. get_or ys m d) q) (ap (λ m. get_or ys m d) e) (t d))
        (λ u. w.1.0 p k d a b f u);
  }

  -- `sift_down`: the record that began first in xs is at j in ys
  pub Sinking : List X → List X → ℕ → Type 0
  Sinking xs ys j = OrderOn valid before → Valid valid xs (length xs) → Heaped before xs 1 (length xs) → Valid valid ys (length xs) × Hole ys j (length xs)

  pub sink_begins : (xs : List X) → Sinking xs xs 0
  unfolding Sinking
  sink_begins xs = λ o v h. (v, (λ p k d a b f u. h p k d (omega arith) a b f, λ p k d a b f g l. absurd (omega arith)))

  pub sink_steps : (xs ys zs : List X) (j c : ℕ) → j * 2 + 1 ≤ c → c ≤ j * 2 + 2 → c < length ys → length ys ≡ length xs → Swap ys zs j c → ((d : X) → before (get_or ys c d) (get_or ys j d) ≡ true) → (OrderOn valid before → Valid valid ys (length ys) → Best before ys j c (length ys)) → Sinking xs ys j → Sinking xs zs c
  unfolding Sinking
  sink_steps xs ys zs j c from to in' e s t best was = λ o v h.
      let w = was o v h in
      let v' : Valid valid ys (length ys) = λ k d f. w.0 k d (omega arith) in
      (valid_swap ys zs j c (length xs) (omega arith) (omega arith) s w.0, down o ys zs j c (length xs) from to (omega arith) w.0 s t (λ k d a b f. best o v' k d a b (omega arith)) w.1)

  abbrev pub Sunk : List X → List X → Type 0
  Sunk xs ys = OrderOn valid before → Valid valid xs (length xs) → Heaped before xs 1 (length xs) → Stands valid before ys (length xs)

  pub sink_rests : (xs ys : List X) (j c : ℕ) → j < c → c < length ys → length ys ≡ length xs → ((d : X) → before (get_or ys c d) (get_or ys j d) ≡ false) → (OrderOn valid before → Valid valid ys (length ys) → Best before ys j c (length ys)) → Sinking xs ys j → Sunk xs ys
  unfolding Sinking
  sink_rests xs ys j c lt in' e t best was = λ o v h.
      let w = was o v h in
      let v' : Valid valid ys (length ys) = λ k d f. w.0 k d (omega arith) in
      record {
        sound = w.0;
        heaped = λ p k d lo a b f. cases p j
            (λ q. by _ _ _ _ (ap (λ m. get_or ys m d) q) refl (o.chain _ _ _ (w.0 k d f) (v' c d in') (v' j d (omega arith)) (best o v' k d (omega arith) (omega arith) (omega arith)) (t d)))
            (λ u. w.1.0 p k d a b f u);
      }

  pub sink_ends : (xs ys : List X) (j : ℕ) → length xs / 2 ≤ j → Sinking xs ys j → Sunk xs ys
  unfolding Sinking
  sink_ends xs ys j leaf was = λ o v h. let w = was o v h in record { sound = w.0; heaped = λ p k d lo a b f. w.1.0 p k d a b f (omega arith) }
