-- What a push and a pop do to the slots. Assumes nothing.
use Rattle.std.proofs.Common.{◌≡◌, ℕ, ◌+◌, ◌-◌, ◌<◌, ◌≤◌, Bool, List, [], ◌∷◌, ◌++◌, length, get_or, take, drop, set, sym, refl, ap, ◌∙◌, subst, arith, length-append, length-drop}
use Rattle.std.specs.List.Sorted.{IsPermutation}
use Rattle.std.proofs.lemmas.List.{take_more, take_more_set, take_all, take_at, take-append-le, length-take-le, length-set, get_or-take, get_or-set_same, get_or-set_other, get_or_append_left, get_or_read, drop-set-lt}
use Rattle.std.proofs.lemmas.Slice.{drop-append-drop}
use Rattle.std.proofs.lemmas.List.Sorted.{IsPermutation-trans, IsPermutation-sym, IsPermutation-cons, IsPermutation-to_front, length_permutation}
use Rattle.heap.specs.Order.{OrderOn, Valid, Heaped, Least, Stands, Pushed, Popped}
use Rattle.heap.proofs.Sifts.{cases, Swap, valid_swap, least, Risen, Sunk}

module _ {X : Type 0} (valid : X → Type 0) (before : X → X → Bool) where
  -- two lists that agree below m
  valid_like : (xs ys : List X) (n m : ℕ) → m ≤ n → ((k : ℕ) (d : X) → k < m → get_or ys k d ≡ get_or xs k d) → Valid valid xs n → Valid valid ys m
  valid_like xs ys n m le e v = λ k d f. subst valid (sym (e k d f)) (v k d (omega arith))

  heaped_like : (xs ys : List X) (low n m : ℕ) → m ≤ n → ((k : ℕ) (d : X) → low ≤ k → k < m → get_or ys k d ≡ get_or xs k d) → Heaped before xs low n → Heaped before ys low m
  heaped_like xs ys low n m le e h = λ p k d lo a b f.
      (λ i. before (e k d (omega arith) f i) (e p d lo (omega arith) i)) ∙ h p k d lo a b (omega arith)

  pub stands_like : (xs ys : List X) (n m : ℕ) → m ≤ n → ((k : ℕ) (d : X) → k < m → get_or ys k d ≡ get_or xs k d) → Stands valid before xs n → Stands valid before ys m
  stands_like xs ys n m le e h = record { sound = valid_like xs ys n m le e h.sound; heaped = heaped_like xs ys 0 n m le (λ k d lo. e k d) h.heaped }

  -- k is m + 1; zs is what `sift_up` made of the first k
  pub pushed : (xs zs : List X) (m k : ℕ) (x : X) → k ≡ m + 1 → m < length xs → IsPermutation (take k (set xs m x)) zs → Risen valid before (take k (set xs m x)) zs → Pushed valid before xs m x (zs ++ drop k (set xs m x)) (m + 1)
  pushed xs zs m k x e lt sh rise =
      let ys = set xs m x in
      let part = take k ys in
      let is : part ≡ take m xs ++ x ∷ [] = ap (λ j. take j ys) e ∙ take_more_set xs m x lt in
      let size : length part ≡ k = length-take-le k ys (omega (arith, length-set xs m x)) in
      let long : length zs ≡ m + 1 = length_permutation part zs sh ∙ size ∙ e in
      record {
        size = refl;
        items = subst (IsPermutation (x ∷ take m xs)) (sym (take_at zs (drop k ys) (m + 1) long))
            (IsPermutation-trans _ _ zs (IsPermutation-sym _ _ (IsPermutation-to_front (take m xs) x)) (subst (λ l. IsPermutation l zs) is sh));
        long = simp (length-append, length-drop, length-set) (omega (arith, length-set xs m x));
        rest = drop-append-drop k ys zs (m + 1) (omega arith) (omega arith) ∙ drop-set-lt (m + 1) xs m x (omega arith);
        stands = λ o vx h.
            let at : (j : ℕ) (d : X) → j < m → get_or part j d ≡ get_or xs j d = λ j d f. get_or-take k ys j d (omega arith) ∙ get_or-set_other xs m j x d (omega arith) in
            let v : Valid valid part (length part) = λ j d f. cases j m
            (λ q. subst valid (sym (get_or-take k ys j d (omega arith) ∙ ap (λ i. get_or ys i d) q ∙ get_or-set_same xs m x d lt)) vx)
            (λ u. subst valid (sym (at j d (omega arith))) (h.sound j d (omega arith))) in
            let w = rise o v (heaped_like xs part 0 m (length part - 1) (omega arith) (λ j d lo f. at j d (omega arith)) h.heaped) in
            stands_like zs (zs ++ drop k ys) (length part) (m + 1) (omega arith) (λ j d f. get_or_append_left zs (drop k ys) d j (omega arith)) w;
      }

  -- ys is xs with the first and the last exchanged; k is the length less one; zs is what `sift_down` made of the first k of ys
  pub taken_same : (xs ys zs : List X) (k : ℕ) (x : X) → k + 1 ≡ length xs → x ≡ get_or xs 0 x → IsPermutation xs ys → Swap xs ys 0 (length xs - 1) → IsPermutation (take k ys) zs → IsPermutation xs (x ∷ take (length xs - 1) (zs ++ drop k ys))
  taken_same xs ys zs k x e first sh s sunk =
      let long : length ys ≡ length xs = length_permutation xs ys sh in
      let size : length zs ≡ length xs - 1 = omega (arith, length_permutation (take k ys) zs sunk, length-take-le k ys (omega arith)) in
      let at : get_or ys k x ≡ x = ap (λ j. get_or ys j x) (omega arith) ∙ s.1 x ∙ sym first in
      let is : ys ≡ take k ys ++ x ∷ [] = sym (take_all (k + 1) ys (omega arith)) ∙ take_more ys k x (omega arith) ∙ ap (λ y. take k ys ++ y ∷ []) at in
      subst (λ l. IsPermutation xs (x ∷ l)) (sym (take_at zs (drop k ys) (length xs - 1) size))
      (IsPermutation-trans xs ys _ sh (IsPermutation-trans ys (x ∷ take k ys) _ (subst (λ l. IsPermutation l (x ∷ take k ys)) (sym is) (IsPermutation-to_front (take k ys) x)) (IsPermutation-cons x (take k ys) zs sunk)))

  pub taken_least : OrderOn valid before → (xs ys zs : List X) (k : ℕ) (x : X) → k + 1 ≡ length xs → x ≡ get_or xs 0 x → IsPermutation xs ys → Swap xs ys 0 (length xs - 1) → IsPermutation (take k ys) zs → Sunk valid before (take k ys) zs → Stands valid before xs (length xs) → Least before x xs × Stands valid before (zs ++ drop k ys) (length xs - 1)
  taken_least o xs ys zs k x e first sh s sh' sunk h =
      let long : length ys ≡ length xs = length_permutation xs ys sh in
      let size : length (take k ys) ≡ k = length-take-le k ys (omega arith) in
      let size' : length zs ≡ k = length_permutation (take k ys) zs sh' ∙ size in
      let v = valid_swap valid before xs ys 0 (length xs - 1) (length xs) (omega arith) (omega arith) s h.sound in
      let w = sunk o
      (valid_like ys (take k ys) (length xs) (length (take k ys)) (omega arith) (λ j d f. get_or-take k ys j d (omega arith)) v)
      (heaped_like xs (take k ys) 1 (length xs) (length (take k ys)) (omega arith) (λ j d lo f. get_or-take k ys j d (omega arith) ∙ s.2 j d (omega arith) (omega arith)) (λ p j d lo. h.heaped p j d (omega arith))) in (
        least valid before o xs x (get_or_read xs 0 x (omega arith) first) h,
        stands_like zs (zs ++ drop k ys) (length (take k ys)) (length xs - 1) (omega arith) (λ j d f. get_or_append_left zs (drop k ys) d j (omega arith)) w,
      )

  -- k is m; ws is what `take_first` left of the first k
  pub popped : (xs ws : List X) (m k : ℕ) (x : X) → k ≡ m → 0 < m → m ≤ length xs → length ws ≡ length (take k xs) → IsPermutation (take k xs) (x ∷ take (length (take k xs) - 1) ws)
      → (OrderOn valid before → Stands valid before (take k xs) (length (take k xs)) → Least before x (take k xs) × Stands valid before ws (length (take k xs) - 1)) → Popped valid before xs m x (ws ++ drop k xs) (m - 1)
  popped xs ws m k x e some le long sh told =
      let size : length (take k xs) ≡ k = length-take-le k xs (omega arith) in
      let front : take (length (take k xs) - 1) ws ≡ take (m - 1) (ws ++ drop k xs) = ap (λ j. take j ws) (omega arith) ∙ sym (take-append-le (m - 1) ws (drop k xs) (omega arith)) in
      let all : take k xs ≡ take m xs = ap (λ j. take j xs) e in
      record {
        size = omega arith;
        items = subst (λ l. IsPermutation l (x ∷ take (m - 1) (ws ++ drop k xs))) all (subst (λ l. IsPermutation (take k xs) (x ∷ l)) front sh);
        long = simp (length-append, length-drop) (omega arith);
        rest = drop-append-drop k xs ws m (omega arith) (omega arith);
        stands = λ o h.
            let w = told o (stands_like xs (take k xs) m (length (take k xs)) (omega arith) (λ j d f. get_or-take k xs j d (omega arith)) h) in
            (subst (Least before x) all w.0, stands_like ws (ws ++ drop k xs) (length (take k xs) - 1) (m - 1) (omega arith) (λ j d f. get_or_append_left ws (drop k xs) d j (omega arith)) w.1);
      }
