-- A push and a pop, read at other names for the same. Assumes nothing.
use Rattle.std.proofs.Common.{◌≡◌, ℕ, Bool, List, subst}
use Rattle.heap.specs.Order.{Pushed, Popped}

module _ {X : Type 0} (valid : X → Type 0) (before : X → X → Bool) (x : X) {xs xs' ys ys' : List X} {m m' n n' : ℕ} (from : xs ≡ xs') (held : m ≡ m') (to : ys ≡ ys') (holds : n ≡ n') where
  pub pushed_at : Pushed valid before xs m x ys n → Pushed valid before xs' m' x ys' n'
  pushed_at p =
      subst (λ k. Pushed valid before xs' m' x ys' k) holds
      (subst (λ l. Pushed valid before xs' m' x l n) to
      (subst (λ k. Pushed valid before xs' k x ys n) held
      (subst (λ l. Pushed valid before l m x ys n) from p)))

  pub popped_at : Popped valid before xs m x ys n → Popped valid before xs' m' x ys' n'
  popped_at p =
      subst (λ k. Popped valid before xs' m' x ys' k) holds
      (subst (λ l. Popped valid before xs' m' x l n) to
      (subst (λ k. Popped valid before xs' k x ys n) held
      (subst (λ l. Popped valid before l m x ys n) from p)))
