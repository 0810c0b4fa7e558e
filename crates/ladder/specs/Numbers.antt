-- The comparison of numbers, and of what numbers stand for. Assumes nothing.
use Rattle.std.specs.Prelude.{◌≡◌, ℕ, ◌<◌, ◌≤◌, true}
use Rattle.std.specs.declared.cmp.Ordering.TheVariants.{Less, Equal}
use Rattle.std.proofs.Common.{arith}
use Rattle.std.specs.Ordering.{is_le, nat_cmp}
use Rattle.std.specs.Cmp.{nat_cmp_total}
use Rattle.std.proofs.lemmas.Bool.Decides.{nat_tests}
use Rattle.ladder.specs.Rules.{Orders}
use Rattle.ladder.specs.Ranked.{Ranks, self, ranks_of, order_from_ranks}

pub rank_ranks : Ranks (λ (n : ℕ). Unit {0}) nat_cmp
rank_ranks = record {
  flip = λ x y _ _. nat_cmp_total.antisymm x y;
  chain = λ x y z _ _ _. nat_cmp_total.trans x y z;
  alike = λ x y z _ _ _. nat_cmp_total.congr x y z;
}

pub rank_same : (x y : ℕ) → nat_cmp x y ≡ Equal → x ≡ y
rank_same x y h = grind (arith, nat_tests)

pub rank_self : (n : ℕ) → nat_cmp n n ≡ Equal
rank_self n = self rank_ranks n tt

pub rank_le : (a b : ℕ) → is_le (nat_cmp a b) ≡ true → a ≤ b
rank_le a b h = grind (arith, nat_tests)

pub le_rank : (a b : ℕ) → a ≤ b → is_le (nat_cmp a b) ≡ true
le_rank a b h = grind (arith, nat_tests)

pub rank_lt : (a b : ℕ) → nat_cmp a b ≡ Less → a < b
rank_lt a b h = grind (arith, nat_tests)

pub lt_rank : (a b : ℕ) → a < b → nat_cmp a b ≡ Less
lt_rank a b h = grind (arith, nat_tests)

-- values that a number tells apart are ordered by that number
pub orders_by : {X : Type 0} (A : X → Type 0) (f : X → ℕ) → ((x y : X) → f x ≡ f y → x ≡ y) → Orders A (λ x y. nat_cmp (f x) (f y))
orders_by A f one =
    order_from_ranks (ranks_of A (λ (n : ℕ). Unit {0}) f nat_cmp (λ x a. tt) rank_ranks) (λ x y _ _ e. one x y (rank_same (f x) (f y) e))
