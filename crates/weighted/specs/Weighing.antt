-- The rules of a weighted sum of turns. Assumes nothing.
use Rattle.std.specs.Prelude.{ℕ, ◌+◌, ◌*◌, min}
use Rattle.ladder.specs.Rules.{Rules}
use Rattle.weighted.specs.declared.Weighted.{Weighted}
use Rattle.std.specs.Ordering.{nat_cmp}

-- the price is three times the shoulder's turn and once the elbow's, and joining adds, up to the greatest 32-bit number
abbrev pub weighing : Rules Weighted ℕ
weighing = record {
  zero = record { total = 0 };
  price = λ m. 3 * m.shoulder + m.elbow;
  join = λ v p. record { total = min (v.total + p) 4294967295 };
  compare = λ v w. nat_cmp v.total w.total;
  letter = 83;
}
