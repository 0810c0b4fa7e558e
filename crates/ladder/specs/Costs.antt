-- The rules of travel, of the worst step and of pairs. Assumes nothing.
use Rattle.std.specs.Prelude.{◌≡◌, ℕ, ◌+◌, ◌*◌, ◌≤◌, min, max}
use Rattle.std.specs.Ordering.{ordering_then, nat_cmp}
use Rattle.ladder.specs.declared.poses.Turns.{Turns}
use Rattle.ladder.specs.declared.costs.Travel.{Travel}
use Rattle.ladder.specs.declared.costs.Worst.{Worst}
use Rattle.ladder.specs.declared.costs.Pair.{Pair}
use Rattle.ladder.specs.Rules.{Rules, Lawful, Keeps, Reached, Short}

-- travel, letter T: the price is the sum of the turns, and joining adds, up to the greatest 32-bit number
abbrev pub travel : Rules Travel ℕ
travel = record {
  zero = record { total = 0 };
  price = λ m. m.shoulder + m.elbow;
  join = λ v p. record { total = min (v.total + p) 4294967295 };
  compare = λ v w. nat_cmp v.total w.total;
  letter = 84;
}

-- worst step, letter W: the price is the larger turn, and joining takes the larger
abbrev pub worst : Rules Worst ℕ
worst = record {
  zero = record { turn = 0 };
  price = λ m. max m.shoulder m.elbow;
  join = λ v p. record { turn = max v.turn p };
  compare = λ v w. nat_cmp v.turn w.turn;
  letter = 87;
}

-- pair, letter P: part by part; the second is compared only where the firsts are the same
abbrev pub pair : {V P W Q : Type 0} → Rules V P → Rules W Q → Rules (Pair V W) (P × Q)
pair c d = record {
  zero = record { first = c.zero; second = d.zero };
  price = λ m. (c.price m, d.price m);
  join = λ v p. record { first = c.join v.first p.0; second = d.join v.second p.1 };
  compare = λ v w. ordering_then (c.compare v.first w.first) (d.compare v.second w.second);
  letter = 80;
}

-- reached travel stays far below the greatest 32-bit number, and one price more is the plain sum
pub record NeverSaturates : Type 0 where
  pub small : (v : Travel) → Reached travel 127 v → v.total ≤ 127 * 131070
  pub plain : (v : Travel) (m : Turns) → Reached travel 126 v → Short m → (travel.join v (travel.price m)).total ≡ v.total + (m.shoulder + m.elbow)

-- the worst step does not keep, and a pair with the worst step first is not lawful
pub record KeepingIsNeeded : Type 0 where
  pub worst_keeps_not : Keeps worst → ⊥
  pub worst_first_unlawful : Lawful (pair worst travel) → ⊥
