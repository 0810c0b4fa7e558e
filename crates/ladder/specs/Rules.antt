-- The rules of a cost, and the laws that they owe. Assumes nothing.
use Rattle.std.specs.Prelude.{◌≡◌, ℕ, ◌≤◌, true, ◌||◌, ◌↔◌, List, [], ◌∷◌, length}
use Rattle.std.specs.declared.cmp.Ordering.TheVariants.{Less, Equal, Greater}
use Rattle.std.specs.declared.cmp.Ordering.{Ordering}
use Rattle.std.specs.Ordering.{is_le}
use Rattle.std.specs.List.{AllByRecursion}
use Rattle.ladder.specs.declared.poses.Turns.{Turns}

-- what a cost means, over its values V and its prices P: a zero, the price of a move from its two turns, the joining of a cost with a price, the comparison, and the byte of its letter
pub record Rules (V P : Type 0) : Type 0 where
  pub zero : V
  pub price : Turns → P
  pub join : V → P → V
  pub compare : V → V → Ordering
  pub letter : ℕ

-- zero joined with the prices of the moves; the move that stands first is joined last
abbrev pub joined : {V P : Type 0} → Rules V P → List Turns → V
joined c [] = c.zero
joined c (m ∷ ms) = c.join (joined c ms) (c.price m)

-- turns that a move can have: each is at most 65,535
abbrev pub Short : Turns → Type 0
Short m = (m.shoulder ≤ 65535) × (m.elbow ≤ 65535)

-- v is a cost that is joined from zero by at most n prices
pub record Reached {V P : Type 0} (c : Rules V P) (n : ℕ) (v : V) : Type 0 where
  pub by : List Turns
  pub few : length by ≤ n
  pub short : AllByRecursion Short by
  pub is : v ≡ joined c by

-- a comparison is a total order on the values of which A holds: it is total and transitive, says "equal" exactly of equal values, and "less" exactly where it says "greater" of the two swapped
pub record Orders {X : Type 0} (A : X → Type 0) (cmp : X → X → Ordering) : Type 0 where
  pub total : (a b : X) → A a → A b → (is_le (cmp a b) || is_le (cmp b a)) ≡ true
  pub transitive : (a b d : X) → A a → A b → A d → is_le (cmp a b) ≡ true → is_le (cmp b d) ≡ true → is_le (cmp a d) ≡ true
  pub same : (a b : X) → A a → A b → (cmp a b ≡ Equal) ↔ (a ≡ b)
  pub below : (a b : X) → A a → A b → (cmp a b ≡ Less) ↔ (cmp b a ≡ Greater)

-- what every cost owes: its comparison orders the reached costs, and joining both of two with one price leaves the one at most the other
pub record Lawful {V P : Type 0} (c : Rules V P) : Type 0 where
  pub order : Orders (Reached c 127) c.compare
  pub monotone : (a b : V) (m : Turns) → Reached c 126 a → Reached c 126 b → Short m → is_le (c.compare a b) ≡ true → is_le (c.compare (c.join a (c.price m)) (c.join b (c.price m))) ≡ true

-- what a keeping cost owes besides: joining both of two with one price leaves the lower one lower
abbrev pub Keeps : {V P : Type 0} → Rules V P → Type 0
Keeps {V} c =
    (a b : V) (m : Turns) → Reached c 126 a → Reached c 126 b → Short m → c.compare a b ≡ Less → c.compare (c.join a (c.price m)) (c.join b (c.price m)) ≡ Less
