-- What looking for the next rank at a pose gives. Assumes nothing.
use Rattle.std.specs.Prelude.{ℕ, ◌+◌, ◌<◌, ◌≤◌}
use Rattle.ladder.specs.declared.poses.Limits.{Limits}
use Rattle.ladder.specs.Rules.{Rules}
use Rattle.enumeration.specs.Tables.{Tables}
use Rattle.enumeration.specs.Sound.{RungsSound}
use Rattle.enumeration.specs.Filling.{SameLadder}
use Rattle.enumeration.specs.Taking.{LookedFor}
use Rattle.resolver.specs.declared.tables.Core.{Core}
use Rattle.resolver.specs.Tables.{tables_of, width}

-- from the tables t of n sound rungs to the tables m: the next rank at pose v of rung r is found or there is none, each rung has one place more in use at most, and each pose one rank more
pub record FoundNext {C P : Type 0} (c : Rules C P) (l : Limits) (n : ℕ) (t m : Tables C) (r v : ℕ) : Type 0 where
  pub sound : RungsSound c l m n
  pub same : SameLadder t m n
  pub looked : LookedFor c l t m r v
  pub blocks : (q : ℕ) → q < n → m.used q ≤ t.used q + 1
  pub ranks : (q u : ℕ) → q < n → u < t.size q → (m.station q u).found ≤ (t.station q u).found + 1

-- every rung has a place free, and no pose has too many ranks to count
pub record RoomyTables {C : Type 0} (w n : ℕ) (t : Tables C) : Type 0 where
  pub blocks : (q : ℕ) → q < n → t.used q < w
  pub ranks : (q u : ℕ) → q < n → u < t.size q → (t.station q u).found + 1 < 65535

-- the next rank at pose v of rung r is looked for, from the resolver k to the resolver m
abbrev pub FindsNext : {C P : Type 0} → Rules C P → Core C → Core C → ℕ → ℕ → Type 0
FindsNext c k m r v =
    (n : ℕ) → n ≤ 128 → r < n → v < (tables_of c k).size r → RungsSound c k.limits (tables_of c k) n → RoomyTables (width k) n (tables_of c k) → FoundNext c k.limits n (tables_of c k) (tables_of c m) r v
