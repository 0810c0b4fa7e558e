use Rattle.std.proofs.Common.{◌≡◌, ℕ, suc}
use Rattle.enumeration.specs.Filling.{Entering, SameLadder}
use Rattle.resolver.specs.Kept.{Same}
use Rattle.resolver.specs.Tables.{tables_of}
use Rattle.resolver.proofs.tables.Core.enter_all.Given as goal

abbrev pub invariant-loop-u : goal.invariant-loop-u
invariant-loop-u g l =
    let c = g.C.Cost.rules in
    let k = l.initial.self in
    Same k l.self
    × ((p : ℕ) → l.r ≡ suc p → Entering c k.limits (tables_of c k) p l.v.0 0 → Entering c k.limits (tables_of c l.self) p l.v.0 l.u × SameLadder (tables_of c k) (tables_of c l.self) (suc l.r))
