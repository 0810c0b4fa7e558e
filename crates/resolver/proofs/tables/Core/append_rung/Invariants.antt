use Rattle.std.proofs.Common.{suc}
use Rattle.enumeration.specs.Filling.{Begun, SameLadder}
use Rattle.resolver.specs.Kept.{Same}
use Rattle.resolver.specs.Tables.{tables_of}
use Rattle.resolver.proofs.tables.Core.append_rung.Given as goal

abbrev pub invariant-loop-v : goal.invariant-loop-v
invariant-loop-v g l =
    let c = g.C.Cost.rules in
    let k = l.initial.self in
    Same k l.self
    × (Begun c k.limits (tables_of c k) l.r 0 → Begun c k.limits (tables_of c l.self) l.r l.v × SameLadder (tables_of c k) (tables_of c l.self) (suc l.r))
