use Rattle.std.proofs.Common.{◌<◌}
use Rattle.resolver.specs.Tables.{tables_of, width}
use Rattle.enumeration.specs.Writes.{Backed, PathDown}
use Rattle.resolver.proofs.tables.Core.descend.Given as goal

abbrev pub invariant-loop-p : goal.invariant-loop-p
invariant-loop-p g l =
    let t = tables_of g.C.Cost.rules l.self in
    l.fn.v.0 < t.size l.r → Backed (width l.self) t l.r → PathDown t l.r l.fn.v l.path l.p
