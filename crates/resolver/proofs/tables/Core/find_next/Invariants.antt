use Rattle.resolver.specs.Kept.{Same}
use Rattle.resolver.proofs.Finding.{Climbs}
use Rattle.resolver.proofs.tables.Core.find_next.Given as goal

abbrev pub invariant-loop-i : goal.invariant-loop-i
invariant-loop-i g l =
    Same l.initial.self l.self × Climbs g.C.Cost.rules g.met.C.Cost.lawful l.initial.self l.self l.r l.path l.low l.i
