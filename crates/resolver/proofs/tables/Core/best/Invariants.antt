use Rattle.std.proofs.Common.{ℕ}
use Rattle.enumeration.specs.Taking.{BestBelow}
use Rattle.resolver.specs.Tables.{tables_of}
use Rattle.resolver.specs.Sound.{AtRest, taken_at, plainly}
use Rattle.resolver.proofs.tables.Core.best.Given as goal

abbrev pub invariant-loop-v : goal.invariant-loop-v
invariant-loop-v g l =
    (n : ℕ) → AtRest g.C.Cost.rules l.self l.r n → BestBelow g.C.Cost.rules l.self.limits (tables_of g.C.Cost.rules l.self) l.r (taken_at l.self) l.v (plainly l.best)
