-- The step limits of a resolver are such as can be kept. Assumes nothing.
use Rattle.ladder.specs.Tracks.{Bounded}
use Rattle.resolver.specs.declared.tables.Core.{Core}

pub bounded : {C : Type 0} (k : Core C) → Bounded k.limits
bounded k = (k.shoulder, k.elbow)
