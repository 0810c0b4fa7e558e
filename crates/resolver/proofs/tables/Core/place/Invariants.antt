use Rattle.std.proofs.Common.{◌≡◌}
use Rattle.resolver.specs.Kept.{Same}
use Rattle.resolver.proofs.Placing.{Written}
use Rattle.resolver.proofs.tables.Core.place.Given as goal

abbrev pub invariant-loop-j : goal.invariant-loop-j
invariant-loop-j g l =
    Same l.initial.self l.self
    × Written l.initial.self.stations.now l.self.stations.now l.r l.poses l.j
    × (l.self.ranked.now ≡ l.initial.self.ranked.now)
    × (l.self.candidates.now ≡ l.initial.self.candidates.now)
    × (l.self.extents ≡ l.initial.self.extents)
