use Rattle.std.proofs.Common.{◌≡◌, take}
use Rattle.resolver.proofs.calls.copy_poses.Given as goal

abbrev pub invariant-loop-j : goal.invariant-loop-j
invariant-loop-j g l =
    let m = g.S.Source.meaning in
    (take l.j l.into ≡ take l.j (m l.initial.source l.waypoint)) × (m l.source ≡ m l.initial.source)
