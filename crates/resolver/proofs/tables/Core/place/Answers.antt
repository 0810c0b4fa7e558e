use Rattle.std.proofs.Common.{◌≡◌, ◌<◌, length, subst, arith}
use Rattle.resolver.proofs.Placing.{Written, places_rung}
use Rattle.resolver.proofs.tables.Core.place.Goals as goal

pub returns-clause-effect : goal.returns-clause-effect
returns-clause-effect g c =
    let k = c.args.self.now in
    let a = c.loop-j.self in
    let r = c.args.r in
    let ps = c.args.poses.now in
    let inv = c.loop-j.invariant in
    let all : c.loop-j.j ≡ length ps = omega (arith, c.loop-j-test.false, c.loop-j.auto.j-end) in
    let inside : r < length a.extents = omega arith in
    places_rung g.C.Cost.rules k a r ps (subst (λ z. Written k.stations.now a.stations.now r ps z) all inv.1) inv.2 inv.0.ration inv.3 inv.4 inside
