use Rattle.std.proofs.Common.{◌≡◌, ◌<◌, length, sym, subst, arith}
use Rattle.enumeration.specs.Filling.{Begun}
use Rattle.resolver.specs.Tables.{tables_of}
use Rattle.resolver.proofs.Adding.{settles_more, adds_rung}
use Rattle.resolver.proofs.tables.Core.append_rung.Goals as goal

pub loop-v-preserved : goal.loop-v-preserved
loop-v-preserved g c =
    let rules = g.C.Cost.rules in
    let k = c.place.new.self in
    let inv = c.loop-v.invariant in
    let v = c.loop-v.v in
    let inside = subst (λ z. v < z) (sym c.place.ensures.effect.size) c.loop-v-test.true in (
      search rules,
      λ h. settles_more rules g.met.C.Cost.lawful k c.loop-v.self c.settle.new.self inv.0 c.args.self.now.rungs v (omega (arith, inv.0.rung_limit, c.place.ensures.same.rung_limit, c.requires)) inside c.settle.ensures.effect (inv.1 h),
    )

pub returns-clause-effect : goal.returns-clause-effect
returns-clause-effect g c =
    let rules = g.C.Cost.rules in
    let k = c.args.self.now in
    let a = c.place.new.self in
    let ps = c.args.poses.now in
    let inv = c.loop-v.invariant in
    let all : c.loop-v.v ≡ length ps = omega (arith, c.loop-v-test.false, c.loop-v.auto.v-end) in
    adds_rung rules k a c.loop-v.self c.place.ensures.same ps c.requires.few c.place.ensures.effect (λ h.
    let r = inv.1 h in
    (subst (λ z. Begun rules a.limits (tables_of rules c.loop-v.self) k.rungs z) all r.0, r.1))
