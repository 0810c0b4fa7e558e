use Rattle.std.proofs.Common.{◌≡◌, suc, subst, arith, rules}
use Rattle.resolver.proofs.Finding.{Climbs, climb_goes_on, climb_ends}
use Rattle.resolver.proofs.tables.Core.find_next.Goals as goal

pub loop-i-preserved : goal.loop-i-preserved
loop-i-preserved g c =
    let k = c.args.self.now in
    let path = c.descend-low.new.path in
    let low = c.descend-low.result in
    let i = c.loop-i.i in (
      search rules,
      climb_goes_on g.C.Cost.rules g.met.C.Cost.lawful k c.loop-i.self c.advance.new.self c.args.r path low i c.loop-i.invariant.0 c.loop-i.auto.i (omega (arith, c.loop-i-test.true)) c.loop-i.invariant.1 c.advance.ensures.effect,
    )

pub returns-clause-effect : goal.returns-clause-effect
returns-clause-effect g c =
    let rules = g.C.Cost.rules in
    let laws = g.met.C.Cost.lawful in
    let k = c.args.self.now in
    let r = c.args.r in
    let path = c.descend-low.new.path in
    let low = c.descend-low.result in
    let past : c.loop-i.i ≡ suc r = omega (arith, c.loop-i-test.false, c.descend-low.ensures.low, c.loop-i.auto.i-end (omega (arith, c.descend-low.ensures.low))) in
    climb_ends rules laws k c.loop-i.self r c.args.v path low c.descend-low.ensures.low c.descend-low.ensures.path (subst (λ i. Climbs rules laws k c.loop-i.self r path low i) past c.loop-i.invariant.1)
