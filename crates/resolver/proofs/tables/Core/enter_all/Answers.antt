use Rattle.std.proofs.Common.{◌≡◌, ◌-◌, ◌<◌, ap, ◌∙◌, subst, arith}
use Rattle.enumeration.specs.Filling.{Entering}
use Rattle.resolver.specs.Tables.{tables_of}
use Rattle.resolver.proofs.Adding.{enters_more}
use Rattle.resolver.proofs.tables.Core.enter_all.Goals as goal

pub loop-u-preserved : goal.loop-u-preserved
loop-u-preserved g c =
    let rules = g.C.Cost.rules in
    let k = c.args.self.now in
    let inv = c.loop-u.invariant in (
      search rules,
      λ p is h.
          let below : c.args.r - 1 ≡ p = omega (arith, is) in
          let inside = subst (λ z. c.loop-u.u < (tables_of rules k).size z) below c.loop-u-test.true in
          enters_more rules g.met.C.Cost.lawful k c.loop-u.self c.enter_from.new.self inv.0 c.args.r c.args.v.0 (omega (arith, inv.0.rung_limit, c.requires)) p c.loop-u.u is inside c.enter_from.ensures.effect (inv.1 p is h),
    )

pub returns-clause-effect : goal.returns-clause-effect
returns-clause-effect g c =
    let rules = g.C.Cost.rules in
    let k = c.args.self.now in
    let m = c.loop-u.self in
    let inv = c.loop-u.invariant in
    λ p is h.
    let below : c.args.r - 1 ≡ p = omega (arith, is) in
    let end : c.loop-u.u ≡ (tables_of rules k).size (c.args.r - 1) = omega (arith, c.loop-u-test.false, c.loop-u.auto.u-end) in
    let all = inv.1 p is h in
    (subst (λ z. Entering rules k.limits (tables_of rules m) p c.args.v.0 z) (end ∙ ap (tables_of rules k).size below) all.0, all.1)
