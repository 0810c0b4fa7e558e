use Rattle.std.proofs.Common.{◌≡◌, suc, Option, sym, subst, arith}
use Rattle.enumeration.specs.declared.records.Station.{Station}
use Rattle.resolver.specs.declared.answers.Taken.{Taken}
use Rattle.resolver.specs.Sound.{WritesSteps, Takes}
use Rattle.resolver.proofs.TakesNext.{takes_nothing, takes_none, takes_one}
use Rattle.resolver.proofs.tables.Core.take_next.Goals as goal

pub returns-in_err-r-clause-effect : goal.returns-in_err-r-clause-effect
returns-in_err-r-clause-effect g c =
    let k = c.args.self.now in
    let out = c.args.out.now in
    subst (λ (o : Option (Taken g.row.C.Denot)). Takes g.C.Cost.rules k k out out o) (sym c.from_residual.ensures) (takes_nothing g.C.Cost.rules k out (omega (arith, c.in_err-r.ensures)))

pub returns-in_err-v-clause-effect : goal.returns-in_err-v-clause-effect
returns-in_err-v-clause-effect g c =
    let k = c.args.self.now in
    let m = c.renew.new.self in
    let out = c.args.out.now in
    let r = c.in_ok-r.r in
    let e : k.rungs ≡ suc r = omega (arith, c.in_ok-r.ensures) in
    subst (λ (o : Option (Taken g.row.C.Denot)). Takes g.C.Cost.rules k m out out o) (sym c.from_residual-in_err-v.ensures) (takes_none g.C.Cost.rules g.met.C.Cost.lawful k m c.renew.ensures.same c.requires.left r e c.renew.ensures.effect out c.in_err-v.ensures)

pub returns-clause-effect : goal.returns-clause-effect
returns-clause-effect g c =
    let k = c.args.self.now in
    let m = c.renew.new.self in
    let r = c.in_ok-r.r in
    let rules = g.C.Cost.rules in
    let e : k.rungs ≡ suc r = omega (arith, c.in_ok-r.ensures) in
    let n = c.count_taken-number.ensures in
    takes_one rules g.met.C.Cost.lawful k m c.renew.ensures.same c.requires.left r e c.renew.ensures.effect c.in_ok-v.v c.count_taken-number.new.self c.args.out.now c.write.new.out _ c.in_ok-v.ensures
    (λ low. subst (λ (z : Station). WritesSteps rules m r z.last.0 c.args.out.now c.write.new.out) (c.station.ensures low) c.write.ensures)
    c.last_cost-cost.ensures
    n.number
    n.effect
    n.kept
