use Rattle.std.proofs.Common.{◌≡◌, suc, ◌+◌, ◌-◌, ◌≤◌, Some, sym, refl, ap, ◌∙◌, subst, arith}
use Rattle.enumeration.specs.Changes.{Draws}
use Rattle.enumeration.specs.Writes.{OneMore, Advanceable, Advanced, pending_at}
use Rattle.resolver.specs.Tables.{tables_of, width}
use Rattle.resolver.proofs.Pending.{pending_is, advanced_some, entered_drawable}
use Rattle.resolver.proofs.tables.Core.advance.Goals as goal

pub returns-clause-effect : goal.returns-clause-effect
returns-clause-effect g c =
    let rules = g.C.Cost.rules in
    let k = c.args.self.now in
    let A = c.enter_successor.new.self in
    let t = tables_of rules k in
    let a = tables_of rules A in
    let m = tables_of rules c.draw.new.self in
    let r = c.args.r in
    let v = c.args.v.0 in
    let e = c.in-Some.e in
    let w = width k in
    λ few readable ready.
    let p = r - 1 in
    let above : r ≡ suc p = omega (arith, c.in-Some.ensures.above refl) in
    let pends = sym c.in-Some.is ∙ c.pending.ensures.value few readable in
    let is = pending_is t p v e (subst (λ z. Some e ≡ pending_at t z v) above pends) in
    let steady = subst (λ z. Advanceable w t z v) above ready is.0 in
    let entered = c.enter_successor.ensures.effect p above few pends readable steady in
    let drawable = entered_drawable rules k.limits w t a p v few steady entered in
    let wide : w ≡ width A = ap (λ z. 16 + z) (sym c.enter_successor.ensures.same.ration) in
    let drawn = c.draw.ensures.effect few (subst (λ z. (a.station z v).waiting ≤ 16) (sym above) drawable.waiting) (subst (λ z. OneMore z a r (a.station r v)) wide (subst (λ z. OneMore w a z (a.station z v)) (sym above) drawable.more)) in
    subst (λ z. Advanced rules k.limits w t m z v) (sym above)
    (advanced_some rules k.limits w t a m p v is.0 entered (subst (λ z. Draws rules w a m z v) above (subst (λ z. Draws rules z a m r v) (sym wide) drawn)))
