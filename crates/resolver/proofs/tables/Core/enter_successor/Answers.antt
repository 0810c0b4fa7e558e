use Rattle.std.proofs.Common.{◌≡◌, suc, ◌+◌, ◌-◌, ◌<◌, true, cond, ltb, Some, sym, ap, ◌∙◌, subst, arith}
use Rattle.enumeration.specs.declared.records.Ranked.{Ranked}
use Rattle.enumeration.specs.Changes.{Unchanged, Enters}
use Rattle.enumeration.specs.Writes.{Readable, pending_at, successor_found}
use Rattle.resolver.specs.Tables.{tables_of, width, station_at, track_at}
use Rattle.resolver.proofs.Pending.{pending_is, successor_read, back_posed}
use Rattle.resolver.proofs.tables.Core.enter_successor.Goals as goal

pub returns-clause-effect : goal.returns-clause-effect
returns-clause-effect g c =
    let rules = g.C.Cost.rules in
    let k = c.args.self.now in
    let t = tables_of rules k in
    let m = tables_of rules c.enter.new.self in
    let v = c.args.v.0 in
    let e = c.args.e in
    let w = width k in
    λ p above few pends readable steady.
    let q : c.args.r - 1 ≡ p = omega (arith, above) in
    let pending = subst (λ z. Some e ≡ pending_at t z v) above pends in
    let is = (pending_is t p v e pending).1 in
    let posed = back_posed t w p v e (subst (λ z. Readable w t z v) above readable) pending in
    let found = successor_read t p v e c.followed.result is (c.followed.ensures posed ∙ ap (λ z. ltb (e.back.rank.0 + 1) (station_at k z e.back.pose.0).found) q) in
    let some : true ≡ successor_found t p v = sym c.if-not-followed.false ∙ found in
    let i = (t.track p (t.track (suc p) (t.station (suc p) v).last.0).front.0).after.0 in
    let lies = subst (λ (y : Ranked g.row.C.Denot). y.front.0 < w) (sym is) steady.front in
    let front : c.track-front.result ≡ t.track p (t.track (suc p) (t.station (suc p) v).last.0).front.0 = c.track-front.ensures lies ∙ ap (λ z. track_at k rules z e.front.0) q ∙ ap (λ (y : Ranked g.row.C.Denot). t.track p y.front.0) is in
    let at : i ≡ c.track-front.result.after.0 = ap (λ (y : Ranked g.row.C.Denot). y.after.0) (sym front) in
    subst (λ b. cond b (Enters rules w t m k.limits p v i) (Unchanged w t m)) some
    (subst (λ j. Enters rules w t m k.limits p v j) (sym at)
    (c.enter.ensures.effect p above few (subst (λ z. (t.station z v).waiting < 16) (sym above) steady.room) (subst (λ j. j < w) at (steady.after (sym some))) (subst (λ j. (t.track p j).pose.0 < 16) at (steady.posed (sym some)))))
