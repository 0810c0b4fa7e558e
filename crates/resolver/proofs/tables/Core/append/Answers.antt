use Rattle.std.proofs.Common.{◌≡◌, ℕ, ◌+◌, ◌<◌, ltb, ap, ◌∙◌, subst, arith}
use Rattle.enumeration.specs.declared.records.Station.{Station}
use Rattle.resolver.specs.Tables.{tables_of, width}
use Rattle.enumeration.specs.Writes.{StationPut, Links}
use Rattle.resolver.proofs.Appending.{appends}
use Rattle.resolver.proofs.tables.Core.append.Goals as goal

pub returns-clause-effect : goal.returns-clause-effect
returns-clause-effect g c =
    let rules = g.C.Cost.rules in
    let k = c.args.self.now in
    let a = c.rank-at.new.self in
    let b = c.link.new.self in
    let m = c.put_station.new.self in
    let r = c.args.r in
    let v = c.args.v.0 in
    let s = c.args.s in
    let i = c.rank-at.result.0 in
    let n : Station = record { pose = s.pose; waiting = s.waiting; found = c.saturating_add.result; last = c.rank-at.result; pending = ltb 0 r } in
    let is = c.rank-at.ensures.effect.0 in
    let wa : width a ≡ width k = ap (λ z. 16 + z) c.rank-at.ensures.same.ration in
    let wb : width b ≡ width k = ap (λ z. 16 + z) c.link.ensures.same.ration ∙ wa in
    λ few fits.
    let lt : i < width k = omega (arith, is, fits.free) in
    appends (width k) (tables_of rules k) (tables_of rules a) (tables_of rules b) (tables_of rules m) r v i s n c.args.x lt few is fits.last (c.rank-at.ensures.effect.1 lt)
    (subst (λ z. Links z (tables_of rules a) (tables_of rules b) r s i) wa (c.link.ensures.effect (λ some. omega (arith, fits.last some, fits.free, c.rank-at.ensures.same.ration))))
    (subst (λ z. StationPut z (tables_of rules b) (tables_of rules m) r v n) wb (c.put_station.ensures.effect few))
    (ap (λ (z : ℕ). record { pose = s.pose; waiting = s.waiting; found = z; last = record { 0 = i }; pending = ltb 0 r }) (omega (arith, c.saturating_add.ensures, fits.found)))
