use Rattle.std.proofs.Common.{◌≡◌, suc, ◌+◌, ◌-◌, ◌<◌, ◌≤◌, sym, ap, ◌∙◌, subst, arith}
use Rattle.ladder.specs.declared.poses.Step.{Step}
use Rattle.enumeration.specs.declared.records.Ranked.{Ranked}
use Rattle.enumeration.specs.declared.records.Station.{Station}
use Rattle.enumeration.proofs.Reading.{read_onto, read_none, read_is, step_in}
use Rattle.resolver.specs.Tables.{tables_of, station_at, track_at}
use Rattle.resolver.proofs.Bounded.{bounded}
use Rattle.resolver.proofs.Writing.{step_back, next_in_use}
use Rattle.resolver.proofs.tables.Core.write.Goals as goal

pub loop-i-preserved : goal.loop-i-preserved
loop-i-preserved g c = λ n h s room u.
    let k = c.args.self.now in
    let rules = g.C.Cost.rules in
    let laws = g.met.C.Cost.lawful in
    let t = tables_of rules k in
    let i = c.loop-i.i in
    let p = c.loop-i.place.0 in
    let old = c.loop-i.invariant n h s room u in
    let some : 0 < i = c.loop-i-test.true in
    let high : i ≤ c.args.r + 1 = c.loop-i.auto.i in
    let in_use : p < t.used (i - 1) = old.0 (i - 1) (let z : suc (i - 1) ≡ i = omega arith in z) in
    let below : i - 1 < n = omega (arith, some, high, h) in
    let e : c.track-e.result ≡ track_at k rules (i - 1) p = c.track-e.ensures (omega (arith, in_use, room (i - 1) below)) in
    let posed = ((s (i - 1) below).places p in_use).numbered in
    let number : c.track-e.result.pose.0 < 16 = subst (λ (x : Ranked g.row.C.Denot). x.pose.0 < 16) (sym e) (omega (arith, posed, (s (i - 1) below).few)) in
    let at = c.station.ensures number in
    let step : ◌≡◌ {A = Step} (record { number = c.track-e.result.pose; pose = c.station.result.pose }) (step_in t (i - 1) p) =
    ap (λ (z : Station). record { number = c.track-e.result.pose; pose = z.pose }) at ∙ ap (λ (x : Ranked g.row.C.Denot). record { number = x.pose; pose = (station_at k (i - 1) x.pose.0).pose }) e in
    let front = ap (λ (x : Ranked g.row.C.Denot). x.front.0) e in (
      next_in_use rules laws k.limits (bounded k) t n s i p c.track-e.result.front.0 (omega (arith, high, h)) in_use front,
      step_back t i p c.track-e.result.front.0 c.loop-i.out _ some step front ∙ old.1,
    )

pub returns : goal.returns
returns g c = λ n h s room u.
    let k = c.args.self.now in
    let rules = g.C.Cost.rules in
    let t = tables_of rules k in
    let old = c.loop-i.invariant n h s room u in
    let z : c.loop-i.i ≡ 0 = omega (arith, c.loop-i-test.false) in
    sym (read_none t c.loop-i.place.0 c.loop-i.out) ∙ ap (λ x. read_onto t x c.loop-i.place.0 c.loop-i.out) (sym z) ∙ old.1
    ∙ read_is rules g.met.C.Cost.lawful k.limits (bounded k) t n s c.args.r c.args.at.0 c.args.out.now h u (omega (arith, c.requires.out))
