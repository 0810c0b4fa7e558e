use Rattle.std.proofs.Common.{◌≡◌, ℕ, suc, ◌-◌, ◌<◌, sym, ap, ◌∙◌, subst, arith}
use Rattle.enumeration.specs.declared.records.Ranked.{Ranked}
use Rattle.ladder.specs.declared.poses.Limits.{Limits}
use Rattle.ladder.specs.Rules.{Rules}
use Rattle.enumeration.specs.declared.records.Station.{Station}
use Rattle.enumeration.specs.Tables.{Tables}
use Rattle.enumeration.specs.Waiting.{extended}
use Rattle.enumeration.specs.Writes.{candidate_at}
use Rattle.resolver.specs.Tables.{tables_of, station_at, track_at}
use Rattle.resolver.proofs.tables.Core.candidate.Goals as goal

-- a candidate made from what is read
pub candidate_read : {C P : Type 0} (c : Rules C P) (t : Tables C) (l : Limits) (p v i : ℕ) (e : Ranked C) (from to : Station) → e ≡ t.track p i → from ≡ t.station p e.pose.0 → to ≡ t.station (suc p) v → extended c l from.pose to.pose e (record { 0 = i }) ≡ candidate_at c t l p v i
candidate_read {C} c t l p v i e from to track station target =
    ap (λ (s : Station). extended c l s.pose to.pose e (record { 0 = i })) (station ∙ ap (λ (y : Ranked C). t.station p y.pose.0) track)
    ∙ ap (λ (s : Station). extended c l (t.station p (t.track p i).pose.0).pose s.pose e (record { 0 = i })) target
    ∙ ap (λ (y : Ranked C). extended c l (t.station p (t.track p i).pose.0).pose (t.station (suc p) v).pose y (record { 0 = i })) track

pub returns : goal.returns
returns g c p above few lt posed =
    let rules = g.C.Cost.rules in
    let k = c.args.self.now in
    let v = c.args.v.0 in
    let i = c.args.at.0 in
    let t = tables_of rules k in
    let q : c.args.r - 1 ≡ p = omega (arith, above) in
    let track : c.track-front.result ≡ t.track p i = c.track-front.ensures lt ∙ ap (λ z. track_at k rules z i) q in
    let read : c.track-front.result.pose.0 < 16 = subst (λ (e : Ranked g.row.C.Denot). e.pose.0 < 16) (sym track) posed in
    c.extension.ensures
    ∙ candidate_read rules t k.limits p v i c.track-front.result c.station.result c.station-2.result track
    (c.station.ensures read ∙ ap (λ z. station_at k z c.track-front.result.pose.0) q)
    (c.station-2.ensures few ∙ ap (λ z. station_at k z v) above)
