use Rattle.std.proofs.Common.{ℕ, suc, ◌<◌, Some, MatchBool, Option, ap, subst, arith}
use Rattle.ladder.specs.declared.poses.PoseNumber.{PoseNumber}
use Rattle.enumeration.specs.declared.records.Station.{Station}
use Rattle.enumeration.specs.Taking.{BestBelow}
use Rattle.resolver.specs.Tables.{tables_of, station_at}
use Rattle.resolver.specs.Sound.{taken_at, plainly}
use Rattle.resolver.proofs.Best.{low_number, passes, begins, compared}
use Rattle.resolver.proofs.tables.Core.better.Goals as goal

pub returns-then-taken_at-s : goal.returns-then-taken_at-s
returns-then-taken_at-s g c = λ n h nv best.
    let k = c.args.self.now in
    let v = c.args.v.0 in
    let r = c.args.r in
    let rules = g.C.Cost.rules in
    let v16 = low_number rules g.met.C.Cost.lawful k r n h v nv in
    let found = ap (λ (s : Station). s.found) (c.station-s.ensures v16) in
    passes rules g.met.C.Cost.lawful k r n h v (plainly c.args.best) (omega (arith, c.if-taken_at-s.true, c.taken_at.ensures v16, found)) best

pub returns-in_default : goal.returns-in_default
returns-in_default g c = λ n h nv best.
    let k = c.args.self.now in
    let v = c.args.v.0 in
    let r = c.args.r in
    let rules = g.C.Cost.rules in
    let v16 = low_number rules g.met.C.Cost.lawful k r n h v nv in
    let found = ap (λ (s : Station). s.found) (c.station-s.ensures v16) in
    let lt : taken_at k v < (station_at k r v).found = omega (arith, c.if-taken_at-s.false, c.taken_at.ensures v16, found) in
    begins rules g.met.C.Cost.lawful k r n h v nv lt (subst (λ (o : Option PoseNumber). BestBelow rules k.limits (tables_of rules k) r (taken_at k) v (plainly o)) c.in_default.is best)

pub returns-then-is_lt : goal.returns-then-is_lt
returns-then-is_lt g c = λ n h nv best.
    let k = c.args.self.now in
    let v = c.args.v.0 in
    let r = c.args.r in
    let rules = g.C.Cost.rules in
    let Best : ℕ → Option ℕ → Type 0 = λ i o. BestBelow rules k.limits (tables_of rules k) r (taken_at k) i o in
    subst (λ t. MatchBool t (Best (suc v) (Some v)) (Best (suc v) (Some c.in-Some.w.0))) c.if-is_lt.true
    (compared rules g.met.C.Cost.lawful k r n h v c.in-Some.w.0 c.station-s.result c.taken_at.result c.last_cost-cost.result c.last_cost-least.result c.compare.result c.is_lt.result nv (subst (λ (o : Option PoseNumber). Best v (plainly o)) c.in-Some.is best) c.taken_at.ensures c.station-s.ensures c.if-taken_at-s.false c.last_cost-cost.ensures c.last_cost-least.ensures c.compare.ensures c.is_lt.ensures)

pub returns : goal.returns
returns g c = λ n h nv best.
    let k = c.args.self.now in
    let v = c.args.v.0 in
    let r = c.args.r in
    let rules = g.C.Cost.rules in
    let Best : ℕ → Option ℕ → Type 0 = λ i o. BestBelow rules k.limits (tables_of rules k) r (taken_at k) i o in
    subst (λ t. MatchBool t (Best (suc v) (Some v)) (Best (suc v) (Some c.in-Some.w.0))) c.if-is_lt.false
    (compared rules g.met.C.Cost.lawful k r n h v c.in-Some.w.0 c.station-s.result c.taken_at.result c.last_cost-cost.result c.last_cost-least.result c.compare.result c.is_lt.result nv (subst (λ (o : Option PoseNumber). Best v (plainly o)) c.in-Some.is best) c.taken_at.ensures c.station-s.ensures c.if-taken_at-s.false c.last_cost-cost.ensures c.last_cost-least.ensures c.compare.ensures c.is_lt.ensures)
