use Rattle.std.proofs.Common.{subst, arith}
use Rattle.enumeration.specs.declared.records.Candidate.{Candidate}
use Rattle.resolver.specs.Effects.{AppendsTrack}
use Rattle.resolver.proofs.Adding.{settles_above, settles_first, start_read}
use Rattle.resolver.proofs.tables.Core.settle.Goals as goal

pub returns-then-r-gt0-clause-effect : goal.returns-then-r-gt0-clause-effect
returns-then-r-gt0-clause-effect g c =
    let rules = g.C.Cost.rules in
    let all = c.enter_all.ensures in
    settles_above rules g.met.C.Cost.lawful c.args.self.now c.enter_all.new.self c.draw.new.self all.same c.args.r c.args.v.0 (omega (arith, all.same.rung_limit, c.requires)) c.if-r-gt0.true all.effect c.draw.ensures.effect

pub returns-clause-effect : goal.returns-clause-effect
returns-clause-effect g c =
    let rules = g.C.Cost.rules in
    let k = c.args.self.now in
    let m = c.append.new.self in
    let v = c.args.v.0 in
    let begins = start_read rules v c.zero.result c.zero-2.result c.zero.ensures c.zero-2.ensures in
    settles_first rules g.met.C.Cost.lawful k m c.args.r v (omega (arith, c.if-r-gt0.false)) c.station-s.result c.station-s.ensures (subst (λ (x : Candidate g.row.C.Denot). AppendsTrack rules k m 0 v c.station-s.result x) begins c.append.ensures.effect)
