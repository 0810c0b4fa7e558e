use Rattle.std.proofs.Common.{◌∙◌, arith}
use Rattle.std.proofs.lemmas.Result.{err_from_is_err_and}
use Rattle.resolver.proofs.Unready.{seek_unready}
use Rattle.resolver.proofs.Seeking.{judged_so, sought_passed, sought_turned}
use Rattle.resolver.proofs.held.Resolver.seek.Goals as goal

pub returns-in_err-ready-clause-outcome : goal.returns-in_err-ready-clause-outcome
returns-in_err-ready-clause-outcome g c =
    let p = err_from_is_err_and c.from_residual.result c.from_residual.ensures.1 in
    rw (p.1, p.2) (seek_unready g.C.Cost.rules c.args.self.now.core (g.F.Filter.passes c.args.filter.now) c.args.out.now c.in_err-ready.field-0.0 c.in_err-ready.ensures)

pub returns-then-judge-clause-outcome : goal.returns-then-judge-clause-outcome
returns-then-judge-clause-outcome g c =
    let e = c.in_ok-taken.ensures in
    let i = c.loop-taken.invariant in
    sought_passed g.C.Cost.rules g.met.C.Cost.lawful c.loop-taken.self.core c.take.new.self.core (g.F.Filter.passes c.args.filter.now) c.loop-taken.out c.take.new.out c.in_ok-taken.taken.number c.in_ok-taken.taken.cost e.outcome (judged_so (g.F.Filter.passes c.loop-taken.filter) (g.F.Filter.passes c.args.filter.now) c.judge.result c.take.new.self.core.rungs c.loop-taken.self.core.rungs c.take.new.out c.judge.ensures.value i.3 e.kept.rungs ∙ c.if-judge.true) ∙ i.4

pub loop-taken-preserved : goal.loop-taken-preserved
loop-taken-preserved g c =
    let e = c.in_ok-taken.ensures in
    let i = c.loop-taken.invariant in (
      e.kept.closed ∙ i.0,
      omega (arith, e.kept.rungs, i.1, c.take.auto.out),
      c.take.auto.out ∙ i.2,
      c.judge.ensures.same ∙ i.3,
      sought_turned g.C.Cost.rules g.met.C.Cost.lawful c.loop-taken.self.core c.take.new.self.core (g.F.Filter.passes c.args.filter.now) c.loop-taken.out c.take.new.out c.in_ok-taken.taken.number c.in_ok-taken.taken.cost e.outcome (judged_so (g.F.Filter.passes c.loop-taken.filter) (g.F.Filter.passes c.args.filter.now) c.judge.result c.take.new.self.core.rungs c.loop-taken.self.core.rungs c.take.new.out c.judge.ensures.value i.3 e.kept.rungs ∙ c.if-judge.false) ∙ i.4,
      λ s. e.sound (i.5 s),
    )
