use Rattle.std.proofs.Common.{refl, ◌∙◌, arith}
use Rattle.replay.specs.declared.calls.Call.TheVariants.{Add}
use Rattle.replay.proofs.Runs.{begin, more, told_all, told_full, told_until}
use Rattle.replay.proofs.replaying.replay.Goals as goal

pub loop-k-init : goal.loop-k-init
loop-k-init g c = record { so_far = begin; sources = refl; filters = refl }

pub returns-then-k-answers : goal.returns-then-k-answers
returns-then-k-answers g c =
    let i = c.loop-k.invariant in
    let t = told_full i.so_far (omega (arith, c.if-k-answers.true)) in
    record { made = t.made; promise = c.open-resolver.ensures.promise _ t.chain; spared = t.spared; sources = i.sources; filters = i.filters }

pub returns-in_default : goal.returns-in_default
returns-in_default g c =
    let i = c.loop-k.invariant in
    let t = told_until i.so_far c.loop-k-test.true (omega (arith, c.if-k-answers.false)) (Add 0 0) c.make.new.outputs c.make.new.resolver.core i.sources i.filters c.in_default.ensures.made in
    record { made = t.made; promise = c.open-resolver.ensures.promise _ t.chain; spared = t.spared; sources = c.make.ensures.sources ∙ i.sources; filters = c.make.ensures.filters ∙ i.filters }

pub loop-k-preserved : goal.loop-k-preserved
loop-k-preserved g c =
    let i = c.loop-k.invariant in record {
      so_far = more i.so_far c.loop-k-test.true (omega (arith, c.if-k-answers.false)) (Add 0 0) c.in-Some.answer c.make.new.outputs c.make.new.resolver.core c.make.auto.outputs i.sources i.filters c.in-Some.ensures.made c.places-used.ensures c.put.ensures;
      sources = c.make.ensures.sources ∙ i.sources;
      filters = c.make.ensures.filters ∙ i.filters;
    }

pub returns : goal.returns
returns g c =
    let i = c.loop-k.invariant in
    let t = told_all i.so_far (omega arith) in
    record { made = t.made; promise = c.open-resolver.ensures.promise _ t.chain; spared = t.spared; sources = i.sources; filters = i.filters }
