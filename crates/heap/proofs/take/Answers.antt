use Rattle.std.proofs.Common.{◌-◌, arith}
use Rattle.heap.proofs.Steps.{popped}
use Rattle.heap.proofs.take.Goals as goal

pub returns : goal.returns
returns g c =
    let n = c.args.len in
    let e = c.take_first.ensures in
    popped g.T.Ordered.valid g.T.Ordered.before c.args.slots.now c.take_first.new.full n (n - 0) c.take_first.result (omega arith) (omega (arith, c.requires)) (omega (arith, c.requires)) c.take_first.auto.full e.same e.least
