use Rattle.std.proofs.Common.{◌+◌, ◌-◌, arith}
use Rattle.heap.proofs.Steps.{pushed}
use Rattle.heap.proofs.put.Goals as goal

pub returns : goal.returns
returns g c =
    let n = c.args.len in
    pushed g.T.Ordered.valid g.T.Ordered.before c.args.slots.now c.sift_up.new.slots n (n + 1 - 0) c.args.x (omega arith) (omega (arith, c.requires)) c.sift_up.ensures.same c.sift_up.ensures.rises
