use Rattle.std.proofs.Common.{◌-◌, length, arith}
use Rattle.heap.proofs.Steps.{taken_same, taken_least}
use Rattle.heap.proofs.take_first.Goals as goal

pub returns-clause-same : goal.returns-clause-same
returns-clause-same g c =
    let s = c.swap.ensures.by_index in
    taken_same g.T.Ordered.valid g.T.Ordered.before c.args.full.now c.swap.new.self c.sift_down.new.slots (length c.args.full.now - 1 - 0) _ (omega arith) c.index-full-0.is c.swap.ensures.permutation (s.0, s.1, s.2) c.sift_down.ensures.same

pub returns-clause-least : goal.returns-clause-least
returns-clause-least g c =
    let s = c.swap.ensures.by_index in
    λ o. taken_least g.T.Ordered.valid g.T.Ordered.before o c.args.full.now c.swap.new.self c.sift_down.new.slots (length c.args.full.now - 1 - 0) _ (omega arith) c.index-full-0.is c.swap.ensures.permutation (s.0, s.1, s.2) c.sift_down.ensures.same c.sift_down.ensures.sinks
