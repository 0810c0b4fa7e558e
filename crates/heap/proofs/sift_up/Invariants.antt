use Rattle.std.proofs.Common.{◌<◌, length}
use Rattle.std.specs.List.Sorted.{IsPermutation}
use Rattle.heap.proofs.Sifts.{Rising}
use Rattle.heap.proofs.sift_up.Given as goal

abbrev pub invariant-loop-at : goal.invariant-loop-at
invariant-loop-at g l = (l.«at» < length l.slots) × IsPermutation l.initial.slots l.slots × Rising g.T.Ordered.valid g.T.Ordered.before l.initial.slots l.slots l.«at»

abbrev pub decreases-loop-at : goal.decreases-loop-at
decreases-loop-at g l = l.«at»
