use Rattle.std.proofs.Common.{◌≡◌, ◌-◌, ◌/◌, ◌<◌, length, arith}
use Rattle.std.proofs.lemmas.List.Sorted.{IsPermutation-refl, IsPermutation-trans, length_permutation}
use Rattle.heap.proofs.Sifts.{rise_begins, rise_steps, rise_tops, rise_rests}
use Rattle.heap.proofs.sift_up.Goals as goal

pub loop-at-init : goal.loop-at-init
loop-at-init g c = (omega arith, IsPermutation-refl _, rise_begins _ _ c.args.slots.now _ (omega arith))

pub returns-then-not-precedes-clause-rises : goal.returns-then-not-precedes-clause-rises
returns-then-not-precedes-clause-rises g c =
    let l = c.loop-at in
    let up : 0 < l.at = c.loop-at-test.true in
    rise_rests _ _ c.args.slots.now l.slots ((l.at - 1) / 2) l.at (omega arith) (omega arith) c.if-not-precedes.ensures l.invariant.2

pub loop-at-preserved : goal.loop-at-preserved
loop-at-preserved g c =
    let l = c.loop-at in
    let up : 0 < l.at = c.loop-at-test.true in
    let xs = c.args.slots.now in
    let ys = l.slots in
    let zs = c.swap.new.self in
    let told = c.swap.ensures in
    let long : length ys ≡ length xs = length_permutation xs ys l.invariant.1 in (
      omega arith,
      IsPermutation-trans xs ys zs l.invariant.1 told.permutation,
      rise_steps _ _ xs ys zs ((l.at - 1) / 2) l.at (omega arith) (omega arith) (omega arith) (told.by_index.0, told.by_index.1, told.by_index.2) c.if-not-precedes.ensures l.invariant.2,
    )

pub returns-clause-rises : goal.returns-clause-rises
returns-clause-rises g c =
    let l = c.loop-at in
    rise_tops _ _ c.args.slots.now l.slots l.at (omega arith) l.invariant.2
