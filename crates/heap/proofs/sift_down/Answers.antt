use Rattle.std.proofs.Common.{◌≡◌, length, arith}
use Rattle.std.proofs.lemmas.List.Sorted.{IsPermutation-refl, IsPermutation-trans, length_permutation}
use Rattle.heap.proofs.Sifts.{sink_begins, sink_steps, sink_ends, sink_rests}
use Rattle.heap.proofs.sift_down.Goals as goal

pub loop-at-init : goal.loop-at-init
loop-at-init g c = (IsPermutation-refl _, sink_begins _ _ c.args.slots.now)

pub returns-then-not-precedes-clause-sinks : goal.returns-then-not-precedes-clause-sinks
returns-then-not-precedes-clause-sinks g c =
    let l = c.loop-at in
    let child = c.first_child-child.result in
    let told = c.first_child-child.ensures in
    let long : length l.slots ≡ length c.args.slots.now = length_permutation _ _ l.invariant.0 in
    sink_rests _ _ c.args.slots.now l.slots l.at child (omega arith) told.bound.0 long c.if-not-precedes.ensures told.best l.invariant.1

pub loop-at-preserved : goal.loop-at-preserved
loop-at-preserved g c =
    let l = c.loop-at in
    let xs = c.args.slots.now in
    let ys = l.slots in
    let zs = c.swap.new.self in
    let swapped = c.swap.ensures in
    let child = c.first_child-child.result in
    let told = c.first_child-child.ensures in
    let long : length ys ≡ length xs = length_permutation xs ys l.invariant.0 in (
      IsPermutation-trans xs ys zs l.invariant.0 swapped.permutation,
      sink_steps _ _ xs ys zs l.at child told.bound.1 told.bound.2 told.bound.0 long (swapped.by_index.0, swapped.by_index.1, swapped.by_index.2) c.if-not-precedes.ensures told.best l.invariant.1,
    )

pub returns-clause-sinks : goal.returns-clause-sinks
returns-clause-sinks g c =
    let l = c.loop-at in
    let long : length l.slots ≡ length c.args.slots.now = length_permutation _ _ l.invariant.0 in
    sink_ends _ _ c.args.slots.now l.slots l.at (omega arith) l.invariant.1
