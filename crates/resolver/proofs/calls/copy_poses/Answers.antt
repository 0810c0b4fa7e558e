use Rattle.std.proofs.Common.{◌≡◌, ℕ, ◌+◌, ◌<◌, List, [], ◌∷◌, ◌++◌, length, take, set, Some, sym, ap, ◌∙◌, arith}
use Rattle.std.specs.List.{slice_get}
use Rattle.std.proofs.lemmas.List.{take_more, take_more_set}
use Rattle.std.proofs.lemmas.Option.{none-some, slice_get_within, slice_get-get_or, get_or_from_slice_get}
use Rattle.ladder.specs.Tracks.{origin}
use Rattle.resolver.proofs.calls.copy_poses.Goals as goal
use Rattle.resolver.proofs.calls.copy_poses.Goals.{in-Some, in_default}

-- one place more is copied
pub copy_more : {X : Type 0} (xs ms : List X) (j : ℕ) (p : X) → take j xs ≡ take j ms → slice_get ms j ≡ Some p → j < length xs → take (j + 1) (set xs j p) ≡ take (j + 1) ms
copy_more xs ms j p e at h =
    take_more_set xs j p h ∙ ap (λ ys. ys ++ (p ∷ [])) e ∙ ap (λ y. take j ms ++ (y ∷ [])) (sym (get_or_from_slice_get ms j p p at)) ∙ sym (take_more ms j p (slice_get_within ms j p at))

pub loop-j-preserved : goal.loop-j-preserved
loop-j-preserved g c =
    let m = g.S.Source.meaning in
    let w = c.args.waypoint in
    let j = c.loop-j.j in
    let ms = m c.args.source.now w in
    let same = c.loop-j.invariant.1 in
    let value = c.pose.ensures.value ∙ ap (λ f. slice_get (f w) j) same in
    let inside : j < length c.loop-j.into = omega (arith, c.loop-j-test.true) in
    let there = slice_get-get_or ms j origin (omega (arith, c.loop-j-test.true, c.requires)) in (
      elim c.match-pose.branch [
        | in-Some v ↦ ap (take (j + 1)) v.into-is ∙ copy_more c.loop-j.into ms j v.in-Some.p c.loop-j.invariant.0 (sym value ∙ v.in-Some.is) inside
        | in_default v ↦ absurd (none-some _ (sym v.in_default.is ∙ value ∙ there))
      ],
      c.pose.ensures.same ∙ same,
    )
