use Rattle.std.proofs.Common.{◌+◌, ◌-◌, length, get_or, take, drop, pos, sym, ap, ◌∙◌, arith, w16, SFits, rules}
use Rattle.std.proofs.lemmas.List.{at_drop_more}
use Rattle.std.proofs.lemmas.Int.{to_z-of_z}
use Rattle.ladder.specs.declared.poses.Step.{Step}
use Rattle.filters.specs.Turning.{shoulders}
use Rattle.filters.specs.Tallies.{gone_on}
use Rattle.filters.proofs.Turns.{in_all, in_all_more, few_more}
use Rattle.filters.proofs.turning.reversals.Goals as goal

-- what stands past the end of a list of steps
none : Step
none = record { number = record { 0 = 0 }; pose = record { shoulder = pos 0; elbow = pos 0 } }

pub loop-step-preserved : goal.loop-step-preserved
unfolding none
loop-step-preserved c =
    let rest = take (length c.args.steps.now - 1) (drop 1 c.args.steps.now) in
    let i = c.loop-step.step-index in
    let t = c.loop-step.tally in
    let fits : SFits w16 (get_or rest i none).pose.shoulder = search rules in
    let gone = c.go_on.ensures ∙ ap (gone_on t) (to_z-of_z w16 _ fits) in
    record {
      whole = ap (λ u. in_all u (shoulders (drop (i + 1) rest))) gone
          ∙ in_all_more t (get_or rest i none).pose.shoulder (shoulders (drop (i + 1) rest))
          ∙ sym (at_drop_more (λ xs. in_all t (shoulders xs)) rest i none c.loop-step-test.true)
          ∙ c.loop-step.invariant.whole;
      few = omega (arith, ap (λ u. u.reversals) gone, few_more t (get_or rest i none).pose.shoulder);
    }
