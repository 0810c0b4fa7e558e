use Rattle.std.proofs.Common.{◌≡◌, ◌-◌, ◌≤◌, length, take, drop}
use Rattle.filters.specs.Turning.{shoulders, turned_back}
use Rattle.filters.proofs.Turns.{in_all}
use Rattle.filters.proofs.turning.reversals.Given as goal

-- the tally and the steps that are left make the whole, and no step counts twice
abbrev pub invariant-loop-step : goal.invariant-loop-step
invariant-loop-step l = record {
  whole : in_all l.tally (shoulders (drop l.step-index (take (length l.steps - 1) (drop 1 l.steps)))) ≡ turned_back l.steps;
  few : l.tally.reversals ≤ l.step-index;
}
