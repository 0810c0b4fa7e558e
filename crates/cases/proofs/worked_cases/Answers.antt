use mathlib.Core.Path.{refl}
use Rattle.ladder.proofs.Examples.{worked}
use Rattle.sources.specs.Reach.{row, rows}
use Rattle.cases.proofs.worked_cases.Goals as goal

pub returns : goal.returns
unfolding row rows
returns c = record {
  ladders = worked;
  arm = record { two_ways = refl; folded_up = refl; too_far = refl; just_near = refl };
  reversals = record { turned_twice = refl };
  no_rung = refl;
  too_many = refl;
  none = refl;
}
