use Rattle.std.proofs.Common.{refl}
use Rattle.sources.specs.Reach.{row, rows}
use Rattle.sources.proofs.theorems.arm_worked.Goals as goal

pub returns : goal.returns
unfolding row rows
returns c = record { two_ways = refl; folded_up = refl; too_far = refl; just_near = refl }
