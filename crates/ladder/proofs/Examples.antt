-- The worked ladders, by computing. Assumes nothing.
use Rattle.std.proofs.Common.{refl}
use Rattle.ladder.specs.Cases.{Worked}

pub worked : Worked
worked = record {
  by_travel = refl;
  by_worst = refl;
  by_pair = refl;
  too_far = refl;
  just_near = refl;
  twice_one_pose = refl;
  no_rung = refl;
  front_decides = refl;
}
