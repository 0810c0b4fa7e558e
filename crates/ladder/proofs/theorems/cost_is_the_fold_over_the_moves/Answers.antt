use Rattle.ladder.proofs.Forward.{cost_is_fold}
use Rattle.ladder.proofs.theorems.cost_is_the_fold_over_the_moves.Goals as goal

pub returns : goal.returns
returns g c = cost_is_fold g.C.Cost.rules
