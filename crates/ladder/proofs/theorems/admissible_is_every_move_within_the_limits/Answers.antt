use Rattle.ladder.proofs.Forward.{admissible_is_moves}
use Rattle.ladder.proofs.theorems.admissible_is_every_move_within_the_limits.Goals as goal

pub returns : goal.returns
returns c = admissible_is_moves
