use Rattle.ladder.specs.Laws.{never_saturates}
use Rattle.ladder.proofs.theorems.travel_never_saturates.Goals as goal

pub returns : goal.returns
returns c = never_saturates
