use Rattle.ladder.specs.Laws.{keeping_is_needed_lem}
use Rattle.ladder.proofs.theorems.keeping_is_needed.Goals as goal

pub returns : goal.returns
returns c = keeping_is_needed_lem
