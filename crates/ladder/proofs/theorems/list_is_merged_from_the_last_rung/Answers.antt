use Rattle.ladder.proofs.Ends.{list_merges}
use Rattle.ladder.proofs.theorems.list_is_merged_from_the_last_rung.Goals as goal

pub returns : goal.returns
returns g c = list_merges g.C.Cost.rules g.met.C.Cost.lawful
