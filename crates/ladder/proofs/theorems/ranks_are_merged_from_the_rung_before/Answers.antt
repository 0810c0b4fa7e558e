use Rattle.ladder.proofs.Merged.{ranks_merge}
use Rattle.ladder.proofs.theorems.ranks_are_merged_from_the_rung_before.Goals as goal

pub returns : goal.returns
returns g c = ranks_merge g.C.Cost.rules g.met.C.Cost.lawful
