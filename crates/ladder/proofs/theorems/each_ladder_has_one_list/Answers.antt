use Rattle.ladder.proofs.Peeled.{one_list}
use Rattle.ladder.proofs.theorems.each_ladder_has_one_list.Goals as goal

pub returns : goal.returns
returns g c = one_list g.C.Cost.rules g.met.C.Cost.lawful
