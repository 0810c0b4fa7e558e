use Rattle.ladder.specs.Laws.{travel_keeps, pair_lawful}
use Rattle.ladder.proofs.theorems.costs_are_lawful.Goals as goal

pub returns-clause-keeping_travel : goal.returns-clause-keeping_travel
returns-clause-keeping_travel g c = travel_keeps

pub returns-clause-lawful_pair : goal.returns-clause-lawful_pair
returns-clause-lawful_pair g c = pair_lawful g.A.Cost.rules g.B.Cost.rules g.met.A.Cost.lawful g.met.A.Keeping.keeps g.met.B.Cost.lawful
