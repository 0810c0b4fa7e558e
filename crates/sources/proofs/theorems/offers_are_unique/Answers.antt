use Rattle.sources.proofs.Offered.{offers_one}
use Rattle.sources.proofs.theorems.offers_are_unique.Goals as goal

pub returns : goal.returns
returns c = offers_one
