use Rattle.book.proofs.Runs.{runs_keep}
use Rattle.book.proofs.every_run_keeps_the_promise.Goals as goal

pub returns : goal.returns
returns g c = runs_keep g.C.Cost.rules g.met.C.Cost.lawful
