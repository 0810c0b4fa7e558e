use Rattle.std.proofs.lemmas.Result.{err_from_is_err_and}
use Rattle.resolver.proofs.Unready.{next_unready}
use Rattle.resolver.proofs.held.Resolver.next.Goals as goal

pub returns-in_err-ready-clause-outcome : goal.returns-in_err-ready-clause-outcome
returns-in_err-ready-clause-outcome g c =
    let p = err_from_is_err_and c.from_residual.result c.from_residual.ensures.1 in
    rw (p.1, p.2) (next_unready g.C.Cost.rules c.args.self.now.core c.args.out.now c.in_err-ready.field-0.0 c.in_err-ready.ensures)
