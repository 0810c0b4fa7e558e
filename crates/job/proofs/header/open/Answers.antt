use Rattle.std.proofs.Common.{Ok, rules}
use Rattle.job.proofs.Steps.{open_law}
use Rattle.job.proofs.header.open.Goals as goal

pub returns-in_err-map-clause-law : goal.returns-in_err-map-clause-law
returns-in_err-map-clause-law c = open_law c.args.file.now (λ i. (c.type_inv.file i).fits) c.from_residual.result (search rules)

pub returns-in_err-header-clause-law : goal.returns-in_err-header-clause-law
returns-in_err-header-clause-law c = open_law c.args.file.now (λ i. (c.type_inv.file i).fits) c.from_residual-in_err-header.result (search rules)

pub returns-clause-law : goal.returns-clause-law
returns-clause-law c =
    let h = c.in_ok-header in
    open_law c.args.file.now (λ i. (c.type_inv.file i).fits) (Ok (h.header, record { cursor = c.next_header.new.self; left = h.left; few = h.ensures.few })) (search rules)
