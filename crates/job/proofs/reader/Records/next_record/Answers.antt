use Rattle.std.proofs.Common.{Some, Ok, rules}
use Rattle.job.proofs.Steps.{next_law}
use Rattle.job.proofs.reader.Records.next_record.Goals as goal

pub returns-in_err-record-clause-law : goal.returns-in_err-record-clause-law
returns-in_err-record-clause-law c =
    let a = c.args.self.now in
    let q = c.drop-guard-in_err-record.new.self.0.at in
    next_law a.cursor.file.now a.cursor.bytes a.left a.cursor.at q c.from_residual.result (search rules)

pub returns-clause-law : goal.returns-clause-law
returns-clause-law c =
    let a = c.args.self.now in
    next_law a.cursor.file.now a.cursor.bytes a.left a.cursor.at c.drop-guard-2.new.self.0.at (Ok (Some c.in_ok-record.record)) (search rules)
