use Rattle.std.proofs.Common.{Ok, rules}
use Rattle.job.specs.Bytes.{stands}
use Rattle.job.specs.Reading.{opt, signed}
use Rattle.job.specs.Views.{Reads}
use Rattle.job.proofs.cursor.Cursor.next_record.Goals as goal

pub returns-clause-reads : goal.returns-clause-reads
returns-clause-reads c =
    let x : Reads (λ v. v) (opt (stands c.in_ok-map.map 1) signed) c.next_byte.new.self c.optional.new.self (Ok c.in_ok-x.x) = search rules in
    let y : Reads (λ v. v) (opt (stands c.in_ok-map.map 2) signed) c.optional.new.self c.optional-2.new.self (Ok c.in_ok-y.y) = search rules in
    search rules
