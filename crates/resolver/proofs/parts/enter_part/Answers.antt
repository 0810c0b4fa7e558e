use Rattle.std.proofs.Common.{◌+◌, ◌*◌, arith}
use Rattle.std.proofs.lemmas.Slice.{drop-put_mid}
use Rattle.std.proofs.lemmas.List.Edits.{length-between}
use Rattle.resolver.proofs.parts.enter_part.Goals as goal

pub returns-clause-above : goal.returns-clause-above
returns-clause-above g c =
    let xs = c.args.table.now in
    let a = 16 * c.args.i in
    drop-put_mid a _ xs c.enter.new.slots (a + 16) (omega arith) (omega arith) (omega (arith, c.enter.auto.slots, length-between xs a (a + 16) c.requires.within))
