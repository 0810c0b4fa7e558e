use Rattle.std.proofs.Common.{refl}
use Rattle.std.proofs.lemmas.Result.{err_from_is_err_and}
use Rattle.job.proofs.cursor.Cursor.optional.Goals as goal

pub returns-in_err-read : goal.returns-in_err-read
returns-in_err-read g c =
    let p = err_from_is_err_and c.from_residual.result c.from_residual.ensures.1 in
    rw (c.if-there.true, p.1, p.2) (record { shown = _; shows = refl; left = _; leaves = refl; met = c.in_err-read.ensures })

pub returns-in_ok-read : goal.returns-in_ok-read
returns-in_ok-read g c = rw c.if-there.true (record { shown = _; shows = refl; left = _; leaves = refl; met = c.in_ok-read.ensures })
