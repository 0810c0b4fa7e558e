use Rattle.std.proofs.Common.{arith}
use Rattle.listing.proofs.Overlays.{wrote_digit, wrote_step}
use Rattle.listing.proofs.text.Text.+number.Goals as goal
use Rattle.listing.proofs.text.Text.+number.Goals.{then-n-ge10, else-n-ge10}

pub returns : goal.returns
returns t c =
    let last = c.byte.ensures in
    elim c.if-n-ge10.branch [
      | then-n-ge10 w ↦ wrote_step c.args.n w.if-n-ge10.true (omega (arith, c.ranges.n.fits)) w.number.ensures (rw w.self-is at last)
      | else-n-ge10 w ↦ wrote_digit c.args.n w.if-n-ge10.false (rw w.self-is at last)
    ]
