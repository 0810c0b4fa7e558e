-- Cases of the book worked by hand. Assumes nothing.
use Rattle.std.specs.Prelude.{◌≡◌, []}
use Rattle.ladder.specs.declared.poses.Limits.{Limits}
use Rattle.ladder.specs.Costs.{travel}
use Rattle.book.specs.Book.{refused, new_book, shut, nexting}

-- step limits that allow every move
abbrev pub free : Limits
free = record { shoulder = 65535; elbow = 65535 }

-- what the book says of them
pub record Worked : Type 0 where
  -- a closed ladder without rungs has no track
  pub no_rung : (nexting travel (shut (new_book free 8 64)) []).answer ≡ refused 10
