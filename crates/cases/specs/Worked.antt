-- The cases worked by hand: ladders and their lists, the arm, the filters, and what the calls answer where a case names it. Assumes nothing.
use Rattle.std.specs.Prelude.{◌≡◌, [], ℕ}
use Rattle.ladder.specs.Costs.{travel}
use Rattle.ladder.specs.Cases.{free, Worked as LaddersWorked}
use Rattle.sources.specs.Reach.{reaching}
use Rattle.sources.specs.Cases.{even, point, Worked as ArmWorked}
use Rattle.filters.specs.Cases.{Worked as ReversalsWorked}
use Rattle.book.specs.Book.{refused, new_book, shut, adding, nexting}

-- what the definitions say of all of them
pub record AllWorked : Type 0 where
  pub ladders : LaddersWorked
  pub arm : ArmWorked
  pub reversals : ReversalsWorked
  -- a closed ladder without rungs answers 10
  pub no_rung : (nexting travel (shut (new_book free 8 64)) []).answer ≡ refused 10
  -- the 64 poses at the arm's foot are too many to add, and out of reach there is none
  pub too_many : (adding {V = ℕ} (new_book free 8 64) (reaching (even 0) (point 0 0))).answer ≡ refused 6
  pub none : (adding {V = ℕ} (new_book free 8 64) (reaching (even 0) (point 201 0))).answer ≡ refused 5
