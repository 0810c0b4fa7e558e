-- What a resolver is opened with, and the book that it stands for then. Assumes nothing.
use Rattle.std.specs.Prelude.{◌+◌, ◌*◌, ◌≤◌, length}
use Rattle.book.specs.Book.{Book, opened}
use Rattle.resolver.specs.declared.opening.Setup.{Setup}
use Rattle.resolver.specs.declared.opening.LentTables.{LentTables}

-- the book that opening makes from a setup over lent tables
abbrev pub opened_over : {C : Type 0} → Setup → LentTables C → Book
opened_over s t = opened s.limits s.rung_limit s.ration (length t.stations.now) (length t.ranked.now) (length t.candidates.now)

-- the tables have room for the rung limit and the ration
pub record Roomy {C : Type 0} (s : Setup) (t : LentTables C) : Type 0 where
  pub limited : s.rung_limit ≤ 128
  pub rationed : s.ration ≤ 4096
  pub stations : 16 * s.rung_limit ≤ length t.stations.now
  pub ranked : (16 + s.ration) * s.rung_limit ≤ length t.ranked.now
  pub candidates : 256 * s.rung_limit ≤ length t.candidates.now
