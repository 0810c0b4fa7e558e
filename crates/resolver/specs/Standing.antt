-- The book that a resolver's tables stand for. Assumes nothing.
use Rattle.std.specs.Prelude.{ℕ, zero, suc, List, [], ◌∷◌, map}
use Rattle.std.specs.List.{range_with_len}
use Rattle.ladder.specs.Tracks.{Rung, Ladder}
use Rattle.book.specs.Book.{Book}
use Rattle.enumeration.specs.declared.records.Station.{Station}
use Rattle.enumeration.specs.declared.records.Extent.{Extent}
use Rattle.resolver.specs.declared.tables.Core.{Core}
use Rattle.resolver.specs.Tables.{station_in, size_in}

-- the poses of rung r
abbrev pub poses_in : List Station → List Extent → ℕ → Rung
poses_in ss es r = map (λ v. (station_in ss r v).pose) (range_with_len 0 (size_in es r))

-- the first r rungs, the last first
unfoldable pub ladder_in : List Station → List Extent → ℕ → Ladder
ladder_in ss es zero = []
ladder_in ss es (suc r) = poses_in ss es r ∷ ladder_in ss es r

-- the book of a resolver
abbrev pub book : {C : Type 0} → Core C → Book
book k = record { limits = k.limits; rung_limit = k.rung_limit; ration = k.ration; rungs = ladder_in k.stations.now k.extents k.rungs; closed = k.closed; taken = k.taken }
