-- The ladder that the tables hold. Assumes nothing.
use Rattle.std.proofs.Common.{◌≡◌, ℕ, zero, suc, List, length, refl, ap}
use Rattle.enumeration.specs.declared.records.Station.{Station}
use Rattle.enumeration.specs.declared.records.Extent.{Extent}
use Rattle.resolver.specs.declared.tables.Core.{Core}
use Rattle.resolver.specs.Standing.{ladder_in, book}

pub length_ladder : (ss : List Station) (es : List Extent) (r : ℕ) → length (ladder_in ss es r) ≡ r
unfolding ladder_in
length_ladder ss es zero = refl
length_ladder ss es (suc r) = ap suc (length_ladder ss es r)

-- a resolver has as many rungs as its book
pub many : {C : Type 0} (k : Core C) → length (book k).rungs ≡ k.rungs
many k = length_ladder k.stations.now k.extents k.rungs
