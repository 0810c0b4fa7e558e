-- The tables of a resolver, read by rung, pose number and place. Assumes nothing.
use Rattle.std.specs.Prelude.{ℕ, ◌+◌, ◌*◌, false, List, pos, slice_index_or}
use Rattle.std.specs.List.{between}
use Rattle.ladder.specs.Rules.{Rules}
use Rattle.enumeration.specs.declared.records.Station.{Station}
use Rattle.enumeration.specs.declared.records.Ranked.{Ranked}
use Rattle.enumeration.specs.declared.records.Candidate.{Candidate}
use Rattle.enumeration.specs.declared.records.Extent.{Extent}
use Rattle.enumeration.specs.Tables.{Tables}
use Rattle.resolver.specs.declared.tables.Core.{Core}

-- what a place past the end of the table of poses reads as; no place in use is there
abbrev pub no_station : Station
no_station = record { pose = record { shoulder = pos 0; elbow = pos 0 }; waiting = 0; found = 0; last = record { 0 = 0 }; pending = false }

-- the same of the table of tracks
abbrev pub no_track : {C P : Type 0} → Rules C P → Ranked C
no_track c = record { cost = c.zero; pose = record { 0 = 0 }; rank = record { 0 = 0 }; back = record { pose = record { 0 = 0 }; rank = record { 0 = 0 } }; front = record { 0 = 0 }; after = record { 0 = 0 } }

-- the same of the rungs' extents
abbrev pub no_extent : Extent
no_extent = record { poses = 0; ranked = 0 }

-- part i of a table that is cut into parts of 16 places
abbrev pub part : {X : Type 0} → ℕ → List X → List X
part i xs = between (16 * i) (16 * i + 16) xs

-- pose v of rung r
abbrev pub station_in : List Station → ℕ → ℕ → Station
station_in ss r v = slice_index_or ss (16 * r + v) no_station

-- how many poses rung r has
abbrev pub size_in : List Extent → ℕ → ℕ
size_in es r = (slice_index_or es r no_extent).poses

module _ {C : Type 0} (k : Core C) where
  -- pose v of rung r
  abbrev pub station_at : ℕ → ℕ → Station
  station_at r v = station_in k.stations.now r v

  -- how many poses rung r has
  abbrev pub size_at : ℕ → ℕ
  size_at r = size_in k.extents r

  -- how many places of rung r's ranked block are in use
  abbrev pub used_at : ℕ → ℕ
  used_at r = (slice_index_or k.extents r no_extent).ranked

  -- the 16 candidate places of pose v of rung r
  abbrev pub slots_at : ℕ → ℕ → List (Candidate C)
  slots_at r v = part (16 * r + v) k.candidates.now

  -- the track at place i of rung r's ranked block
  abbrev pub track_at : {P : Type 0} → Rules C P → ℕ → ℕ → Ranked C
  track_at c r i = slice_index_or k.ranked.now ((16 + k.ration) * r + i) (no_track c)

  -- how many places the ranked block of a rung has
  abbrev pub width : ℕ
  width = 16 + k.ration

-- what a resolver's tables hold
abbrev pub tables_of : {C P : Type 0} → Rules C P → Core C → Tables C
tables_of c k = record {
  station = λ r v. station_at k r v;
  track = λ r i. track_at k c r i;
  slots = λ r v. slots_at k r v;
  size = λ r. size_at k r;
  used = λ r. used_at k r;
}
