-- What the tables of a resolver hold, read by rung, pose number and place. Assumes nothing.
use Rattle.std.specs.Prelude.{ℕ, zero, suc, List, [], ◌∷◌, map}
use Rattle.std.specs.List.{range_with_len}
use Rattle.ladder.specs.Tracks.{Rung, Ladder}
use Rattle.enumeration.specs.declared.records.Station.{Station}
use Rattle.enumeration.specs.declared.records.Ranked.{Ranked}
use Rattle.enumeration.specs.declared.records.Candidate.{Candidate}

-- station r v: pose v of rung r; track r i: place i of rung r's ranked block; slots r v: the candidate places of pose v of rung r;
-- size r: how many poses rung r has; used r: how many places of its ranked block are in use
pub record Tables (C : Type 0) : Type 0 where
  pub station : ℕ → ℕ → Station
  pub track : ℕ → ℕ → Ranked C
  pub slots : ℕ → ℕ → List (Candidate C)
  pub size : ℕ → ℕ
  pub used : ℕ → ℕ

module _ {C : Type 0} (t : Tables C) where
  -- the poses of rung r
  abbrev pub poses : ℕ → Rung
  poses r = map (λ v. (t.station r v).pose) (range_with_len 0 (t.size r))

  -- the first r rungs, the last first
  unfoldable pub ladder : ℕ → Ladder
  ladder zero = []
  ladder (suc r) = poses r ∷ ladder r
