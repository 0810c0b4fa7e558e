-- What the small steps write. Assumes nothing.
use Rattle.std.specs.Prelude.{◌≡◌, ℕ, zero, suc, ◌+◌, ◌<◌, ◌≤◌, Bool, true, if◌then◌else◌, List, Some, None, MatchBool, Option, ◌≢◌, nat_lt, slice_index_or}
use Rattle.ladder.specs.declared.poses.PoseNumber.{PoseNumber}
use Rattle.ladder.specs.declared.poses.Limits.{Limits}
use Rattle.ladder.specs.Rules.{Rules}
use Rattle.enumeration.specs.declared.records.Station.{Station}
use Rattle.enumeration.specs.declared.records.Ranked.{Ranked}
use Rattle.enumeration.specs.declared.records.Candidate.{Candidate}
use Rattle.enumeration.specs.Waiting.{extended}
use Rattle.enumeration.specs.Tables.{Tables}
use Rattle.enumeration.specs.Sound.{last_back}
use Rattle.enumeration.specs.Changes.{Elsewhere, Unchanged, BlockKept, Appended, Draws, linked}
use Rattle.enumeration.specs.Advancing.{EntersPending}

-- the candidate at pose v of rung p + 1 that extends the track at place i of rung p, where the move is admissible
abbrev pub candidate_at : {C P : Type 0} → Rules C P → Tables C → Limits → ℕ → ℕ → ℕ → Option (Candidate C)
candidate_at c t l p v i = extended c l (t.station p (t.track p i).pose.0).pose (t.station (suc p) v).pose (t.track p i) (record { 0 = i })

-- one rank more fits at a pose of rung r whose station is s: a place of the block is free, and the last rank lies in the part in use
pub record OneMore {C : Type 0} (w : ℕ) (t : Tables C) (r : ℕ) (s : Station) : Type 0 where
  pub found : s.found < 65535
  pub free : t.used r < w
  pub last : 0 < s.found → s.last.0 < t.used r

-- the pose at place j of a path
abbrev pub path_at : List PoseNumber → ℕ → PoseNumber
path_at path j = slice_index_or path j (record { 0 = 0 })

module _ {C : Type 0} (t : Tables C) where
  -- the last rank at pose v of rung r, where the successor of its front has yet to be entered
  abbrev pub pending_at : ℕ → ℕ → Option (Ranked C)
  pending_at zero v = None
  pending_at (suc p) v = if (t.station (suc p) v).pending then Some (t.track (suc p) (t.station (suc p) v).last.0) else None

  -- the track after the one that the last rank at pose v of rung p + 1 extends is found
  abbrev pub successor_found : ℕ → ℕ → Bool
  successor_found p v = nat_lt ((last_back t (suc p) v).rank.0 + 1) (t.station p (last_back t (suc p) v).pose.0).found

  -- the pose of the rung before whose next rank pose v of rung r waits for, if that rank is not found
  abbrev pub needed_at : ℕ → ℕ → Option PoseNumber
  needed_at zero v = None
  needed_at (suc p) v = if (t.station (suc p) v).pending then (if successor_found p v then None else Some (last_back t (suc p) v).pose) else None

  -- path leads from pose v of rung r down to rung low: on each rung stands the pose that the one above waits for
  pub record PathDown (r : ℕ) (v : PoseNumber) (path : List PoseNumber) (low : ℕ) : Type 0 where
    pub top : path_at path r ≡ v
    pub numbered : (j : ℕ) → low ≤ j → j ≤ r → (path_at path j).0 < t.size j
    pub steps : (j : ℕ) → low ≤ j → j < r → needed_at (suc j) (path_at path (suc j)).0 ≡ Some (path_at path j)

module _ {C : Type 0} (w : ℕ) (t : Tables C) where
  -- the last rank at pose v of rung r, where the successor of its front has yet to be entered, lies in the block and extends a pose by its number
  abbrev pub Readable : ℕ → ℕ → Type 0
  Readable zero v = Unit {0}
  Readable (suc p) v = (t.station (suc p) v).pending ≡ true → ((t.station (suc p) v).last.0 < w) × ((last_back t (suc p) v).pose.0 < 16)

  -- one candidate and one rank more fit at pose v of rung p + 1, and the successor to enter, if it is found, lies in the block of rung p
  pub record Steady (p v : ℕ) : Type 0 where
    pub room : (t.station (suc p) v).waiting < 16
    pub more : OneMore w t (suc p) (t.station (suc p) v)
    pub front : (t.track (suc p) (t.station (suc p) v).last.0).front.0 < w
    pub after : successor_found t p v ≡ true → (t.track p (t.track (suc p) (t.station (suc p) v).last.0).front.0).after.0 < w
    pub posed : successor_found t p v ≡ true → (t.track p (t.track p (t.track (suc p) (t.station (suc p) v).last.0).front.0).after.0).pose.0 < 16

  -- the same, wherever a successor has yet to be entered
  abbrev pub Advanceable : ℕ → ℕ → Type 0
  Advanceable zero v = Unit {0}
  Advanceable (suc p) v = (t.station (suc p) v).pending ≡ true → Steady p v

  -- on the rungs up to r, the last rank of each pose where a successor has yet to be entered lies in the block and extends a pose of the rung before
  pub record Backed (r : ℕ) : Type 0 where
    pub few : (q : ℕ) → q ≤ r → t.size q ≤ 16
    pub last : (q u : ℕ) → q ≤ r → u < t.size q → (t.station q u).pending ≡ true → (t.station q u).last.0 < w
    pub back : (p u : ℕ) → suc p ≤ r → u < t.size (suc p) → (t.station (suc p) u).pending ≡ true → (last_back t (suc p) u).pose.0 < t.size p

-- w is the width of a block; from the tables t to the tables m
module _ {C : Type 0} (w : ℕ) (t m : Tables C) where
  -- pose v of rung r is s, and nothing else changed
  pub record StationPut (r v : ℕ) (s : Station) : Type 0 where
    pub elsewhere : Elsewhere w t m r v
    pub block : BlockKept w t m r
    pub slots : m.slots r v ≡ t.slots r v
    pub here : m.station r v ≡ s

  -- place i of rung r's block holds e, and nothing else changed
  pub record TrackPut (r i : ℕ) (e : Ranked C) : Type 0 where
    pub sizes : (q : ℕ) → m.size q ≡ t.size q
    pub stations : (q u : ℕ) → m.station q u ≡ t.station q u
    pub slots : (q u : ℕ) → m.slots q u ≡ t.slots q u
    pub tracks : (q j : ℕ) → j < w → (q ≡ r → j ≢ i) → m.track q j ≡ t.track q j
    pub used : (q : ℕ) → m.used q ≡ t.used q
    pub here : m.track r i ≡ e

  -- the first free place of rung r's block is in use and holds e, and nothing else changed
  pub record Ranks (r : ℕ) (e : Ranked C) : Type 0 where
    pub sizes : (q : ℕ) → m.size q ≡ t.size q
    pub stations : (q u : ℕ) → m.station q u ≡ t.station q u
    pub slots : (q u : ℕ) → m.slots q u ≡ t.slots q u
    pub tracks : (q j : ℕ) → j < w → (q ≡ r → j ≢ t.used r) → m.track q j ≡ t.track q j
    pub used : (q : ℕ) → (q ≢ r) → m.used q ≡ t.used q
    pub more : m.used r ≡ t.used r + 1
    pub here : m.track r (t.used r) ≡ e

  -- the last found track at a pose of rung r, whose station is s, leads to place i, if one is found, and nothing else changed
  abbrev pub Links : ℕ → Station → ℕ → Type 0
  Links r s i = MatchBool (nat_lt 0 s.found) (TrackPut r s.last.0 (linked (t.track r s.last.0) i)) (Unchanged w t m)

  -- the track that candidate x stands for is appended as the next rank at pose v of rung r, whose station was s, and nothing else changed
  pub record Appends (r v : ℕ) (s : Station) (x : Candidate C) : Type 0 where
    pub elsewhere : Elsewhere w t m r v
    pub slots : m.slots r v ≡ t.slots r v
    pub appended : Appended w t m r v s x

module _ {C P : Type 0} (c : Rules C P) (l : Limits) (w : ℕ) (t m : Tables C) where
  -- at pose v of rung r the pending successor is entered, if it is found, and the least candidate drawn; where none is pending nothing changed
  abbrev pub Advanced : ℕ → ℕ → Type 0
  Advanced zero v = Unchanged w t m
  Advanced (suc p) v = MatchBool (t.station (suc p) v).pending ((a : Tables C) × EntersPending c l w t a p v × Draws c w a m (suc p) v) (Unchanged w t m)
