-- What the private calls write, in range: from the resolver k to the resolver m. Assumes nothing.
use Rattle.std.specs.Prelude.{◌≡◌, ℕ, suc, ◌+◌, ◌<◌, ◌≤◌, Bool, List, Some, None, Option, nat_lt}
use Rattle.ladder.specs.declared.poses.PoseNumber.{PoseNumber}
use Rattle.ladder.specs.Rules.{Rules}
use Rattle.enumeration.specs.declared.records.Station.{Station}
use Rattle.enumeration.specs.declared.records.Ranked.{Ranked}
use Rattle.enumeration.specs.declared.records.Candidate.{Candidate}
use Rattle.enumeration.specs.declared.records.Back.{Back}
use Rattle.enumeration.specs.Changes.{Entered, Enters, Draws, entry_of}
use Rattle.enumeration.specs.Advancing.{EntersPending}
use Rattle.resolver.specs.declared.tables.Core.{Core}
use Rattle.resolver.specs.Tables.{tables_of, width}
use Rattle.enumeration.specs.Writes.{OneMore, Readable, Steady, Advanceable, Backed, PathDown, StationPut, TrackPut, Ranks, Links, Appends, Advanced, candidate_at, pending_at, needed_at, path_at}

module _ {C P : Type 0} (c : Rules C P) (k : Core C) where
  -- o is the candidate at pose v of rung r that extends the track at place i of the rung before
  abbrev pub ExtendsTrack : ℕ → ℕ → ℕ → Option (Candidate C) → Type 0
  ExtendsTrack r v i o = (p : ℕ) → r ≡ suc p → v < 16 → i < width k → ((tables_of c k).track p i).pose.0 < 16 → o ≡ candidate_at c (tables_of c k) k.limits p v i

  -- o is the last rank at pose v of rung r, where the successor of its front has yet to be entered
  abbrev pub IsPending : ℕ → ℕ → Option (Ranked C) → Type 0
  IsPending r v o = v < 16 → Readable (width k) (tables_of c k) r v → o ≡ pending_at (tables_of c k) r v

  -- b tells whether the track after the one that a back-pointer into rung p means is found
  abbrev pub IsFollowed : ℕ → Back → Bool → Type 0
  IsFollowed p back b = back.pose.0 < 16 → b ≡ nat_lt (back.rank.0 + 1) ((tables_of c k).station p back.pose.0).found

  -- o is the pose of the rung before that has to be advanced before pose v of rung r
  abbrev pub IsNeeded : ℕ → ℕ → Option PoseNumber → Type 0
  IsNeeded r v o = v < 16 → Readable (width k) (tables_of c k) r v → o ≡ needed_at (tables_of c k) r v

  -- path leads from pose v of rung r down to rung low, where nothing has to be found on the rung before
  abbrev pub Descends : ℕ → PoseNumber → List PoseNumber → ℕ → Type 0
  Descends r v path low = v.0 < (tables_of c k).size r → Backed (width k) (tables_of c k) r → PathDown (tables_of c k) r v path low × (needed_at (tables_of c k) low (path_at path low).0 ≡ None)

module _ {C P : Type 0} (c : Rules C P) (k m : Core C) where
  -- pose v of rung r is written
  abbrev pub PutsStation : ℕ → ℕ → Station → Type 0
  PutsStation r v s = v < 16 → StationPut (width k) (tables_of c k) (tables_of c m) r v s

  -- place i of rung r's block is written
  abbrev pub PutsTrack : ℕ → ℕ → Ranked C → Type 0
  PutsTrack r i e = i < width k → TrackPut (width k) (tables_of c k) (tables_of c m) r i e

  -- candidate x waits at pose v of rung r
  abbrev pub LetsWait : ℕ → ℕ → Candidate C → Type 0
  LetsWait r v x = v < 16 → ((tables_of c k).station r v).waiting < 16 → Entered c (width k) (tables_of c k) (tables_of c m) r v x

  -- the track at place i of the rung before is entered as a candidate at pose v of rung r
  abbrev pub EntersTrack : ℕ → ℕ → ℕ → Type 0
  EntersTrack r v i = (p : ℕ) → r ≡ suc p → v < 16 → ((tables_of c k).station r v).waiting < 16 → i < width k → ((tables_of c k).track p i).pose.0 < 16 → Enters c (width k) (tables_of c k) (tables_of c m) k.limits p v i

  -- the last rank at a pose of rung r, whose station is s, is linked to place i
  abbrev pub LinksLast : ℕ → Station → ℕ → Type 0
  LinksLast r s i = (0 < s.found → s.last.0 < width k) → Links (width k) (tables_of c k) (tables_of c m) r s i

  -- the track that candidate x stands for is written as rank n at pose v of rung r, at place i
  abbrev pub RanksTrack : ℕ → ℕ → ℕ → Candidate C → ℕ → Type 0
  RanksTrack r v n x i = (i ≡ (tables_of c k).used r) × (i < width k → Ranks (width k) (tables_of c k) (tables_of c m) r (entry_of v n x i))

  -- the track that candidate x stands for is appended at pose v of rung r, whose station is s
  abbrev pub AppendsTrack : ℕ → ℕ → Station → Candidate C → Type 0
  AppendsTrack r v s x = v < 16 → OneMore (width k) (tables_of c k) r s → Appends (width k) (tables_of c k) (tables_of c m) r v s x

  -- the least candidate at pose v of rung r is drawn as its next rank
  abbrev pub DrawsLeast : ℕ → ℕ → Type 0
  DrawsLeast r v = v < 16 → ((tables_of c k).station r v).waiting ≤ 16 → OneMore (width k) (tables_of c k) r ((tables_of c k).station r v) → Draws c (width k) (tables_of c k) (tables_of c m) r v

  -- the successor of the front of track e is entered at pose v of rung r, if it is found
  abbrev pub EntersSuccessor : ℕ → ℕ → Ranked C → Type 0
  EntersSuccessor r v e = (p : ℕ) → r ≡ suc p → v < 16 → Some e ≡ pending_at (tables_of c k) r v → Readable (width k) (tables_of c k) r v → Steady (width k) (tables_of c k) p v → EntersPending c k.limits (width k) (tables_of c k) (tables_of c m) p v

  -- the next rank at pose v of rung r is found
  abbrev pub AdvancesPose : ℕ → ℕ → Type 0
  AdvancesPose r v = v < 16 → Readable (width k) (tables_of c k) r v → Advanceable (width k) (tables_of c k) r v → Advanced c k.limits (width k) (tables_of c k) (tables_of c m) r v
