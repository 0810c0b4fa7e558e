-- Adding a rung keeps what the tables stand for: its poses are written, then the first track at each is found, pose by pose. Assumes nothing.
use Rattle.std.specs.Prelude.{◌≡◌, ℕ, zero, suc, ◌<◌, ◌≤◌, false, if◌then◌else◌, MatchBool, ◌∷◌, length, take, ◌≢◌, nat_le, nat_lt, slice_index_or}
use Rattle.std.specs.List.{AllByRecursion}
use Rattle.ladder.specs.declared.poses.Pose.{Pose}
use Rattle.ladder.specs.declared.poses.Limits.{Limits}
use Rattle.ladder.specs.Rules.{Rules}
use Rattle.ladder.specs.Tracks.{Rung, Bounded, origin}
use Rattle.enumeration.specs.declared.records.Station.{Station}
use Rattle.enumeration.specs.declared.records.Candidate.{Candidate}
use Rattle.enumeration.specs.Tables.{Tables, poses, ladder}
use Rattle.enumeration.specs.Waits.{FoundSoFar, nowhere}
use Rattle.enumeration.specs.Sound.{Lies, Holds, PoseSound, RungsSound}
use Rattle.enumeration.specs.Changes.{Unchanged, Draws, Enters}
use Rattle.enumeration.specs.Writes.{Appends}

-- ---- what adding a rung writes; w is the width of a block

-- a pose where nothing waits and nothing is found
abbrev pub blank : Pose → Station
blank p = record { pose = p; waiting = 0; found = 0; last = record { 0 = 0 }; pending = false }

-- the poses ps are written as rung n, with an empty block; every other rung stays
pub record Placed {C : Type 0} (w : ℕ) (t m : Tables C) (n : ℕ) (ps : Rung) : Type 0 where
  pub sizes : (q : ℕ) → (q ≢ n) → m.size q ≡ t.size q
  pub stations : (q u : ℕ) → u < 16 → (q ≢ n) → m.station q u ≡ t.station q u
  pub slots : (q u : ℕ) → u < 16 → (q ≢ n) → m.slots q u ≡ t.slots q u
  pub tracks : (q i : ℕ) → i < w → (q ≢ n) → m.track q i ≡ t.track q i
  pub used : (q : ℕ) → (q ≢ n) → m.used q ≡ t.used q
  pub size : m.size n ≡ length ps
  pub new : (v : ℕ) → v < length ps → m.station n v ≡ blank (slice_index_or ps v origin)
  pub empty : m.used n ≡ 0

-- the one track at pose v of the first rung, as a candidate: it costs nothing, and extends nothing
abbrev pub start : {C P : Type 0} → Rules C P → ℕ → Candidate C
start c v = record { whole = c.zero; front = c.zero; back = record { pose = record { 0 = v }; rank = record { 0 = 0 } }; place = record { 0 = 0 } }

-- the one track at pose v of the first rung is found
abbrev pub Starts : {C P : Type 0} → Rules C P → ℕ → Tables C → Tables C → ℕ → Type 0
Starts c w t m v = Appends w t m 0 v (t.station 0 v) (start c v)

-- from t to m by k steps, the first of number a, each other of the next number
abbrev pub InTurn : {C : Type 0} → (ℕ → Tables C → Tables C → Type 0) → ℕ → ℕ → Tables C → Tables C → Type 0
InTurn step a zero t m = t ≡ m
InTurn {C} step a (suc k) t m = (s : Tables C) × step a t s × InTurn step (suc a) k s m

module _ {C P : Type 0} (c : Rules C P) (l : Limits) (w : ℕ) where
  -- the first track at pose u of rung p, if one is found, is entered as a candidate at pose v of rung p + 1
  abbrev pub EntersFirst : ℕ → ℕ → ℕ → Tables C → Tables C → Type 0
  EntersFirst p v u t m =
      MatchBool (nat_lt 0 (t.station p u).found) (Enters c w t m l p v (t.station p u).last.0) (Unchanged w t m)

  -- the first track at pose v of rung r is found: above the first rung, the first track of each pose before is entered, then the least is drawn
  abbrev pub Settles : ℕ → ℕ → Tables C → Tables C → Type 0
  Settles zero v t m = Starts c w t m v
  Settles (suc p) v t m = (s : Tables C) × InTurn (EntersFirst p v) 0 (t.size p) t s × Draws c w s m (suc p) v

  -- rung n is added, of the poses ps
  abbrev pub Adds : ℕ → Rung → Tables C → Tables C → Type 0
  Adds n ps t m = (s : Tables C) × Placed w t s n ps × InTurn (Settles n) 0 (length ps) s m

-- ---- what the tables stand for meanwhile

-- rung r before any track is taken: at most the first track of each pose is found, and at most one place of the block is in use for each pose
pub record Fresh {C : Type 0} (t : Tables C) (r : ℕ) : Type 0 where
  pub found : (v : ℕ) → v < t.size r → (t.station r v).found ≤ 1
  pub block : t.used r ≤ t.size r

-- 1 at pose u and at every pose after it
abbrev pub from_on : ℕ → ℕ → ℕ
from_on u x = if nat_le u x then 1 else 0

module _ {C P : Type 0} (c : Rules C P) (l : Limits) (t : Tables C) where
  -- the first n rungs are sound, as they are before any track is taken
  pub record Filled (n : ℕ) : Type 0 where
    pub sound : RungsSound c l t n
    pub fresh : (r : ℕ) → r < n → Fresh t r

  -- the rungs before rung r are filled; the first v poses of rung r are sound with at most one track found at each, and so is its block, of which at most v places are in use
  pub record PartFilled (r v : ℕ) : Type 0 where
    pub before : Filled r
    pub some : 1 ≤ t.size r
    pub few : t.size r ≤ 16
    pub upto : v ≤ t.size r
    pub poses : (u : ℕ) → u < v → PoseSound c l t r u
    pub found : (u : ℕ) → u < v → (t.station r u).found ≤ 1
    pub block : t.used r ≤ v
    pub places : (i : ℕ) → i < t.used r → Holds c l t r i
    pub once : (i j : ℕ) → i < t.used r → j < t.used r → (t.track r i).pose.0 ≡ (t.track r j).pose.0 → (t.track r i).rank.0 ≡ (t.track r j).rank.0 → i ≡ j

  -- rung r with its first v poses settled: the others are blank
  pub record Begun (r v : ℕ) : Type 0 where
    pub part : PartFilled r v
    pub blank_on : (u : ℕ) → v ≤ u → u < t.size r → t.station r u ≡ blank (t.station r u).pose

  -- rung p + 1 with its first v poses settled, while candidates are entered at pose v: those of the first u poses of rung p are, and nothing is found yet
  pub record Entering (p v u : ℕ) : Type 0 where
    pub part : PartFilled (suc p) v
    pub there : v < t.size (suc p)
    pub blank_on : (x : ℕ) → v < x → x < t.size (suc p) → t.station (suc p) x ≡ blank (t.station (suc p) x).pose
    pub none_found : (t.station (suc p) v).found ≡ 0
    pub none_pending : (t.station (suc p) v).pending ≡ false
    pub room : (t.station (suc p) v).waiting ≤ u
    pub so_far : FoundSoFar c l (poses t (suc p)) (poses t p) (ladder t p) v 0 nowhere (from_on u) (t.slots (suc p) v) (t.station (suc p) v).waiting
    pub lie : AllByRecursion (λ x. Lies t p x.back.pose.0 x.back.rank.0 x.place.0) (take (t.station (suc p) v).waiting (t.slots (suc p) v))

-- the first n rungs have the poses that they had
pub record SameLadder {C : Type 0} (t m : Tables C) (n : ℕ) : Type 0 where
  pub sizes : (r : ℕ) → r < n → m.size r ≡ t.size r
  pub rungs : ladder m n ≡ ladder t n

-- ---- the theorem

-- what each step of adding rung n leads to
pub record AddingSteps {C P : Type 0} (c : Rules C P) (l : Limits) (w n : ℕ) : Type 0 where
  pub placed : (ps : Rung) (t m : Tables C) → 1 ≤ length ps → length ps ≤ 16 → Filled c l t n → Placed w t m n ps → Begun c l m n 0 × (ladder m (suc n) ≡ ps ∷ ladder t n)
  pub started : (t m : Tables C) (v : ℕ) → n ≡ 0 → v < t.size n → Begun c l t n v → Starts c w t m v → Begun c l m n (suc v) × SameLadder t m (suc n)
  pub entering : (t : Tables C) (p v : ℕ) → n ≡ suc p → v < t.size n → Begun c l t n v → Entering c l t p v 0
  pub entered : (t m : Tables C) (p v u : ℕ) → n ≡ suc p → u < t.size p → Entering c l t p v u → EntersFirst c l w p v u t m → Entering c l m p v (suc u) × SameLadder t m (suc n)
  pub drawn : (t m : Tables C) (p v : ℕ) → n ≡ suc p → Entering c l t p v (t.size p) → Draws c w t m n v → Begun c l m n (suc v) × SameLadder t m (suc n)
  pub settled : (t m : Tables C) (v : ℕ) → v < t.size n → Begun c l t n v → Settles c l w n v t m → Begun c l m n (suc v) × SameLadder t m (suc n)
  pub filled : (t : Tables C) → Begun c l t n (t.size n) → Filled c l t (suc n)

-- a ladder of no rung is filled; adding a rung of one to sixteen poses to fewer than 128 filled rungs leaves one filled rung more, of those poses, and each step leads to the next
pub record AddingKeeps {C P : Type 0} (c : Rules C P) : Type 0 where
  pub none : (l : Limits) (t : Tables C) → Filled c l t 0
  pub adds : (l : Limits) → Bounded l → (w n : ℕ) → 16 ≤ w → n < 128 → (ps : Rung) → 1 ≤ length ps → length ps ≤ 16 → (t m : Tables C) → Filled c l t n → Adds c l w n ps t m → Filled c l m (suc n) × (ladder m (suc n) ≡ ps ∷ ladder t n)
  pub steps : (l : Limits) → Bounded l → (w n : ℕ) → 16 ≤ w → n < 128 → AddingSteps c l w n
