-- What the tables of a resolver stand for: of each pose the first tracks by rank, and the candidates for the next. Assumes nothing.
use Rattle.std.specs.Prelude.{◌≡◌, ℕ, zero, suc, ◌+◌, ◌<◌, ◌≤◌, true, false, if◌then◌else◌, List, [], ◌∷◌, length, take, slice_index_or}
use Rattle.std.specs.List.{AllByRecursion}
use Rattle.ladder.specs.declared.poses.Limits.{Limits}
use Rattle.ladder.specs.Rules.{Rules}
use Rattle.ladder.specs.Tracks.{Track, cost}
use Rattle.ladder.specs.Ranking.{ending}
use Rattle.enumeration.specs.declared.records.Ranked.{Ranked}
use Rattle.enumeration.specs.declared.records.Back.{Back}
use Rattle.enumeration.specs.Tables.{Tables, poses, ladder}
use Rattle.enumeration.specs.Waits.{FoundSoFar, only_at, nowhere}

module _ {C : Type 0} (t : Tables C) where
  -- the track of rank n at pose v of rung r lies at place i of the rung's block
  pub record Lies (r v n i : ℕ) : Type 0 where
    pub in_use : i < t.used r
    pub of_pose : (t.track r i).pose.0 ≡ v
    pub of_rank : (t.track r i).rank.0 ≡ n

  -- what the last found track at pose v of rung r extends
  abbrev pub last_back : ℕ → ℕ → Back
  last_back r v = (t.track r (t.station r v).last.0).back

  -- 1 at the pose whose next track has yet to be entered at pose v of rung r, if there is one
  abbrev pub due_at : ℕ → ℕ → ℕ → ℕ
  due_at r v = if (t.station r v).pending then only_at (last_back r v).pose.0 else nowhere

module _ {C P : Type 0} (c : Rules C P) (l : Limits) (t : Tables C) where
  -- the tracks of the first r + 1 rungs that end at pose v, by rank
  abbrev pub ends : ℕ → ℕ → List Track
  ends r v = ending c l (ladder t (suc r)) v

  -- what a track of rung r extends, and where that lies; on the first rung it extends nothing
  abbrev pub Extends : ℕ → Ranked C → Type 0
  Extends zero e = Unit {0}
  Extends (suc p) e =
      Lies t p e.back.pose.0 e.back.rank.0 e.front.0
      × (slice_index_or (ends (suc p) e.pose.0) e.rank.0 [] ≡ e.pose.0 ∷ slice_index_or (ends p e.back.pose.0) e.back.rank.0 [])

  -- place i of rung r holds the track of its rank at its pose, with its cost and what it extends, and leads to the next rank once that is found
  pub record Holds (r i : ℕ) : Type 0 where
    pub numbered : (t.track r i).pose.0 < t.size r
    pub found : (t.track r i).rank.0 < (t.station r (t.track r i).pose.0).found
    pub costs : (t.track r i).cost ≡ cost c (ladder t (suc r)) (slice_index_or (ends r (t.track r i).pose.0) (t.track r i).rank.0 [])
    pub extends : Extends r (t.track r i)
    pub after : (t.track r i).rank.0 + 1 < (t.station r (t.track r i).pose.0).found → Lies t r (t.track r i).pose.0 ((t.track r i).rank.0 + 1) (t.track r i).after.0

  -- the candidates of pose v of rung p + 1, where the extensions of the first `used u` tracks at each pose u of rung p are found
  pub record CandidatesSound (p v : ℕ) (used : ℕ → ℕ) : Type 0 where
    pub so_far : FoundSoFar c l (poses t (suc p)) (poses t p) (ladder t p) v (t.station (suc p) v).found used (due_at t (suc p) v) (t.slots (suc p) v) (t.station (suc p) v).waiting
    pub lie : AllByRecursion (λ x. Lies t p x.back.pose.0 x.back.rank.0 x.place.0) (take (t.station (suc p) v).waiting (t.slots (suc p) v))
    pub room : (t.station (suc p) v).waiting + (if (t.station (suc p) v).pending then 1 else 0) ≤ t.size p
    pub pending : (t.station (suc p) v).pending ≡ true → (0 < (t.station (suc p) v).found) × (used (last_back t (suc p) v).pose.0 ≡ (last_back t (suc p) v).rank.0 + 1)
    pub settled : (t.station (suc p) v).pending ≡ false → length (ends (suc p) v) ≤ (t.station (suc p) v).found

  -- on the first rung each pose has its one track; above it the candidates are sound
  abbrev pub Sourced : ℕ → ℕ → Type 0
  Sourced zero v = ((t.station zero v).found ≡ 1) × ((t.station zero v).pending ≡ false)
  Sourced (suc p) v = (used : ℕ → ℕ) × CandidatesSound p v used

  -- pose v of rung r: its first `found` tracks are found, and the last of them lies where it should
  pub record PoseSound (r v : ℕ) : Type 0 where
    pub some : (t.station r v).found ≤ length (ends r v)
    pub last : (n : ℕ) → suc n ≡ (t.station r v).found → Lies t r v n (t.station r v).last.0
    pub sourced : Sourced r v

  -- rung r: one to sixteen poses, each sound, and a block of which each place in use holds a track, no two the same
  pub record RungSound (r : ℕ) : Type 0 where
    pub some : 1 ≤ t.size r
    pub few : t.size r ≤ 16
    pub poses : (v : ℕ) → v < t.size r → PoseSound r v
    pub places : (i : ℕ) → i < t.used r → Holds r i
    pub once : (i j : ℕ) → i < t.used r → j < t.used r → (t.track r i).pose.0 ≡ (t.track r j).pose.0 → (t.track r i).rank.0 ≡ (t.track r j).rank.0 → i ≡ j

  -- the first n rungs are sound
  abbrev pub RungsSound : ℕ → Type 0
  RungsSound n = (r : ℕ) → r < n → RungSound r
