-- Finding the next rank at a pose keeps what the tables stand for. Assumes nothing.
use Rattle.std.specs.Prelude.{◌≡◌, ℕ, zero, suc, ◌+◌, ◌<◌, ◌≤◌, true, MatchBool, ◌⊎◌, length, nat_lt}
use Rattle.ladder.specs.declared.poses.Limits.{Limits}
use Rattle.ladder.specs.Rules.{Rules}
use Rattle.ladder.specs.Tracks.{Bounded}
use Rattle.enumeration.specs.Tables.{Tables}
use Rattle.enumeration.specs.Sound.{ends, last_back, RungsSound}
use Rattle.enumeration.specs.Changes.{Elsewhere, Unchanged, Draws, Enters}

module _ {C P : Type 0} (c : Rules C P) (l : Limits) (t : Tables C) where
  -- the next rank at pose v of rung r can be found at once: the track that its pending successor extends is found, or does not exist
  abbrev pub Ready : ℕ → ℕ → Type 0
  Ready zero v = Unit {0}
  Ready (suc p) v =
      ((last_back t (suc p) v).rank.0 + 1 < (t.station p (last_back t (suc p) v).pose.0).found)
      ⊎ (length (ends c l t p (last_back t (suc p) v).pose.0) ≤ (last_back t (suc p) v).rank.0 + 1)

module _ {C P : Type 0} (c : Rules C P) (l : Limits) (w : ℕ) (t m : Tables C) where
  -- the pending successor at pose v of rung p + 1 is entered if the track that it extends is found: that one follows the front of the last found track
  abbrev pub EntersPending : ℕ → ℕ → Type 0
  EntersPending p v =
      MatchBool (nat_lt ((last_back t (suc p) v).rank.0 + 1) (t.station p (last_back t (suc p) v).pose.0).found)
      (Enters c w t m l p v (t.track p (t.track (suc p) (t.station (suc p) v).last.0).front.0).after.0)
      (Unchanged w t m)

  -- the next rank at pose v of rung r is found, or there is none
  pub record MovedOn (r v : ℕ) : Type 0 where
    pub elsewhere : Elsewhere w t m r v
    pub pose : (m.station r v).pose ≡ (t.station r v).pose
    pub block : m.used r ≤ t.used r + 1
    pub found : ((m.station r v).found ≡ (t.station r v).found + 1) ⊎ (((m.station r v).found ≡ (t.station r v).found) × (length (ends c l t r v) ≤ (t.station r v).found))

-- at a pose of a sound ladder of n rungs whose pending successor is ready, entering it and drawing the least candidate finds the next rank, and the ladder stays sound
abbrev pub Advances : {C P : Type 0} → Rules C P → Type 0
Advances {C} c =
    (l : Limits) → Bounded l → (n w : ℕ) → n ≤ 128 → (t k m : Tables C) → RungsSound c l t n → ((q : ℕ) → q < n → t.used q ≤ w) → (p v : ℕ) → suc p < n → v < t.size (suc p) → t.used (suc p) < w → (t.station (suc p) v).pending ≡ true → Ready c l t (suc p) v → EntersPending c l w t k p v → Draws c w k m (suc p) v → RungsSound c l m n × MovedOn c l w t m (suc p) v
