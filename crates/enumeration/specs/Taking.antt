-- Which found track is the next of the list, and what taking it changes. Assumes nothing.
use Rattle.std.specs.Prelude.{◌≡◌, ℕ, ◌+◌, ◌<◌, ◌≤◌, true, ◌⊎◌, length, IfSome, Some, None, Option, ◌≢◌}
use Rattle.std.specs.Ordering.{is_le, ordering_then, nat_cmp}
use Rattle.ladder.specs.declared.poses.Limits.{Limits}
use Rattle.ladder.specs.Rules.{Rules}
use Rattle.ladder.specs.Ranking.{GivenOut}
use Rattle.enumeration.specs.Tables.{Tables, poses, ladder}
use Rattle.enumeration.specs.Sound.{ends}

-- for the last rung r; `taken v` counts the tracks taken at pose v
module _ {C P : Type 0} (c : Rules C P) (l : Limits) (t : Tables C) (r : ℕ) (taken : ℕ → ℕ) where
  -- pose v is the one that was taken last, and its next track has not been looked for
  abbrev pub IsRecent : Option ℕ → ℕ → Type 0
  IsRecent None v = ⊥
  IsRecent (Some u) v = u ≡ v

  -- at most one found track at pose v is not taken; where there is none, it was taken last, or pose v has no further track
  pub record Head (recent : Option ℕ) (v : ℕ) : Type 0 where
    pub low : taken v ≤ (t.station r v).found
    pub high : (t.station r v).found ≤ taken v + 1
    pub spent : IsRecent recent v → taken v ≡ (t.station r v).found
    pub ended : taken v ≡ (t.station r v).found → (IsRecent recent v → ⊥) → length (ends c l t r v) ≤ (t.station r v).found

  -- the first n tracks of the list are taken: those counted at each pose
  pub record Heads (n : ℕ) (recent : Option ℕ) : Type 0 where
    pub given : GivenOut c l (poses t r) (ladder t r) n taken
    pub each : (v : ℕ) → v < t.size r → Head recent v
    pub inside : IfSome recent (λ v. v < t.size r)

  -- pose v has a found track that is not taken
  pub record Offers (v : ℕ) : Type 0 where
    pub numbered : v < t.size r
    pub some : taken v < (t.station r v).found

  -- the cost of the track found last at pose v
  abbrev pub last_cost : ℕ → C
  last_cost v = (t.track r (t.station r v).last.0).cost

  -- what pose v offers is at most what pose u offers: by cost, then by pose number
  abbrev pub AtMost : ℕ → ℕ → Type 0
  AtMost v u = is_le (ordering_then (c.compare (last_cost v) (last_cost u)) (nat_cmp v u)) ≡ true

  -- the best of what the poses below i offer
  abbrev pub BestBelow : ℕ → Option ℕ → Type 0
  BestBelow i None = (u : ℕ) → u < i → Offers u → ⊥
  BestBelow i (Some v) = (v < i) × Offers v × ((u : ℕ) → u < i → Offers u → AtMost v u)

-- from the tables t to the tables m, the next rank at pose v of rung r was looked for: it is found, or there is none; the other poses of the rung stay
pub record LookedFor {C P : Type 0} (c : Rules C P) (l : Limits) (t m : Tables C) (r v : ℕ) : Type 0 where
  pub others : (u : ℕ) → u < 16 → (u ≢ v) → m.station r u ≡ t.station r u
  pub found : ((m.station r v).found ≡ (t.station r v).found + 1) ⊎ (((m.station r v).found ≡ (t.station r v).found) × (length (ends c l t r v) ≤ (t.station r v).found))
