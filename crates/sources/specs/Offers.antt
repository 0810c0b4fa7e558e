-- The list of poses that an arm offers for a position, by its poses and their order. Assumes nothing.
use Rattle.std.specs.Prelude.{◌≡◌, ℕ, ◌+◌, ◌*◌, ◌<◌, ◌≤◌, ◌⊎◌, List, length, ◌<ℤ◌, slice_index_or}
use Rattle.std.specs.List.{Contains}
use Rattle.ladder.specs.declared.poses.Pose.{Pose}
use Rattle.job.specs.declared.values.Arm.{Arm}
use Rattle.job.specs.declared.values.Position.{Position}
use Rattle.sources.specs.Directions.{sine, cosine}
use Rattle.sources.specs.Reach.{off, pose}

-- shoulder s and elbow e bring the arm's end within the window around the position
pub record Reaches (a : Arm) (at : Position) (s e : ℕ) : Type 0 where
  pub shoulder : s < 64
  pub elbow : e < 64
  pub across : off a (cosine s) (cosine (s + e)) at.x ≤ 10000 * a.window
  pub along : off a (sine s) (sine (s + e)) at.y ≤ 10000 * a.window

-- the lower shoulder comes first, and the lower elbow where the shoulders are equal
abbrev pub Before : Pose → Pose → Type 0
Before p q = (p.shoulder <ℤ q.shoulder) ⊎ ((p.shoulder ≡ q.shoulder) × (p.elbow <ℤ q.elbow))

-- every pose that reaches and no other, in strictly rising order
pub record Offers (a : Arm) (at : Position) (ps : List Pose) : Type 0 where
  pub every : (s e : ℕ) → Reaches a at s e → Contains ps (pose s e)
  pub only : (p : Pose) → Contains ps p → (s : ℕ) × (e : ℕ) × (p ≡ pose s e) × Reaches a at s e
  pub rising : (i j : ℕ) (d : Pose) → i < j → j < length ps → Before (slice_index_or ps i d) (slice_index_or ps j d)

-- this leaves no choice of a list
abbrev pub OneList : Type 0
OneList = (a : Arm) (at : Position) (ps qs : List Pose) → Offers a at ps → Offers a at qs → ps ≡ qs
