-- The poses of an arm of two links that reach a position. Assumes nothing.
use Rattle.std.specs.Prelude.{ℕ, ◌+◌, ◌*◌, Bool, ◌&&◌, List, map, ℤ, pos, ◌+ℤ◌, ◌-ℤ◌, ◌*ℤ◌, filter, nat_le, unsigned_abs}
use Rattle.std.specs.List.{flat_map, range_with_len}
use Rattle.ladder.specs.declared.poses.Pose.{Pose}
use Rattle.job.specs.declared.values.Arm.{Arm}
use Rattle.job.specs.declared.values.Position.{Position}
use Rattle.sources.specs.Directions.{sine, cosine}

-- how far a coordinate of the arm's end is off x, times 10,000: p and q are those of its links' directions
abbrev pub off : Arm → ℤ → ℤ → ℤ → ℕ
off a p q x = unsigned_abs ((pos a.first *ℤ p +ℤ pos a.second *ℤ q) -ℤ pos 10000 *ℤ x)

-- by at most the window's half side
abbrev pub near : Arm → ℤ → ℤ → ℤ → Bool
near a p q x = nat_le (off a p q x) (10000 * a.window)

-- shoulder s and elbow e reach the position: the second link points s + e detents round
abbrev pub reaching_pose : Arm → Position → ℕ → ℕ → Bool
reaching_pose a at s e = near a (cosine s) (cosine (s + e)) at.x && near a (sine s) (sine (s + e)) at.y

-- the pose with shoulder s and elbow e
abbrev pub pose : ℕ → ℕ → Pose
pose s e = record { shoulder = pos s; elbow = pos e }

-- the poses with shoulder s and an elbow below n that reach, by rising elbow
unfoldable pub row : Arm → Position → ℕ → ℕ → List Pose
row a at s n = map (pose s) (filter (reaching_pose a at s) (range_with_len 0 n))

-- those with a shoulder below n, by rising shoulder
unfoldable pub rows : Arm → Position → ℕ → List Pose
rows a at n = flat_map (λ s. row a at s 64) (range_with_len 0 n)

-- all that reach: shoulders and elbows go from 0 to 63
abbrev pub reaching : Arm → Position → List Pose
reaching a at = rows a at 64
