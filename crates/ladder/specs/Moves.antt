-- Moves from one pose to another. Assumes nothing.
use Rattle.std.specs.Prelude.{Bool, ◌&&◌, ◌-ℤ◌, nat_le, unsigned_abs}
use Rattle.ladder.specs.declared.poses.Pose.{Pose}
use Rattle.ladder.specs.declared.poses.Turns.{Turns}
use Rattle.ladder.specs.declared.poses.Limits.{Limits}

-- the turns of the move from pose p to pose q: the absolute differences of the counts, which do not wrap
abbrev pub turns : Pose → Pose → Turns
turns p q = record { shoulder = unsigned_abs (p.shoulder -ℤ q.shoulder); elbow = unsigned_abs (p.elbow -ℤ q.elbow) }

-- a move is admissible where both its turns are at most the limits
abbrev pub within : Limits → Turns → Bool
within l m = nat_le m.shoulder l.shoulder && nat_le m.elbow l.elbow
