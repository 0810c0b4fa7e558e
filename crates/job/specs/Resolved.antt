-- The values that a job works with.
use Rattle.std.specs.Prelude.{ℕ, List, [], ◌∷◌, pos, Option}
use Rattle.std.specs.Option.{unwrap_or, option_map, option_flatten}
use Rattle.std.specs.List.{slice_get}
use Rattle.ladder.specs.declared.poses.Limits.{Limits}
use Rattle.job.specs.declared.values.Arm.{Arm}
use Rattle.ladder.specs.declared.poses.Pose.{Pose}
use Rattle.job.specs.declared.values.Position.{Position}
use Rattle.job.specs.Contents.{Entry, Contents}
use Rattle.job.specs.Reading.{job_of}

-- The step limits: 65,535 each where none are written.
abbrev pub limits_of : Contents → Limits
limits_of j = unwrap_or j.head.limits (record { shoulder = 65535; elbow = 65535 })

-- The ration: 4,096 where none is written.
abbrev pub ration_of : Contents → ℕ
ration_of j = unwrap_or j.head.ration 4096

-- A record's position, where p is that of the record before: what is not written stays.
abbrev pub placed : Position → Entry → Position
placed p e = record { x = unwrap_or e.x p.x; y = unwrap_or e.y p.y }

-- A waypoint: where it lies, and its pose list, which is empty where none is written.
pub record Waypoint : Type 0 where
  pub position : Position
  pub poses : List Pose

-- The waypoint of a record that follows one at position p.
abbrev pub waypoint : Position → Entry → Waypoint
waypoint p e = record { position = placed p e; poses = unwrap_or e.poses [] }

-- The waypoints of records that follow one at position p.
abbrev pub waypoints : Position → List Entry → List Waypoint
waypoints p [] = []
waypoints p (e ∷ l) = waypoint p e ∷ waypoints (placed p e) l

-- The position before the first record.
abbrev pub origin : Position
origin = record { x = pos 0; y = pos 0 }

-- The waypoints of a job; before the first record the position is (0,0).
abbrev pub waypoints_of : Contents → List Waypoint
waypoints_of j = waypoints origin j.records

-- All of them together.
pub record Resolved : Type 0 where
  pub limits : Limits
  pub arm : Option Arm
  pub ration : ℕ
  pub waypoints : List Waypoint

-- The values of a job.
abbrev pub resolved : Contents → Resolved
resolved j = record { limits = limits_of j; arm = j.head.arm; ration = ration_of j; waypoints = waypoints_of j }

-- Where waypoint w lies; none where there is no such record.
abbrev pub position_in : Resolved → ℕ → Option Position
position_in r w = option_map (λ v. v.position) (slice_get r.waypoints w)

-- The pose list of waypoint w; empty where there is no such record.
abbrev pub poses_in : Resolved → ℕ → List Pose
poses_in r w = unwrap_or (option_map (λ v. v.poses) (slice_get r.waypoints w)) []

-- The values that a file's job works with; none where the file is refused.
abbrev pub values_of : List ℕ → Option Resolved
values_of s = option_map resolved (job_of s)

-- The arm's numbers in a file; none where they are not written or the file is refused.
abbrev pub arm_of : List ℕ → Option Arm
arm_of s = option_flatten (option_map (λ r. r.arm) (values_of s))

-- Where waypoint w of a file lies; none where there is no such record or the file is refused.
abbrev pub position_of : List ℕ → ℕ → Option Position
position_of s w = option_flatten (option_map (λ r. position_in r w) (values_of s))

-- The pose list of waypoint w of a file; empty where there is none or the file is refused.
abbrev pub poses_of : List ℕ → ℕ → List Pose
poses_of s w = unwrap_or (option_map (λ r. poses_in r w) (values_of s)) []
