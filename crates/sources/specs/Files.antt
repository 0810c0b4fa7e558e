-- What the two sources of a job file mean. Assumes nothing.
use Rattle.std.specs.Prelude.{◌≡◌, ℕ, List, [], Some, None, Option}
use Rattle.std.specs.Option.{unwrap_or, option_map, option_flatten}
use Rattle.ladder.specs.declared.poses.Pose.{Pose}
use Rattle.job.specs.declared.values.Arm.{Arm}
use Rattle.job.specs.declared.values.Position.{Position}
use Rattle.job.specs.Resolved.{Resolved, position_in, poses_in, arm_of, position_of, poses_of}
use Rattle.sources.specs.declared.targets.Target.{Target}
use Rattle.sources.specs.Reach.{reaching}
use Rattle.sources.specs.Offers.{Offers}

-- tabled: the pose list of waypoint w, which is empty where the file has none
abbrev pub tabled : List ℕ → ℕ → List Pose
tabled file w = poses_of file w

-- the poses of an arm that reach a position; none without an arm or a position
abbrev pub reached : Option Arm → Option Position → List Pose
reached None at = []
reached (Some a) None = []
reached (Some a) (Some at) = reaching a at

-- the poses that reach a target; none where there is no target
abbrev pub reached_by : Option Target → List Pose
reached_by None = []
reached_by (Some t) = reaching t.arm t.at

-- by the arm: the poses of the file's arm that reach waypoint w
abbrev pub armed : List ℕ → ℕ → List Pose
armed file w = reached (arm_of file) (position_of file w)

-- tabled, from a job's values, of which a file that is refused has none
abbrev pub tabled_in : Option Resolved → ℕ → List Pose
tabled_in values w = unwrap_or (option_map (λ r. poses_in r w) values) []

-- the arm of a job's values
abbrev pub arm_in : Option Resolved → Option Arm
arm_in values = option_flatten (option_map (λ r. r.arm) values)

-- where waypoint w of a job's values lies
abbrev pub place_in : Option Resolved → ℕ → Option Position
place_in values w = option_flatten (option_map (λ r. position_in r w) values)

-- by the arm, from a job's values
abbrev pub armed_in : Option Resolved → ℕ → List Pose
armed_in values w = reached (arm_in values) (place_in values w)

-- a list holds what an arm offers for a position, and nothing without an arm or a position
abbrev pub Offered : Option Arm → Option Position → List Pose → Type 0
Offered None at ps = ps ≡ []
Offered (Some a) None ps = ps ≡ []
Offered (Some a) (Some at) ps = Offers a at ps

-- each waypoint of a file has what the file's arm offers for where it lies
abbrev pub OffersFor : List ℕ → (ℕ → List Pose) → Type 0
OffersFor file lists = (w : ℕ) → Offered (arm_of file) (position_of file w) (lists w)
