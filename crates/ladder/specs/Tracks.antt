-- Ladders, their tracks, and what a track costs. Assumes nothing.
-- A ladder's rungs and a track's pose numbers are held last first, since tracks are compared and extended at their last rung.
use Rattle.std.specs.Prelude.{◌≡◌, ℕ, ◌<◌, ◌≤◌, Bool, true, false, ◌&&◌, List, [], ◌∷◌, reverse, length, pos, nat_lt, slice_index_or}
use Rattle.ladder.specs.declared.poses.Pose.{Pose}
use Rattle.ladder.specs.declared.poses.Step.{Step}
use Rattle.ladder.specs.declared.poses.Turns.{Turns}
use Rattle.ladder.specs.declared.poses.Limits.{Limits}
use Rattle.ladder.specs.Moves.{turns, within}
use Rattle.ladder.specs.Rules.{Rules, joined}

-- a rung: the poses in which the arm can stand at one waypoint; a pose number is a place in it, from 0
abbrev pub Rung : Type 0
Rung = List Pose

-- a ladder: the rungs of the waypoints, that of the last waypoint first; moves exist only from one rung to the next
abbrev pub Ladder : Type 0
Ladder = List Rung

-- a track: one pose number for each rung, that of the last rung first
abbrev pub Track : Type 0
Track = List ℕ

-- limits that two 16-bit numbers can be
abbrev pub Bounded : Limits → Type 0
Bounded l = (l.shoulder ≤ 65535) × (l.elbow ≤ 65535)

-- what a pose number past the end of its rung reads as; no admissible track has one
abbrev pub origin : Pose
origin = record { shoulder = pos 0; elbow = pos 0 }

-- pose number j of a rung, with its pose
abbrev pub step_at : Rung → ℕ → Step
step_at r j = record { number = record { 0 = j }; pose = slice_index_or r j origin }

-- the steps of a track, the last first
abbrev pub steps_back : Ladder → Track → List Step
steps_back [] t = []
steps_back (r ∷ rs) [] = []
steps_back (r ∷ rs) (j ∷ t) = step_at r j ∷ steps_back rs t

-- the steps of a track in track order
abbrev pub steps : Ladder → Track → List Step
steps rs t = reverse (steps_back rs t)

-- the turns of the moves between neighbours of steps that are held last first; those of the last move stand first
abbrev pub moves : List Step → List Turns
moves [] = []
moves (p ∷ []) = []
moves (p ∷ q ∷ ps) = turns q.pose p.pose ∷ moves (q ∷ ps)

-- each move is within the limits
abbrev pub all_within : Limits → List Turns → Bool
all_within l [] = true
all_within l (m ∷ ms) = within l m && all_within l ms

-- there is one pose number for each rung, and the rung has it
abbrev pub in_range : Ladder → Track → Bool
in_range [] [] = true
in_range [] (j ∷ t) = false
in_range (r ∷ rs) [] = false
in_range (r ∷ rs) (j ∷ t) = nat_lt j (length r) && in_range rs t

-- an admissible track of a ladder: its moves are all within the limits; a ladder with no rung has none
pub record Admissible (l : Limits) (rs : Ladder) (t : Track) : Type 0 where
  pub some_rung : 0 < length rs
  pub numbered : in_range rs t ≡ true
  pub moved : all_within l (moves (steps_back rs t)) ≡ true

-- the cost of a track: zero on one rung, else zero joined with the prices of its moves, of which the last is joined last
abbrev pub cost : {V P : Type 0} → Rules V P → Ladder → Track → V
cost c rs t = joined c (moves (steps_back rs t))
