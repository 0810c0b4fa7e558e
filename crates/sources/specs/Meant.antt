-- What an arm's source means. Assumes nothing.
use Rattle.std.specs.Prelude.{ℕ, List}
use Rattle.std.specs.Option.{option_map}
use Rattle.ladder.specs.declared.poses.Pose.{Pose}
use Rattle.job.specs.Jobs.{view}
use Rattle.sources.specs.declared.arms.Armed.{Armed}
use Rattle.sources.specs.Files.{armed_in}

-- the list of each waypoint, whatever is remembered
abbrev pub meant : Armed → ℕ → List Pose
meant s = armed_in (option_map view s.job)
