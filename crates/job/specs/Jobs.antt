-- What a job that was read stands for.
use Rattle.std.specs.Prelude.{map}
use Rattle.job.specs.declared.jobs.Job.{Job}
use Rattle.job.specs.Resolved.{Resolved}
use Rattle.job.specs.Rows.{row_v, in_use}

-- Its values: the rows in use are its waypoints.
abbrev pub view : Job → Resolved
view j = record { limits = j.limits; arm = j.arm; ration = j.ration; waypoints = map row_v (in_use j.table) }
