use Rattle.std.proofs.Common.{◌/◌, length, sym, ap, ◌∙◌}
use Rattle.job.proofs.Basics.{length_poses}
use Rattle.job.proofs.jobs.Job.pose_count.Goals as goal

pub returns : goal.returns
returns c = sym (length_poses c.list.result.now 0 (length c.list.result.now / 4)) ∙ ap length c.list.ensures
