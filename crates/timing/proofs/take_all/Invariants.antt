use Rattle.std.proofs.Common.{◌-◌}
use Rattle.timing.proofs.take_all.Given as goal

-- how many tracks can still be taken
abbrev pub decreases-loop-taken : goal.decreases-loop-taken
decreases-loop-taken l = l.resolver.core.ration - l.resolver.core.taken
