use Rattle.std.proofs.Common.{◌-◌}
use Rattle.listing.proofs.listings.list_tracks.Given as goal

-- how many tracks can still be taken
abbrev pub decreases-loop-taken : goal.decreases-loop-taken
decreases-loop-taken g l = l.resolver.core.ration - l.resolver.core.taken
