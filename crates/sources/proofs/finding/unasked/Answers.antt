use Rattle.std.proofs.Common.{refl}
use Rattle.std.specs.Option.{option_map}
use Rattle.job.specs.Jobs.{view}
use Rattle.sources.specs.Files.{arm_in, place_in}
use Rattle.sources.proofs.Offered.{reached_offered}
use Rattle.sources.proofs.finding.unasked.Goals as goal

pub returns : goal.returns
returns c =
    let values = option_map view c.args.job in
    record { means = refl; offers = λ w. reached_offered (arm_in values) (place_in values w) }
