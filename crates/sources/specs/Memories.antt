-- When what an arm's source remembers is right. Assumes nothing.
use Rattle.std.specs.Prelude.{Some, None, Option}
use Rattle.job.specs.Resolved.{Resolved}
use Rattle.sources.specs.declared.arms.Memory.{Memory}
use Rattle.sources.specs.Files.{armed_in}
use Rattle.sources.specs.Pages.{page_of}

-- what is remembered, if anything, as it should be: the page of its waypoint's list
abbrev pub recalled : Option Resolved → Option Memory → Option Memory
recalled values None = None
recalled values (Some m) = Some (record { waypoint = m.waypoint; page = page_of m.page.from (armed_in values m.waypoint) })
