-- What the sources and the filters of a script mean. Assumes nothing.
use Rattle.std.specs.Prelude.{ℕ, Bool, List, nat_le}
use Rattle.std.specs.Option.{option_map}
use Rattle.ladder.specs.declared.poses.Pose.{Pose}
use Rattle.ladder.specs.declared.poses.Step.{Step}
use Rattle.job.specs.Jobs.{view}
use Rattle.sources.specs.Files.{tabled_in}
use Rattle.sources.specs.Meant.{meant}
use Rattle.filters.specs.Envelopes.{keeps_within}
use Rattle.filters.specs.Turning.{turned_back}
use Rattle.scripts.specs.declared.kinds.Offers.{Offers}
use Rattle.scripts.specs.declared.kinds.Kind.{Kind}
use Rattle.scripts.specs.declared.kinds.Kind.TheVariants.{Listed, Reached}
use Rattle.scripts.specs.declared.kinds.Judge.{Judge}
use Rattle.scripts.specs.declared.kinds.Judge.TheVariants.{Within, Turns}

-- one of two, by the kind
abbrev pub picked : {X : Type 0} → Kind → X → X → X
picked Listed a b = a
picked Reached a b = b

-- the list of each waypoint
abbrev pub offered : Offers → ℕ → List Pose
offered s = picked s.kind (tabled_in (option_map view s.listed.job)) (meant s.reached)

-- the yes or no for each list of steps
abbrev pub judged : Judge → List Step → Bool
judged (Within e) = keeps_within e.shoulder e.elbow
judged (Turns c) = λ steps. nat_le (turned_back steps) c.limit
