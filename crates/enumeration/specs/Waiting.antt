-- Candidates as the tables hold them. Assumes nothing.
use Rattle.std.specs.Prelude.{Bool, if◌then◌else◌, Some, None, Option}
use Rattle.std.specs.Ordering.{is_lt}
use Rattle.ladder.specs.declared.poses.Pose.{Pose}
use Rattle.ladder.specs.declared.poses.Limits.{Limits}
use Rattle.ladder.specs.Moves.{turns, within}
use Rattle.ladder.specs.Rules.{Rules}
use Rattle.ladder.specs.Ranking.{Candidate as Plain, by_candidate, CostsReached}
use Rattle.enumeration.specs.declared.records.Candidate.{Candidate}
use Rattle.enumeration.specs.declared.records.Ranked.{Ranked}
use Rattle.enumeration.specs.declared.records.Place.{Place}

-- a candidate without the place of its front
abbrev pub plain : {C : Type 0} → Candidate C → Plain C
plain x = record { whole = x.whole; front = x.front; pose = x.back.pose.0; rank_at = x.back.rank.0 }

module _ {C P : Type 0} (r : Rules C P) where
  -- both costs are reached, so that the candidate compares with others
  abbrev pub ReachedBoth : Candidate C → Type 0
  ReachedBoth x = CostsReached r (plain x)

  -- x comes before y: by cost, then by the cost of the front, then by its pose number, then by its rank
  abbrev pub earlier : Candidate C → Candidate C → Bool
  earlier x y = is_lt (by_candidate r (plain x) (plain y))

  -- the candidate at pose q that extends a track, which ends at pose p and lies at a place
  abbrev pub extension_of : Pose → Pose → Ranked C → Place → Candidate C
  extension_of p q e at = record { whole = r.join e.cost (r.price (turns p q)); front = e.cost; back = record { pose = e.pose; rank = e.rank }; place = at }

  -- the same, where the move is admissible
  abbrev pub extended : Limits → Pose → Pose → Ranked C → Place → Option (Candidate C)
  extended l p q e at = if within l (turns p q) then Some (extension_of p q e at) else None
