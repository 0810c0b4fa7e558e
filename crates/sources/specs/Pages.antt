-- What a page of found poses keeps. Assumes nothing.
use Rattle.std.specs.Prelude.{◌≡◌, ℕ, ◌+◌, ◌-◌, ◌<◌, ◌≤◌, if◌then◌else◌, List, replicate, fold, nat_lt, slice_set}
use Rattle.ladder.specs.declared.poses.Pose.{Pose}
use Rattle.sources.specs.declared.pages.Page.{Page}
use Rattle.sources.specs.Reach.{pose}

-- nothing found
abbrev pub blank : ℕ → Page
blank from = record { from = from; count = 0; poses = replicate 16 (pose 0 0) }

-- one pose more: it is counted, and kept where its number is among the sixteen
abbrev pub with_pose : Page → Pose → Page
with_pose g p = record {
  from = g.from;
  count = g.count + 1;
  poses = if nat_lt g.count g.from then g.poses else slice_set g.poses (g.count - g.from) p;
}

-- the page of a list, which puts its poses one after the other
abbrev pub page_of : ℕ → List Pose → Page
page_of from ps = fold with_pose (blank from) ps

-- a page is that of a list
abbrev pub Shows : Page → List Pose → Type 0
Shows g ps = g ≡ page_of g.from ps

-- a number is one of the sixteen
pub record Covers (g : Page) (number : ℕ) : Type 0 where
  pub low : g.from ≤ number
  pub high : number < g.from + 16
