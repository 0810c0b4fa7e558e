use Rattle.std.proofs.Common.{◌≡◌, ◌+◌, ◌*◌, ◌≤◌, fold}
use Rattle.sources.specs.Reach.{row, rows}
use Rattle.sources.specs.Pages.{with_pose, page_of}
use Rattle.sources.proofs.targets.Target.page.Given as goal

-- the poses with the shoulders so far are on the page
abbrev pub invariant-loop-s : goal.invariant-loop-s
invariant-loop-s l = record {
  found : l.found ≡ page_of l.from (rows l.self.arm l.self.at l.s);
  few : l.found.count ≤ 64 * l.s;
}

-- and those with this shoulder and the elbows so far
abbrev pub invariant-loop-e : goal.invariant-loop-e
invariant-loop-e l = record {
  found : l.found ≡ fold with_pose l.initial.found (row l.self.arm l.self.at l.s l.e);
  few : l.found.count ≤ l.initial.found.count + l.e;
}
