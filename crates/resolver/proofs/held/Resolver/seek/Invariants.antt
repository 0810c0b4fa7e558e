use Rattle.std.proofs.Common.{◌≡◌, ◌-◌, ◌≤◌, true, length}
use Rattle.book.specs.Book.{seeking}
use Rattle.resolver.specs.Sound.{Sound}
use Rattle.resolver.specs.Standing.{book}
use Rattle.resolver.proofs.held.Resolver.seek.Given as goal

-- what seeking comes to from here, it comes to from the start
abbrev pub invariant-loop-taken : goal.invariant-loop-taken
invariant-loop-taken g l =
    let c = g.C.Cost.rules in
    let f = g.F.Filter.passes l.initial.filter in
    (l.self.core.closed ≡ true) × (l.self.core.rungs ≤ length l.out) × (length l.out ≡ length l.initial.out) × (g.F.Filter.passes l.filter ≡ f)
    × (seeking c (book l.self.core) f l.out ≡ seeking c (book l.initial.self.core) f l.initial.out)
    × (Sound c l.initial.self.core → Sound c l.self.core)

abbrev pub decreases-loop-taken : goal.decreases-loop-taken
decreases-loop-taken g l = l.self.core.ration - l.self.core.taken
