use Rattle.std.proofs.Common.{◌≡◌, ℕ, suc, ◌<◌, ◌≤◌}
use Rattle.enumeration.specs.Sound.{RungsSound}
use Rattle.enumeration.proofs.Reading.{read_onto}
use Rattle.resolver.specs.Tables.{tables_of, width}
use Rattle.resolver.proofs.tables.Core.write.Given as goal

abbrev pub invariant-loop-i : goal.invariant-loop-i
invariant-loop-i g l =
    let t = tables_of g.C.Cost.rules l.self in
    (n : ℕ) → l.r < n → RungsSound g.C.Cost.rules l.self.limits t n → ((q : ℕ) → q < n → t.used q ≤ width l.self) → l.initial.place.0 < t.used l.r
    → ((j : ℕ) → suc j ≡ l.i → l.place.0 < t.used j) × (read_onto t l.i l.place.0 l.out ≡ read_onto t (suc l.r) l.initial.place.0 l.initial.out)
