-- The weighted sum is lawful, and keeps. Assumes nothing.
use Rattle.std.proofs.Common.{refl, arith}
use Rattle.std.specs.Prelude.{ℕ, ◌+◌, ◌*◌, ◌≤◌}
use Rattle.ladder.specs.Rules.{Lawful, Keeps, Reached}
use Rattle.ladder.specs.Laws.{adding_lawful, adding_small, adding_keeps}
use Rattle.weighted.specs.declared.Weighted.{Weighted}
use Rattle.weighted.specs.Weighing.{weighing}

pub weighing_lawful : Lawful weighing
weighing_lawful = adding_lawful (λ v. v.total) (λ n. record { total = n }) (λ m. 3 * m.shoulder + m.elbow) 83 (λ n. refl) (λ v w e. λ i. record { total = e i })

pub small : (n : ℕ) (v : Weighted) → Reached weighing n v → v.total ≤ 262140 * n
small = adding_small (λ v. v.total) (λ n. record { total = n }) (λ m. 3 * m.shoulder + m.elbow) 83 (λ n. refl) 262140 (λ m s. omega (arith, s.0, s.1))

pub weighing_keeps : Keeps weighing
weighing_keeps = adding_keeps (λ v. v.total) (λ n. record { total = n }) (λ m. 3 * m.shoulder + m.elbow) 83 (λ n. refl) 262140 (λ m s. omega (arith, s.0, s.1)) (omega arith)
