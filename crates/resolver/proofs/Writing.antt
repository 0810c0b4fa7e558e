-- Writing the steps of a track from the last to the first. Assumes nothing.
use Rattle.std.proofs.Common.{◌≡◌, ℕ, zero, suc, ◌-◌, ◌<◌, ◌≤◌, List, set, sym, ap, ◌∙◌, subst, arith}
use Rattle.ladder.specs.declared.poses.Step.{Step}
use Rattle.ladder.specs.declared.poses.Limits.{Limits}
use Rattle.ladder.specs.Rules.{Rules, Lawful}
use Rattle.ladder.specs.Tracks.{Bounded}
use Rattle.enumeration.specs.Tables.{Tables}
use Rattle.enumeration.specs.Sound.{RungsSound}
use Rattle.enumeration.proofs.Reading.{read_onto, read_one, step_in, front_used}

-- one step is written
pub step_back : {C : Type 0} (t : Tables C) (i at f : ℕ) (out : List Step) (s : Step) → 0 < i → s ≡ step_in t (i - 1) at → f ≡ (t.track (i - 1) at).front.0 → read_onto t (i - 1) f (set out (i - 1) s) ≡ read_onto t i at out
step_back t zero at f out s h e g = absurd (let no_way : ⊥ = omega arith in no_way)
step_back t (suc j) at f out s h e g =
    let is : suc j - 1 ≡ j = omega arith in
    ap (λ x. read_onto t (suc j - 1) f (set out (suc j - 1) x)) e
    ∙ ap (λ x. read_onto t (suc j - 1) x (set out (suc j - 1) (step_in t (suc j - 1) at))) g
    ∙ ap (λ x. read_onto t x (t.track x at).front.0 (set out x (step_in t x at))) is
    ∙ sym (read_one t j at out)

-- the place of the front is in use
pub next_in_use : {C P : Type 0} (c : Rules C P) (laws : Lawful c) (l : Limits) (b : Bounded l) (t : Tables C) (n : ℕ) → RungsSound c l t n → (i at f : ℕ) → i ≤ n → at < t.used (i - 1) → f ≡ (t.track (i - 1) at).front.0 → (j : ℕ) → suc j ≡ i - 1 → f < t.used j
next_in_use c laws l b t n s i at f le u g j e =
    subst (λ x. x < t.used j) (sym (g ∙ ap (λ x. (t.track x at).front.0) (sym e))) (front_used c laws l b t n s j at (omega arith) (subst (λ x. at < t.used x) (sym e) u))
