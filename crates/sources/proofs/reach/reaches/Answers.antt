use Rattle.std.proofs.Common.{◌≡◌, ◌+◌, ◌&&◌, ℤ, sym, refl, ap, ◌∙◌, w16, w32, SFits, to_z, of_z, rules}
use Rattle.std.proofs.lemmas.Int.{to_z-of_z}
use Rattle.job.specs.declared.values.Arm.{Arm}
use Rattle.sources.specs.Directions.{cosine, sine}
use Rattle.sources.specs.Reach.{near}
use Rattle.sources.proofs.reach.reaches.Goals as goal

-- the casts on the way into a test of nearness change nothing, and p and q are p' and q'
pub near_cast : (a : Arm) (p q p' q' x : ℤ) → SFits w32 p → SFits w32 q → SFits w16 x → p ≡ p' → q ≡ q'
    → near a (to_z w32 (of_z w32 p)) (to_z w32 (of_z w32 q)) (to_z w16 (of_z w16 x)) ≡ near a p' q' x
near_cast a p q p' q' x p_fits q_fits x_fits e f = simp to_z-of_z (simp (e, f) refl)

pub returns-then-is_near : goal.returns-then-is_near
returns-then-is_near c =
    let a = c.args.arm in
    let s = c.args.s in
    let e = c.args.e in
    let across = near_cast a c.cosine_of.result c.cosine_of-2.result (cosine s) (cosine (s + e)) c.args.at.x (search rules) (search rules) (search rules) c.cosine_of.ensures c.cosine_of-2.ensures in
    let along = near_cast a c.sine_of.result c.sine_of-then-is_near.result (sine s) (sine (s + e)) c.args.at.y (search rules) (search rules) (search rules) c.sine_of.ensures c.sine_of-then-is_near.ensures in
    c.is_near-then-is_near.ensures ∙ along ∙ ap (λ b. b && near a (sine s) (sine (s + e)) c.args.at.y) (sym c.if-is_near.true ∙ c.is_near.ensures ∙ across)
