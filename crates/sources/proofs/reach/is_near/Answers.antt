use Rattle.std.proofs.Common.{◌≡◌, ◌^◌, ◌<◌, pos, ◌+ℤ◌, ◌-ℤ◌, ◌*ℤ◌, unsigned_abs, refl, arith, w16, w32, w64, SFits}
use Rattle.std.proofs.lemmas.Int.{ints, to_z-of_z}
use Rattle.sources.proofs.reach.is_near.Goals as goal

pub returns : goal.returns
returns c =
    let p = c.scaled.result in
    let q = c.scaled-2.result in
    let x = c.from.result in
    let p_small : unsigned_abs p < 2 ^ 48 = c.scaled.ensures.bound in
    let q_small : unsigned_abs q < 2 ^ 48 = c.scaled-2.ensures.bound in
    let first : SFits w32 c.args.first = c.ranges.first in
    let second : SFits w32 c.args.second = c.ranges.second in
    let wanted : SFits w16 c.args.x = c.ranges.x in
    let is : x ≡ c.args.x = simp to_z-of_z at c.from.ensures in
    let p_fits : SFits w64 p = omega (arith, ints) in
    let q_fits : SFits w64 q = omega (arith, ints) in
    let x_fits : SFits w64 x = omega (arith, ints) in
    let end_fits : SFits w64 (p +ℤ q) = omega (arith, ints) in
    let wanted_fits : SFits w64 (pos 10000 *ℤ x) = omega (arith, ints) in
    let d : c.abs_diff.result ≡ unsigned_abs ((p +ℤ q) -ℤ pos 10000 *ℤ x) = simp to_z-of_z at c.abs_diff.ensures in
    let e : p ≡ pos c.args.arm.first *ℤ c.args.first = simp to_z-of_z at c.scaled.ensures.value in
    let f : q ≡ pos c.args.arm.second *ℤ c.args.second = simp to_z-of_z at c.scaled-2.ensures.value in
    simp (d, e, f, is, c.from-2.ensures) refl
