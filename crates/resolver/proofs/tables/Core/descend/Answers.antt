use Rattle.std.proofs.Common.{◌≡◌, suc, ◌+◌, ◌-◌, ◌<◌, Some, sym, ◌∙◌, subst, arith, length-set}
use Rattle.resolver.specs.Effects.{IsNeeded}
use Rattle.resolver.specs.Tables.{tables_of, width}
use Rattle.enumeration.specs.Writes.{PathDown, path_at, needed_at}
use Rattle.resolver.proofs.Descent.{backed_readable, path_goes_down}
use Rattle.resolver.proofs.tables.Core.descend.Goals as goal

pub loop-p-preserved : goal.loop-p-preserved
loop-p-preserved g c = λ numbered backed.
    let k = c.args.self.now in
    let t = tables_of g.C.Cost.rules k in
    let r = c.args.r in
    let at = c.loop-p.p in
    let path = c.loop-p.path in
    let down = c.loop-p.invariant numbered backed in
    let above : at ≡ suc (at - 1) = omega (arith, c.loop-p-test.true) in
    let back : at - 1 + 1 ≡ at = omega (arith, c.loop-p-test.true) in
    let pose = down.numbered at (omega arith) c.loop-p.auto.p in
    let few : (path_at path at).0 < 16 = omega (arith, pose, backed.few at c.loop-p.auto.p) in
    let needs = subst (λ z. IsNeeded g.C.Cost.rules k z (path_at path z).0 c.needed.result) back c.needed.ensures in
    let said = sym c.in-Some.is ∙ needs few (backed_readable (width k) t r at (path_at path at).0 backed c.loop-p.auto.p pose) in
    path_goes_down (width k) t r c.args.v path (at - 1) c.in-Some.u (omega (arith, c.loop-p.auto.path, length-set c.args.path.now r c.args.v, c.requires.path)) backed (omega (arith, c.loop-p.auto.p, above)) (subst (λ z. Some c.in-Some.u ≡ needed_at t z (path_at path z).0) above said) (subst (λ z. PathDown t r c.args.v path z) above down)
