use Rattle.std.proofs.Common.{sym, ◌∙◌, rules}
use Rattle.resolver.specs.Kept.{Same, settled}
use Rattle.resolver.proofs.Renewing.{renewed}
use Rattle.resolver.proofs.tables.Core.renew.Goals as goal

pub returns-in-Some-clause-effect : goal.returns-in-Some-clause-effect
returns-in-Some-clause-effect g c =
    let e = c.find_next.ensures in
    let same : Same (settled c.args.self.now) c.find_next.new.self = search rules in
    renewed g.C.Cost.rules c.args.self.now c.find_next.new.self same c.args.r c.in-Some.v (sym c.take.ensures.value ∙ c.in-Some.is) e.effect
