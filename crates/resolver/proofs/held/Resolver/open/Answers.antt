use Rattle.std.proofs.Common.{sym, refl, arith}
use Rattle.resolver.specs.Standing.{ladder_in}
use Rattle.resolver.proofs.Books.{open_sound, zeros}
use Rattle.resolver.proofs.Chains.{keeps_promise}
use Rattle.resolver.proofs.held.Resolver.open.Goals as goal

pub invariant_of-result : goal.invariant_of-result
invariant_of-result g c = record { sound = ∣ open_sound g.C.Cost.rules _ refl refl refl refl (λ v. zeros 16 v) ∣₁ }

pub returns : goal.returns
unfolding ladder_in
returns g c =
    let opens = sym c.fitted-setup.ensures.opens in
    record {
      sound = open_sound g.C.Cost.rules _ refl refl refl refl (λ v. zeros 16 v);
      opens = opens;
      promise = keeps_promise g.C.Cost.rules g.met.C.Cost.lawful _ _ (record { bounded = (omega arith, omega arith); limited = c.fitted-setup.ensures.roomy.limited; no_rung = refl; untaken = refl }) opens;
    }
