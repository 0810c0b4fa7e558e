use Rattle.std.proofs.Common.{true, sym}
use Rattle.std.proofs.Math.Logic.{∥∥₁_map}
use Rattle.std.proofs.lemmas.Bool.{false≢true}
use Rattle.book.proofs.Replies.{closing_done}
use Rattle.resolver.specs.Sound.{Sound}
use Rattle.resolver.specs.Standing.{book}
use Rattle.resolver.proofs.Rungs.{many}
use Rattle.resolver.proofs.held.Resolver.close.Goals as goal

pub returns-clause-outcome : goal.returns-clause-outcome
returns-clause-outcome g c =
    let k = c.args.self.now.core in
    closing_done (book k) c.if-self.false k.rungs (many k)

pub returns-clause-sound : goal.returns-clause-sound
returns-clause-sound g c = λ s. record { rungs = s.rungs; blocks = s.blocks; ranks = s.ranks; untaken = λ e. absurd (false≢true (sym e)); heads = s.heads }

pub invariant_of-self : goal.invariant_of-self
invariant_of-self g c =
    let k = c.args.self.now.core in
    let sound = ∥∥₁_map {B = Sound g.C.Cost.rules (record k { closed = true })} c.args.self.now.sound
    (λ s. record { rungs = s.rungs; blocks = s.blocks; ranks = s.ranks; untaken = λ e. absurd (false≢true (sym e)); heads = s.heads }) in
    ((k.shoulder, (k.elbow, (k.limited, (k.rationed, (k.held, (k.drawn, (k.stations_fit, (k.ranked_fit, (k.candidates_fit, (k.wide, tt)))))))))), (sound, tt))
