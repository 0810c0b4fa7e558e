use Rattle.std.proofs.Common.{arith}
use Rattle.std.proofs.Math.Logic.{∥∥₁_elim, ∥∥₁_map}
use Rattle.ladder.specs.Listed.{tracks_of}
use Rattle.book.proofs.Replies.{next_spent, nexting_refused}
use Rattle.resolver.specs.Standing.{book}
use Rattle.resolver.proofs.Rungs.{many}
use Rattle.resolver.proofs.Books.{next_done}
use Rattle.resolver.proofs.Codes.{one_outcome}
use Rattle.resolver.proofs.held.Resolver.take.Goals as goal

pub returns-then-self-clause-outcome : goal.returns-then-self-clause-outcome
returns-then-self-clause-outcome g c =
    let k = c.args.self.now.core in
    let rules = g.C.Cost.rules in
    let ts = tracks_of rules k.limits (book k).rungs in
    let out = c.args.out.now in
    let l = many k in
    nexting_refused rules (book k) ts out 9 (next_spent rules (book k) ts out c.requires.closed (omega (arith, l, c.requires.out)) (omega (arith, c.if-self.true)))

pub returns-clause-outcome : goal.returns-clause-outcome
returns-clause-outcome g c =
    ∥∥₁_elim c.args.self.now.sound (one_outcome g.row.C.coded _ _) (λ s.
    let t = c.take_next.ensures in
    let f = t.effect s c.requires.closed in
    rw c.ok_or.ensures.value (next_done g.C.Cost.rules g.met.C.Cost.lawful c.args.self.now.core c.take_next.new.self t.kept c.args.out.now c.take_next.new.out c.take_next.result c.requires.closed c.requires.out (omega (arith, c.if-self.false)) f.1 f.2))

pub returns-clause-sound : goal.returns-clause-sound
returns-clause-sound g c = λ s. (c.take_next.ensures.effect s c.requires.closed).0

pub invariant_of-self : goal.invariant_of-self
invariant_of-self g c = record { sound = ∥∥₁_map c.args.self.now.sound (λ s. (c.take_next.ensures.effect s c.requires.closed).0) }
