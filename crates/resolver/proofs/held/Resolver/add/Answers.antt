use Rattle.std.proofs.Common.{◌≡◌, ◌+◌, [], length, sym, ap, ◌∙◌, arith}
use Rattle.std.proofs.Math.Logic.{∥∥₁_elim, ∥∥₁_map}
use Rattle.book.specs.Book.{counted, with_rung}
use Rattle.book.proofs.Replies.{add_full, add_none, add_many, add_done, adding_refused, adding_done}
use Rattle.resolver.specs.Standing.{book}
use Rattle.resolver.proofs.Rungs.{many}
use Rattle.resolver.proofs.Books.{added}
use Rattle.resolver.proofs.Codes.{one_outcome}
use Rattle.resolver.proofs.held.Resolver.add.Goals as goal

pub returns-then-self-2-clause-outcome : goal.returns-then-self-2-clause-outcome
returns-then-self-2-clause-outcome g c =
    let k = c.args.self.now.core in
    let list = g.S.Source.meaning c.args.source.now c.args.waypoint in
    let l = many k in
    adding_refused (book k) list 4 (add_full (book k) list c.if-self.false (omega (arith, l, c.if-self-2.true)))

pub returns-then-n-eq0-clause-outcome : goal.returns-then-n-eq0-clause-outcome
returns-then-n-eq0-clause-outcome g c =
    let k = c.args.self.now.core in
    let list = g.S.Source.meaning c.args.source.now c.args.waypoint in
    let l = many k in
    adding_refused (book k) list 5 (add_none (book k) list c.if-self.false (omega (arith, l, c.if-self-2.false)) (sym c.count-n.ensures.value ∙ c.if-n-eq0.true))

pub returns-then-n-gt16-clause-outcome : goal.returns-then-n-gt16-clause-outcome
returns-then-n-gt16-clause-outcome g c =
    let k = c.args.self.now.core in
    let list = g.S.Source.meaning c.args.source.now c.args.waypoint in
    let l = many k in
    adding_refused (book k) list 6 (add_many (book k) list c.if-self.false (omega (arith, l, c.if-self-2.false)) (omega (arith, c.count-n.ensures.value, c.if-n-gt16.true)))

pub returns-clause-outcome : goal.returns-clause-outcome
returns-clause-outcome g c =
    let k = c.args.self.now.core in
    let m = c.append_from.new.self in
    let list = g.S.Source.meaning c.args.source.now c.args.waypoint in
    let l = many k in
    let n = c.count-n.ensures.value in
    let grown : c.append_from.result ≡ length (book k).rungs + 1 = omega (arith, l, c.append_from.ensures.count.0) in
    ∥∥₁_elim c.args.self.now.sound (one_outcome g.row.C.coded _ _) (λ s.
    let after : book m ≡ with_rung (book k) list = (added g.C.Cost.rules k m list c.append_from.ensures.grown s c.if-self.false (omega (arith, n, c.if-n-eq0.false)) (ap (λ f. f c.args.waypoint) c.count-n.ensures.same) c.append_from.ensures.effect).1 in
    (λ i. record { answer = counted (grown i); output = []; book = after i }) ∙ adding_done (book k) list (length (book k).rungs + 1) (add_done (book k) list c.if-self.false (omega (arith, l, c.if-self-2.false)) (omega (arith, n, c.if-n-eq0.false)) (omega (arith, n, c.if-n-gt16.false))))

pub returns-clause-sound : goal.returns-clause-sound
returns-clause-sound g c =
    let n = c.count-n.ensures.value in
    λ s. (added g.C.Cost.rules c.args.self.now.core c.append_from.new.self (g.S.Source.meaning c.args.source.now c.args.waypoint) c.append_from.ensures.grown s c.if-self.false (omega (arith, n, c.if-n-eq0.false)) (ap (λ f. f c.args.waypoint) c.count-n.ensures.same) c.append_from.ensures.effect).0

pub invariant_of-self : goal.invariant_of-self
invariant_of-self g c =
    let n = c.count-n.ensures.value in
    record { sound = ∥∥₁_map c.args.self.now.sound (λ s. (added g.C.Cost.rules c.args.self.now.core c.append_from.new.self (g.S.Source.meaning c.args.source.now c.args.waypoint) c.append_from.ensures.grown s c.if-self.false (omega (arith, n, c.if-n-eq0.false)) (ap (λ f. f c.args.waypoint) c.count-n.ensures.same) c.append_from.ensures.effect).0) }
