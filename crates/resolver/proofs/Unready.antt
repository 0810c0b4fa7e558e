-- What next and seeking come to where no track can be asked for. Assumes nothing.
use Rattle.std.proofs.Common.{◌≡◌, ◌<◌, List, length, sym, ap, ◌∙◌, inl, inr, arith}
use Rattle.ladder.specs.declared.poses.Step.{Step}
use Rattle.ladder.specs.Rules.{Rules}
use Rattle.ladder.specs.Listed.{tracks_of}
use Rattle.book.specs.Book.{Filter, refused, nexting, next_answer, seeking}
use Rattle.book.proofs.Replies.{next_open, next_short, nexting_refused}
use Rattle.book.proofs.Seeking.{seek_refused}
use Rattle.resolver.specs.declared.tables.Core.{Core}
use Rattle.resolver.specs.declared.answers.Refusal.{Refusal}
use Rattle.resolver.specs.Answers.{number}
use Rattle.resolver.specs.Calls.{Unready}
use Rattle.resolver.specs.Standing.{book}
use Rattle.resolver.proofs.Rungs.{many}

module _ {C P : Type 0} (c : Rules C P) (k : Core C) where
  -- the refusal due
  refusal_due : (out : List Step) (e : Refusal) → Unready k (length out) e → next_answer c (book k) (tracks_of c k.limits (book k).rungs) (length out) ≡ refused (number e)
  refusal_due out e (inl h) = next_open c (book k) (tracks_of c k.limits (book k).rungs) out h.1 ∙ ap (λ z. refused (number z)) (sym h.0)
  refusal_due out e (inr h) =
      let l : length (book k).rungs ≡ k.rungs = many k in
      let s : length out < k.rungs = h.2 in
      next_short c (book k) (tracks_of c k.limits (book k).rungs) out h.1 (omega arith) ∙ ap (λ z. refused (number z)) (sym h.0)

  pub next_unready : (out : List Step) (e : Refusal) → Unready k (length out) e → record { answer = refused (number e); output = out; book = book k } ≡ nexting c (book k) out
  next_unready out e h = nexting_refused c (book k) (tracks_of c k.limits (book k).rungs) out (number e) (refusal_due out e h)

  pub seek_unready : (f : Filter) (out : List Step) (e : Refusal) → Unready k (length out) e → record { answer = refused (number e); output = out; book = book k } ≡ seeking c (book k) f out
  seek_unready f out e h = next_unready out e h ∙ sym (seek_refused c (book k) (tracks_of c k.limits (book k).rungs) out f (number e) (refusal_due out e h))
