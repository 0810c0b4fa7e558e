-- Every run keeps what is promised. Assumes nothing.
use Rattle.std.proofs.Common.{◌≡◌, ℕ, ◌+◌, ◌≤◌, Bool, true, false, cond, not, ltb, leb, List, [], ◌∷◌, length, sym, refl, ap, ◌∙◌, subst, arith}
use Rattle.std.proofs.lemmas.Bool.{false≢true, not-true, ltb-true}
use Rattle.ladder.specs.declared.poses.Step.{Step}
use Rattle.ladder.specs.Rules.{Rules, Lawful}
use Rattle.ladder.specs.Tracks.{Rung, Bounded}
use Rattle.ladder.specs.Listed.{tracks_of}
use Rattle.book.specs.Book.{Book, Outcome, counted, refused, accepted, Filter, Call, add, close, next, seek, with_rung, shut, nexting, seeking, outcome}
use Rattle.book.specs.Runs.{Event, left_by, taken_after, brought, closes, any, Seeks, Kept, Promised, AsTheBook, New, RunsKeep}
use Rattle.book.proofs.Questions.{adds, add_leaves, closes_it, close_leaves, asking_leaves}
use Rattle.book.proofs.Asking.{the_list, seeks, nexts, took, Took}
use Rattle.book.proofs.Seeking.{next_is_seek}

-- what every book of a run keeps
pub record Whole {V P : Type 0} (c : Rules V P) (b : Book) : Type 0 where
  pub bounded : Bounded b.limits
  pub limited : b.rung_limit ≤ 128
  pub few : length b.rungs ≤ b.rung_limit
  pub untouched : b.closed ≡ false → b.taken ≡ 0
  pub rationed : b.taken ≤ b.ration
  pub inside : b.taken ≤ length (tracks_of c b.limits b.rungs)

pub new_whole : {V P : Type 0} (c : Rules V P) (b : Book) → New b → Whole c b
new_whole c b n = record {
  bounded = n.bounded;
  limited = n.limited;
  few = omega (arith, ap length n.no_rung);
  untouched = λ h. n.untaken;
  rationed = omega (arith, n.untaken);
  inside = omega (arith, n.untaken);
}

module _ {V P : Type 0} (c : Rules V P) (laws : Lawful c) (b : Book) (w : Whole c b) where
  few_rungs : length b.rungs ≤ 128
  few_rungs = omega (arith, w.few, w.limited)

  abbrev size : ℕ
  size = length (tracks_of c b.limits b.rungs)

  -- one call of a run
  record One (k : Call) (e : Event V) : Type 0 where
    leaves : left_by size b e ≡ (outcome c b k).book
    kept : Kept c b (tracks_of c b.limits b.rungs) k e
    whole : Whole c (outcome c b k).book

  add_whole : (r : Rung) (x y z u : Bool) → not b.closed ≡ x → ltb (length b.rungs) b.rung_limit ≡ y → Whole c (cond (accepted {V = V} (cond x (cond y (cond z (cond u (counted (length b.rungs + 1)) (refused 6)) (refused 5)) (refused 4)) (refused 3))) (with_rung b r) b)
  add_whole r false y z u hx hy = w
  add_whole r true false z u hx hy = w
  add_whole r true true false u hx hy = w
  add_whole r true true true false hx hy = w
  add_whole r true true true true hx hy =
      let none : b.taken ≡ 0 = w.untouched (not-true b.closed hx) in
      record {
        bounded = w.bounded;
        limited = w.limited;
        few = omega (arith, ltb-true (length b.rungs) b.rung_limit hy);
        untouched = w.untouched;
        rationed = w.rationed;
        inside = omega (arith, none);
      }

  close_whole : (x : Bool) → Whole c (cond (accepted {V = V} (cond x (counted (length b.rungs)) (refused 3))) (shut b) b)
  close_whole false = w
  close_whole true = record {
    bounded = w.bounded;
    limited = w.limited;
    few = w.few;
    untouched = λ h. absurd (false≢true (sym h));
    rationed = w.rationed;
    inside = w.inside;
  }

  taken_whole : (f : Filter) (out : List Step) (e : Event V) (o : Outcome V) (n : ℕ) → Took c laws b w.bounded few_rungs w.inside w.rationed f out e o n → Whole c o.book
  taken_whole f out e o n t = subst (Whole c) (sym t.book) (record {
    bounded = w.bounded;
    limited = w.limited;
    few = w.few;
    untouched = λ h. t.unopened h ∙ w.untouched h;
    rationed = t.rationed;
    inside = t.inside;
  })

  -- asking for a track, as seeking has it
  asked : (f : Filter) (out : List Step) (e : Event V) (o : Outcome V) → o ≡ seeking c b f out → brought e.call ≡ [] → closes e.call ≡ false → e.answer ≡ o.answer → (left_by size b e ≡ o.book) × Whole c o.book
  asked f out e o is none stays ea =
      let t = took c laws b w.bounded few_rungs w.inside w.rationed f out e in
      let n : taken_after b size e.answer ≡ t.0 = ap (taken_after b size) (ea ∙ ap (λ z. z.answer) is) ∙ t.1.after in (
        asking_leaves size b e t.0 none stays n ∙ sym t.1.book ∙ sym (ap (λ z. z.book) is),
        subst (λ (z : Outcome V). Whole c z.book) (sym is) (taken_whole f out e (seeking c b f out) t.0 t.1),
      )

  told : (f : Filter) (out : List Step) (e : Event V) → e.answer ≡ (seeking c b f out).answer → e.output ≡ (seeking c b f out).output → Seeks c b (tracks_of c b.limits b.rungs) f out e
  told f out e ea eo = seeks c laws b w.bounded few_rungs w.inside w.rationed f out e ea eo

  one : (k : Call) (e : Event V) → e.call ≡ k → e.answer ≡ (outcome c b k).answer → e.output ≡ (outcome c b k).output → One k e
  one (add r) e is ea eo = record {
    leaves = add_leaves b size r e is ea;
    kept = adds b size r e is ea;
    whole = add_whole r (not b.closed) (ltb (length b.rungs) b.rung_limit) (ltb 0 (length r)) (leb (length r) 16) refl refl;
  }
  one close e is ea eo = record { leaves = close_leaves b size e is ea; kept = closes_it b size e is ea; whole = close_whole (not b.closed) }
  one (next out) e is ea eo =
      let same : nexting c b out ≡ seeking c b any out = next_is_seek c b (tracks_of c b.limits b.rungs) out in
      let a = asked any out e (nexting c b out) same (ap brought is) (ap closes is) ea in
      record {
        leaves = a.0;
        kept = nexts c laws b w.bounded few_rungs w.inside w.rationed out e (told any out e (ea ∙ ap (λ z. z.answer) same) (eo ∙ ap (λ z. z.output) same));
        whole = a.1;
      }
  one (seek f out) e is ea eo =
      let a = asked f out e (seeking c b f out) refl (ap brought is) (ap closes is) ea in
      record { leaves = a.0; kept = told f out e ea eo; whole = a.1 }

pub promised : {V P : Type 0} (c : Rules V P) → Lawful c → (b : Book) → Whole c b → (es : List (Event V)) → AsTheBook c b es → Promised c b es
promised c laws b w [] t = tt
promised {V} c laws b w (e ∷ es) t =
    let o = outcome c b e.call in
    let s = one c laws b w e.call e refl t.0 t.1 in (
      tracks_of c b.limits b.rungs,
      the_list c laws b w.bounded (few_rungs c laws b w),
      (λ i. record { answer = t.0 i; output = t.1 i; book = s.leaves i }),
      s.kept,
      subst (λ (d : Book). Promised c d es) (sym s.leaves) (promised c laws o.book s.whole es t.2),
    )

pub runs_keep : {V P : Type 0} (c : Rules V P) → Lawful c → RunsKeep c
runs_keep c laws b n es t = promised c laws b (new_whole c b n) es t
