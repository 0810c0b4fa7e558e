-- What the calls of a sound resolver come to in its book. Assumes nothing.
use Rattle.std.proofs.Common.{◌≡◌, ℕ, zero, suc, ◌+◌, ◌<◌, ◌≤◌, true, false, List, [], ◌∷◌, ◌++◌, length, get_or, drop, replicate, Some, None, Option, MatchOption, sym, refl, ap, ◌∙◌, subst, arith}
use Rattle.std.specs.Option.{ok_or}
use Rattle.std.proofs.ByRecursion.{All-get_or}
use Rattle.ladder.specs.declared.poses.Step.{Step}
use Rattle.ladder.specs.Rules.{Rules, Lawful}
use Rattle.ladder.specs.Tracks.{Rung, Admissible, steps, cost}
use Rattle.ladder.specs.Listed.{tracks_of}
use Rattle.ladder.proofs.Endings.{list}
use Rattle.ladder.proofs.Forward.{length_steps}
use Rattle.enumeration.specs.Tables.{ladder}
use Rattle.enumeration.specs.Sound.{RungsSound}
use Rattle.enumeration.specs.Filling.{Filled}
use Rattle.enumeration.specs.Taking.{Heads}
use Rattle.enumeration.proofs.Heads.{fresh_heads}
use Rattle.enumeration.proofs.Frames.{length_ladder}
use Rattle.book.specs.Book.{given, refused, with_rung, written, nexting}
use Rattle.book.proofs.Replies.{next_ended, next_found, nexting_refused, nexting_given}
use Rattle.resolver.specs.declared.tables.Core.{Core}
use Rattle.resolver.specs.declared.answers.Taken.{Taken}
use Rattle.resolver.specs.declared.answers.Refusal.TheVariants.{NoTrackLeft}
use Rattle.resolver.specs.Answers.{track_answer}
use Rattle.resolver.specs.Tables.{tables_of}
use Rattle.resolver.specs.Standing.{poses_in, ladder_in, book}
use Rattle.resolver.specs.Adding.{AddsRung, GrownByARung}
use Rattle.resolver.specs.Sound.{Sound, HeadsSound, taken_at, plainly, due, SetupKept, Gives, Ends, ladder_of, list_of}
use Rattle.resolver.proofs.Bounded.{bounded}
use Rattle.resolver.proofs.Rungs.{many}

-- the ladder of the tables is that of the book
pub ladder_is : {C P : Type 0} (c : Rules C P) (k : Core C) (n : ℕ) → ladder_in k.stations.now k.extents n ≡ ladder (tables_of c k) n
unfolding ladder_in ladder
ladder_is c k zero = refl
ladder_is c k (suc n) = ap (λ rs. poses_in k.stations.now k.extents n ∷ rs) (ladder_is c k n)

module _ {C P : Type 0} (c : Rules C P) (laws : Lawful c) (k m : Core C) (kept : SetupKept k m) (out after : List Step) where
  rungs_are : ladder_of c k ≡ (book k).rungs
  rungs_are = sym (ladder_is c k k.rungs)

  list_is : list_of c k ≡ tracks_of c k.limits (book k).rungs
  list_is = ap (tracks_of c k.limits) rungs_are

  -- the book after, where n tracks are taken
  book_after : (n : ℕ) → ladder_of c m ≡ ladder_of c k → m.taken ≡ n → book m ≡ record { limits = k.limits; rung_limit = k.rung_limit; ration = k.ration; rungs = (book k).rungs; closed = k.closed; taken = n }
  book_after n lad t =
      let rs : (book m).rungs ≡ (book k).rungs = ladder_is c m m.rungs ∙ lad ∙ rungs_are in
      λ i. record { limits = kept.limits i; rung_limit = kept.rung_limit i; ration = kept.ration i; rungs = rs i; closed = kept.closed i; taken = t i }

  -- the list is at its end
  pub next_none : k.closed ≡ true → k.rungs ≤ length out → k.taken < k.ration → ladder_of c m ≡ ladder_of c k → Ends c k out after m.taken → record { answer = refused 10; output = after; book = book m } ≡ nexting c (book k) out
  next_none o h r lad e =
      (λ i. record { answer = refused 10; output = e.output i; book = book_after k.taken lad e.counts i })
      ∙ nexting_refused c (book k) (tracks_of c k.limits (book k).rungs) out 10 (next_ended c (book k) (tracks_of c k.limits (book k).rungs) out o (omega (arith, h, many k)) r (omega (arith, e.all, ap length list_is)))

  -- the track that is given has as many steps as there are rungs
  steps_long : k.taken < length (list_of c k) → length (steps (ladder_of c k) (get_or (list_of c k) k.taken [])) ≡ k.rungs
  steps_long h =
      let few : length (ladder_of c k) ≤ 128 = omega (arith, length_ladder (tables_of c k) k.rungs, k.held, k.limited) in
      let a = All-get_or (Admissible k.limits (ladder_of c k)) (list_of c k) k.taken [] h (list c laws k.limits (bounded k) (ladder_of c k) few).only in
      length_steps (ladder_of c k) (get_or (list_of c k) k.taken []) a.numbered ∙ length_ladder (tables_of c k) k.rungs

  pub next_one : (x : Taken C) → k.closed ≡ true → k.rungs ≤ length out → k.taken < k.ration → ladder_of c m ≡ ladder_of c k → Gives c k out after m.taken x → record { answer = given x.number x.cost; output = after; book = book m } ≡ nexting c (book k) out
  next_one x o h r lad g =
      let ts = tracks_of c k.limits (book k).rungs in
      let there : k.taken < length ts = omega (arith, g.exists, ap length list_is) in
      let same : steps (ladder_of c k) (get_or (list_of c k) k.taken []) ≡ steps (book k).rungs (get_or ts k.taken []) = ap (λ rs. steps rs (get_or (tracks_of c k.limits rs) k.taken [])) rungs_are in
      let value : x.cost ≡ cost c (book k).rungs (get_or ts k.taken []) = g.costs ∙ ap (λ rs. cost c rs (get_or (tracks_of c k.limits rs) k.taken [])) rungs_are in
      let written_is : after ≡ written (steps (book k).rungs (get_or ts k.taken [])) out =
      g.output ∙ ap (λ n. steps (ladder_of c k) (get_or (list_of c k) k.taken []) ++ drop n out) (sym (steps_long g.exists)) ∙ ap (λ ss. written ss out) same in
      (λ i. record { answer = given (g.number i) (value i); output = written_is i; book = book_after (k.taken + 1) lad g.counts i })
      ∙ nexting_given c (book k) ts out (k.taken + 1) (cost c (book k).rungs (get_or ts k.taken [])) (next_found c (book k) ts out o (omega (arith, h, many k)) r there)

  -- either
  pub next_done : (o : Option (Taken C)) → k.closed ≡ true → k.rungs ≤ length out → k.taken < k.ration → ladder_of c m ≡ ladder_of c k → MatchOption o (Ends c k out after m.taken) (λ x. Gives c k out after m.taken x) → record { answer = track_answer (ok_or o NoTrackLeft); output = after; book = book m } ≡ nexting c (book k) out
  next_done None closed h r lad e = next_none closed h r lad e
  next_done (Some x) closed h r lad g = next_one x closed h r lad g

-- adding a rung
module _ {C P : Type 0} (c : Rules C P) (k m : Core C) (ps : Rung) (grown : GrownByARung k m) where
  pub add_book : ladder (tables_of c m) (suc k.rungs) ≡ ps ∷ ladder (tables_of c k) k.rungs → book m ≡ with_rung (book k) ps
  add_book lad =
      let rs : (book m).rungs ≡ ps ∷ (book k).rungs = ladder_is c m m.rungs ∙ ap (ladder (tables_of c m)) (let z : m.rungs ≡ suc k.rungs = omega (arith, grown.rungs) in z) ∙ lad ∙ ap (λ xs. ps ∷ xs) (sym (ladder_is c k k.rungs)) in
      λ i. record { limits = grown.limits i; rung_limit = grown.rung_limit i; ration = grown.ration i; rungs = rs i; closed = grown.closed i; taken = grown.taken i }

  pub filled_of : Sound c k → k.closed ≡ false → Filled c k.limits (tables_of c k) k.rungs
  filled_of s o = record { sound = s.rungs; fresh = (s.untaken o).rungs }

  pub add_sound : Sound c k → k.closed ≡ false → Filled c k.limits (tables_of c m) (suc k.rungs) → Sound c m
  add_sound s o f =
      let u = s.untaken o in
      let n : m.rungs ≡ suc k.rungs = omega (arith, grown.rungs) in
      let none : due m.recent ≡ 0 = ap due (grown.recent ∙ u.recent) in
      let tk : m.taken ≡ 0 = grown.taken ∙ u.taken in
      let cs : (v : ℕ) → taken_at m v ≡ 0 = λ v. ap (λ xs. get_or xs v 0) grown.counts ∙ u.counts v in
      record {
        rungs = subst (λ l. RungsSound c l (tables_of c m) m.rungs) (sym grown.limits) (subst (RungsSound c k.limits (tables_of c m)) (sym n) f.sound);
        blocks = λ r h. omega (arith, (f.fresh r (omega (arith, h, n))).block, none);
        ranks = λ r v h i. omega (arith, (f.fresh r (omega (arith, h, n))).found v i, none);
        untaken = λ _. record { rungs = λ r h. f.fresh r (omega (arith, h, n)); taken = tk; counts = cs; recent = grown.recent ∙ u.recent };
        heads =
            subst (HeadsSound c m) (sym n)
            (subst (λ l. Heads c l (tables_of c m) k.rungs (taken_at m) m.taken (plainly m.recent)) (sym grown.limits)
            (subst (λ t. Heads c k.limits (tables_of c m) k.rungs (taken_at m) t (plainly m.recent)) (sym tk)
            (subst (λ o. Heads c k.limits (tables_of c m) k.rungs (taken_at m) 0 (plainly o)) (sym (grown.recent ∙ u.recent)) (fresh_heads c k.limits (tables_of c m) k.rungs (taken_at m) (f.sound k.rungs (omega arith)) (f.fresh k.rungs (omega arith)) (λ v _. cs v)))));
      }

-- a new table of counts
pub zeros : (n v : ℕ) → ◌≡◌ {A = ℕ} (get_or (replicate n 0) v 0) 0
zeros zero v = refl
zeros (suc n) zero = refl
zeros (suc n) (suc v) = zeros n v

-- a resolver without rungs
pub open_sound : {C P : Type 0} (c : Rules C P) (k : Core C) → k.rungs ≡ 0 → k.taken ≡ 0 → k.recent ≡ None → k.closed ≡ false → ((v : ℕ) → taken_at k v ≡ 0) → Sound c k
open_sound c k e t o d cs = record {
  rungs = λ r h. absurd (let no_way : ⊥ = omega (arith, h, e) in no_way);
  blocks = λ r h. absurd (let no_way : ⊥ = omega (arith, h, e) in no_way);
  ranks = λ r v h. absurd (let no_way : ⊥ = omega (arith, h, e) in no_way);
  untaken = λ _. record { rungs = λ r h. absurd (let no_way : ⊥ = omega (arith, h, e) in no_way); taken = t; counts = cs; recent = o };
  heads = subst (HeadsSound c k) (sym e) t;
}

-- adding the list of a source, which answered the rung ps, keeps the tables sound and adds the rung to the book
pub added : {C P : Type 0} (c : Rules C P) (k m : Core C) (list : Rung) → GrownByARung k m → Sound c k → k.closed ≡ false → 1 ≤ length list → {ps : Rung} → ps ≡ list → AddsRung c k m ps → Sound c m × (book m ≡ with_rung (book k) list)
added c k m list grown s o some {ps} same effect =
    let f = effect (omega (arith, some, ap length same)) (filled_of c k m list grown s o) in
    (add_sound c k m list grown s o f.0, add_book c k m list grown (f.1 ∙ ap (λ qs. qs ∷ ladder (tables_of c k) k.rungs) same))
