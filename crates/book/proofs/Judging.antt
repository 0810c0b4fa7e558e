-- Seeking, track by track. Assumes nothing.
use Rattle.std.proofs.Common.{◌≡◌, ℕ, zero, suc, ◌+◌, ◌<◌, ◌≤◌, Bool, true, false, cond, ltb, List, [], ◌∷◌, ◌++◌, length, get_or, drop, sym, refl, ap, ◌∙◌, arith, length-append, length-drop}
use Rattle.std.specs.List.{AllByRecursion}
use Rattle.std.proofs.lemmas.List.{drop_at}
use Rattle.std.proofs.ByRecursion.{All-get_or}
use Rattle.std.proofs.lemmas.Bool.{ltb-true, ltb-false}
use Rattle.ladder.specs.declared.poses.Step.{Step}
use Rattle.ladder.specs.Rules.{Rules}
use Rattle.ladder.specs.Tracks.{Ladder, Track, steps, cost}
use Rattle.book.specs.Book.{Book, Outcome, given, refused, Filter, written, one_taken, judging}

-- the book with n tracks taken
abbrev pub with_taken : Book → ℕ → Book
with_taken b n = record b { taken = n }

-- what an output holds after the first m of the tracks us were judged
abbrev pub last_judged : Ladder → List Track → ℕ → List Step → List Step
last_judged rs us zero out = out
last_judged rs us (suc m) out = written (steps rs (get_or us m [])) out

-- each track has a step for each rung
abbrev pub Long : Ladder → List Track → Type 0
Long rs us = AllByRecursion (λ u. length (steps rs u) ≡ length rs) us

-- writing over as many steps
pub written_twice : (ss us out : List Step) → length ss ≡ length us → written us (written ss out) ≡ written us out
written_twice ss us out e = ap (λ w. us ++ w) (drop_at ss (drop (length ss) out) (length us) e ∙ ap (λ n. drop n out) e)

pub length_written : (ss out : List Step) → length ss ≤ length out → length (written ss out) ≡ length out
length_written ss out h = omega (arith, length-append ss (drop (length ss) out), length-drop (length ss) out)

module _ {V P : Type 0} (c : Rules V P) (f : Filter) where
  -- the first m of the tracks were turned down
  abbrev pub Turned : Ladder → List Track → ℕ → Type 0
  Turned rs us m = (j : ℕ) → j < m → f (steps rs (get_or us j [])) ≡ false

  -- how judging ended after m tracks: the ration was spent, there was no track more, or the last one passed
  pub data Way (us : List Track) (b : Book) (o : Outcome V) (m : ℕ) : Type 0 where
    spent : o.answer ≡ refused 9 → b.taken + m ≡ b.ration → Turned b.rungs us m → Way us b o m
    ended : o.answer ≡ refused 10 → m ≡ length us → b.taken + m < b.ration → Turned b.rungs us m → Way us b o m
    passed : (i : ℕ) → m ≡ suc i → o.answer ≡ given (b.taken + m) (cost c b.rungs (get_or us i [])) → f (steps b.rungs (get_or us i [])) ≡ true → Turned b.rungs us i → Way us b o m

  -- m of the tracks us were judged
  pub record Judged (us : List Track) (b : Book) (out : List Step) (o : Outcome V) (m : ℕ) : Type 0 where
    pub book : o.book ≡ with_taken b (b.taken + m)
    pub few : m ≤ length us
    pub rationed : b.taken + m ≤ b.ration
    pub output : o.output ≡ last_judged b.rungs us m out
    pub way : Way us b o m

  -- a track that was turned down stands before the others
  turned_more : (rs : Ladder) (u : Track) (us : List Track) (m : ℕ) → f (steps rs u) ≡ false → Turned rs us m → Turned rs (u ∷ us) (suc m)
  turned_more rs u us m h t zero k = h
  turned_more rs u us m h t (suc j) k = t j (omega arith)

  way_more : (u : Track) (us : List Track) (b : Book) (o : Outcome V) (m : ℕ) → f (steps b.rungs u) ≡ false → Way us (one_taken b) o m → Way (u ∷ us) b o (suc m)
  way_more u us b o m h (spent a e t) = spent a (omega (arith, e)) (turned_more b.rungs u us m h t)
  way_more u us b o m h (ended a e r t) = ended a (ap suc e) (omega (arith, r)) (turned_more b.rungs u us m h t)
  way_more u us b o m h (passed i e a p t) =
      passed (suc i) (ap suc e) (a ∙ ap (λ k. given k (cost c b.rungs (get_or us i []))) (omega arith)) p (turned_more b.rungs u us i h t)

  output_more : (rs : Ladder) (u : Track) (us : List Track) (m : ℕ) (out : List Step) → length (steps rs u) ≡ length rs → Long rs us → m ≤ length us → last_judged rs us m (written (steps rs u) out) ≡ last_judged rs (u ∷ us) (suc m) out
  output_more rs u us zero out e l h = refl
  output_more rs u us (suc i) out e l h =
      written_twice (steps rs u) (steps rs (get_or us i [])) out (e ∙ sym (All-get_or (λ z. length (steps rs z) ≡ length rs) us i [] (omega arith) l))

  -- a track was turned down, and then the others were judged
  more : (u : Track) (us : List Track) (b : Book) (out : List Step) (o : Outcome V) (m : ℕ) → f (steps b.rungs u) ≡ false → Long b.rungs (u ∷ us) → Judged us (one_taken b) (written (steps b.rungs u) out) o m → Judged (u ∷ us) b out o (suc m)
  more u us b out o m h l j = record {
    book = j.book ∙ ap (with_taken b) (omega arith);
    few = omega (arith, j.few);
    rationed = omega (arith, j.rationed);
    output = j.output ∙ output_more b.rungs u us m out l.0 l.1 j.few;
    way = way_more u us b o m h j.way;
  }

  none_turned : (rs : Ladder) (us : List Track) → Turned rs us 0
  none_turned rs us j k = absurd (omega arith)

  -- nothing is judged
  nothing : (us : List Track) (b : Book) (out : List Step) (q : ℕ) → b.taken ≤ b.ration → Way us b (record { answer = refused q; output = out; book = b }) 0 → Judged us b out (record { answer = refused q; output = out; book = b }) 0
  nothing us b out q r w = record { book = ap (with_taken b) (omega arith); few = omega arith; rationed = omega arith; output = refl; way = w }

  pub judged : (us : List Track) (b : Book) (out : List Step) → Long b.rungs us → b.taken ≤ b.ration → (m : ℕ) × Judged us b out (judging c f us b out) m
  judged [] b out l r = step (ltb b.taken b.ration) refl
    where
      step : (x : Bool) → ltb b.taken b.ration ≡ x → (m : ℕ) × Judged [] b out (record { answer = cond x (refused 10) (refused 9); output = out; book = b }) m
      step true e = (0, nothing [] b out 10 r (ended refl refl (omega (arith, ltb-true b.taken b.ration e)) (none_turned b.rungs [])))
      step false e = (0, nothing [] b out 9 r (spent refl (omega (arith, ltb-false b.taken b.ration e)) (none_turned b.rungs [])))
  judged (u ∷ us) b out l r = step (ltb b.taken b.ration) refl (f (steps b.rungs u)) refl (λ h. judged us (one_taken b) (written (steps b.rungs u) out) l.1 h)
    where
      step : (x : Bool) → ltb b.taken b.ration ≡ x → (y : Bool) → f (steps b.rungs u) ≡ y → (b.taken + 1 ≤ b.ration → (m : ℕ) × Judged us (one_taken b) (written (steps b.rungs u) out) (judging c f us (one_taken b) (written (steps b.rungs u) out)) m) → (m : ℕ) × Judged (u ∷ us) b out (cond x (cond y (record { answer = given (b.taken + 1) (cost c b.rungs u); output = written (steps b.rungs u) out; book = one_taken b }) (judging c f us (one_taken b) (written (steps b.rungs u) out))) (record { answer = refused 9; output = out; book = b })) m
      step false e y g k = (0, nothing (u ∷ us) b out 9 r (spent refl (omega (arith, ltb-false b.taken b.ration e)) (none_turned b.rungs (u ∷ us))))
      step true e true g k = (
        1,
        record {
          book = refl;
          few = omega arith;
          rationed = omega (arith, ltb-true b.taken b.ration e);
          output = refl;
          way = passed 0 refl refl g (none_turned b.rungs (u ∷ us));
        },
      )
      step true e false g k =
          let h : b.taken + 1 ≤ b.ration = omega (arith, ltb-true b.taken b.ration e) in
          (suc (k h).0, more u us b out (judging c f us (one_taken b) (written (steps b.rungs u) out)) (k h).0 g l (k h).1)
