-- Costs in track order. Assumes nothing.
use Rattle.std.proofs.Common.{◌≡◌, ℕ, zero, suc, ◌<◌, true, ltb, List, [], ◌∷◌, ◌++◌, reverse, length, get_or, fold, sym, refl, ap, ◌∙◌, subst, arith}
use Rattle.std.specs.List.{AllByRecursion}
use Rattle.std.proofs.lemmas.List.{reverse-append, append_assoc, length-reverse}
use Rattle.std.proofs.ByRecursion.{All-push}
use Rattle.std.proofs.lemmas.Bool.{false≢true, and_parts, and_from, ltb-true, lt-ltb}
use Rattle.ladder.specs.declared.poses.Step.{Step}
use Rattle.ladder.specs.declared.poses.Turns.{Turns}
use Rattle.ladder.specs.declared.poses.Limits.{Limits}
use Rattle.ladder.specs.Moves.{turns, within}
use Rattle.ladder.specs.Rules.{Rules, joined}
use Rattle.ladder.specs.Tracks.{Rung, Ladder, Track, step_at, Admissible, in_range, steps, steps_back, all_within, moves}
use Rattle.ladder.specs.Plain.{onward, CostIsFold, Picks, AdmissibleIsMoves}
use Rattle.std.proofs.lemmas.List.Sums.{fold_push}

onward_push : (xs : List Step) (q p : Step) → onward (xs ++ q ∷ p ∷ []) ≡ onward (xs ++ q ∷ []) ++ turns q.pose p.pose ∷ []
onward_push [] q p = refl
onward_push (x ∷ []) q p = refl
onward_push (x ∷ y ∷ xs) q p = ap (λ w. turns x.pose y.pose ∷ w) (onward_push (y ∷ xs) q p)

reverse_cons : {X : Type 0} (x : X) (xs : List X) → reverse (x ∷ xs) ≡ reverse xs ++ x ∷ []
reverse_cons x xs = reverse-append (x ∷ []) xs

onward_reverse : (ss : List Step) → onward (reverse ss) ≡ reverse (moves ss)
onward_reverse [] = refl
onward_reverse (p ∷ []) = refl
onward_reverse (p ∷ q ∷ ss) =
    ap onward (reverse_cons p (q ∷ ss) ∙ ap (λ w. w ++ p ∷ []) (reverse_cons q ss) ∙ append_assoc (reverse ss) (q ∷ []) (p ∷ [])) ∙ onward_push (reverse ss) q p ∙ ap (λ w. onward w ++ turns q.pose p.pose ∷ []) (sym (reverse_cons q ss)) ∙ ap (λ w. w ++ turns q.pose p.pose ∷ []) (onward_reverse (q ∷ ss)) ∙ sym (reverse_cons (turns q.pose p.pose) (moves (q ∷ ss)))

-- one rung more is one step more, at the end
pub steps_more : (r : Rung) (rs : Ladder) (j : ℕ) (t : Track) → steps (r ∷ rs) (j ∷ t) ≡ steps rs t ++ step_at r j ∷ []
steps_more r rs j t = reverse_cons (step_at r j) (steps_back rs t)

-- a track has one step for each rung
pub length_steps : (rs : Ladder) (t : Track) → in_range rs t ≡ true → length (steps rs t) ≡ length rs
length_steps rs t h = length-reverse (steps_back rs t) ∙ back rs t h
  where
    back : (rs : Ladder) (t : Track) → in_range rs t ≡ true → length (steps_back rs t) ≡ length rs
    back [] t h = refl
    back (r ∷ rs) [] h = absurd (false≢true h)
    back (r ∷ rs) (j ∷ t) h = ap suc (back rs t (and_parts _ _ h).1)

module _ {V P : Type 0} (c : Rules V P) where
  joined_folded : (ms : List Turns) → joined c ms ≡ fold (λ v m. c.join v (c.price m)) c.zero (reverse ms)
  joined_folded [] = refl
  joined_folded (m ∷ ms) =
      ap (λ v. c.join v (c.price m)) (joined_folded ms) ∙ sym (fold_push (λ v n. c.join v (c.price n)) c.zero (reverse ms) m) ∙ ap (fold (λ v n. c.join v (c.price n)) c.zero) (sym (reverse_cons m ms))

  pub cost_is_fold : CostIsFold c
  cost_is_fold rs t =
      joined_folded (moves (steps_back rs t)) ∙ ap (fold (λ v m. c.join v (c.price m)) c.zero) (sym (onward_reverse (steps_back rs t)))

-- ---- limits

abbrev Fits : Limits → Turns → Type 0
Fits l m = within l m ≡ true

all_reverse : (l : Limits) (ms : List Turns) → all_within l ms ≡ true → AllByRecursion (Fits l) (reverse ms)
all_reverse l [] h = tt
all_reverse l (m ∷ ms) h =
    subst (AllByRecursion (Fits l)) (sym (reverse_cons m ms)) (All-push (Fits l) (reverse ms) m (all_reverse l ms (and_parts _ _ h).1) (and_parts _ _ h).0)

all_pushed : (l : Limits) (ms : List Turns) (m : Turns) → AllByRecursion (Fits l) (ms ++ m ∷ []) → AllByRecursion (Fits l) ms × Fits l m
all_pushed l [] m h = (tt, h.0)
all_pushed l (n ∷ ms) m h = let r = all_pushed l ms m h.1 in ((h.0, r.0), r.1)

reverse_all : (l : Limits) (ms : List Turns) → AllByRecursion (Fits l) (reverse ms) → all_within l ms ≡ true
reverse_all l [] h = refl
reverse_all l (m ∷ ms) h =
    let r = all_pushed l (reverse ms) m (subst (AllByRecursion (Fits l)) (reverse_cons m ms) h) in
    and_from _ _ r.1 (reverse_all l ms r.0)

-- ---- pose numbers

pub in_range_picks : (rs : Ladder) (t : Track) → in_range rs t ≡ true → Picks rs t
in_range_picks [] [] h = record { one_each = refl; each_there = λ i k. absurd (omega arith) }
in_range_picks [] (j ∷ t) h = absurd (false≢true h)
in_range_picks (r ∷ rs) [] h = absurd (false≢true h)
in_range_picks (r ∷ rs) (j ∷ t) h = picks (in_range_picks rs t (and_parts _ _ h).1)
  where
    there : Picks rs t → (i : ℕ) → i < length (r ∷ rs) → get_or (j ∷ t) i 0 < length (get_or (r ∷ rs) i [])
    there p zero k = ltb-true _ _ (and_parts _ _ h).0
    there p (suc i) k = p.each_there i (omega arith)

    picks : Picks rs t → Picks (r ∷ rs) (j ∷ t)
    picks p = record { one_each = ap suc p.one_each; each_there = there p }

pub picks_in_range : (rs : Ladder) (t : Track) → Picks rs t → in_range rs t ≡ true
picks_in_range [] [] h = refl
picks_in_range [] (j ∷ t) h = absurd (omega (arith, h.one_each))
picks_in_range (r ∷ rs) [] h = absurd (omega (arith, h.one_each))
picks_in_range (r ∷ rs) (j ∷ t) h =
    and_from (ltb j (length r)) (in_range rs t) (lt-ltb j (length r) (h.each_there 0 (omega arith))) (picks_in_range rs t (record { one_each = omega (arith, h.one_each); each_there = λ i k. h.each_there (suc i) (omega arith) }))

pub admissible_is_moves : AdmissibleIsMoves
admissible_is_moves l rs t = (forth, back)
  where
    forth : Admissible l rs t → (0 < length rs) × Picks rs t × AllByRecursion (Fits l) (onward (steps rs t))
    forth h =
        (h.some_rung, in_range_picks rs t h.numbered, subst (AllByRecursion (Fits l)) (sym (onward_reverse (steps_back rs t))) (all_reverse l (moves (steps_back rs t)) h.moved))

    back : (0 < length rs) × Picks rs t × AllByRecursion (Fits l) (onward (steps rs t)) → Admissible l rs t
    back h = record {
      some_rung = h.0;
      numbered = picks_in_range rs t h.1;
      moved = reverse_all l (moves (steps_back rs t)) (subst (AllByRecursion (Fits l)) (onward_reverse (steps_back rs t)) h.2);
    }
