-- A record of calls, grown call by call. Assumes nothing.
use Rattle.std.proofs.Common.{◌≡◌, ℕ, ◌+◌, ◌-◌, ◌<◌, ◌≤◌, cond, leb, List, [], ◌∷◌, ◌++◌, length, get_or, take, drop, set, Some, None, Option, Ok, sym, refl, ap, ◌∙◌, subst, append_assoc, append-nil, arith, length-append, length-drop}
use Rattle.std.proofs.lemmas.List.{length-set, length_push, length-take-le, take-append-drop, take_at, take_more, take_more_set, drop_at, drop_more, drop-drop, drop-set-lt, drop_all, take_all}
use Rattle.std.proofs.Math.Seq.{take-append-add}
use borrow.Rule.Slice.PartMut.{put_mid}
use Rattle.std.specs.List.{slice_get}
use Rattle.std.specs.Option.{option_map}
use Rattle.ladder.specs.declared.poses.Step.{Step}
use Rattle.ladder.specs.Rules.{Rules}
use Rattle.ladder.specs.Tracks.{Rung}
use Rattle.book.specs.Book.{Book, Filter, add, seek}
use Rattle.book.specs.Book as book
use Rattle.book.specs.Runs.{Event}
use Rattle.resolver.specs.Calls.{Chain}
use Rattle.resolver.specs.declared.tables.Core.{Core}
use Rattle.replay.specs.declared.calls.Call.{Call}
use Rattle.replay.specs.declared.calls.Call.TheVariants.{Add, Close, Next, Seek}
use Rattle.replay.specs.declared.calls.Reply.TheVariants.{Counted}
use Rattle.replay.specs.Calls.{Recorded, told, places, all_places, named, event, events, Made}

-- parts of lists
pub take_front : {X : Type 0} (n : ℕ) (xs ys : List X) → n ≤ length xs → take n (take n xs ++ ys) ≡ take n xs
take_front n xs ys h = take_at (take n xs) ys n (length-take-le n xs h)

drop_front : {X : Type 0} (n : ℕ) (xs ys : List X) → n ≤ length xs → drop n (take n xs ++ ys) ≡ ys
drop_front n xs ys h = drop_at (take n xs) ys n (length-take-le n xs h)

take_over : {X : Type 0} (xs ys : List X) (n p : ℕ) → length xs ≡ n → take (n + p) (xs ++ ys) ≡ xs ++ take p ys
take_over xs ys n p e = ap (λ i. take (i + p) (xs ++ ys)) (sym e) ∙ take-append-add xs ys p

places_append : (cs : List Call) (c : Call) → all_places (cs ++ c ∷ []) ≡ all_places cs + places c
places_append [] c = omega arith
places_append (x ∷ cs) c = ap (λ i. places x + i) (places_append cs c) ∙ (let z : places x + (all_places cs + places c) ≡ places x + all_places cs + places c = omega arith in z)

-- where a part of a list reaches to its end, so does what is put in its place
pub tail_put : {X : Type 0} (n : ℕ) (xs ys : List X) → put_mid n (length xs - n) xs ys ≡ take n xs ++ ys
tail_put n xs ys = ap (λ zs. take n xs ++ (ys ++ zs)) (drop_all (length xs - n) (drop n xs) (omega (arith, length-drop n xs))) ∙ ap (λ zs. take n xs ++ zs) (append-nil ys)

pub tail_is : {X : Type 0} (n : ℕ) (xs : List X) → take (length xs - n) (drop n xs) ≡ drop n xs
tail_is n xs = take_all (length xs - n) (drop n xs) (omega (arith, length-drop n xs))

module _ {C P : Type 0} (r : Rules C P) (ms : List (ℕ → Rung)) (fs : List Filter) where
  -- a call's event looks at the first places of its output alone
  named_front : (c : Call) (a : book.Answer C) (before after os : List Step) → places c ≤ length after → named ms fs c a before (take (places c) after ++ os) ≡ named ms fs c a before after
  named_front (Add i w) a before after os h = refl
  named_front Close a before after os h = refl
  named_front (Next n) a before after os h = ap (λ (zs : List Step). Some (record { call = book.next (take n before); answer = a; output = zs })) (take_front n after os h)
  named_front (Seek j n) a before after os h = ap (λ (zs : List Step). option_map (λ (f : Filter). record { call = seek f (take n before); answer = a; output = zs }) (slice_get fs j)) (take_front n after os h)

  event_front : (c : Call) (a : book.Answer C) (before after os : List Step) → places c ≤ length after → event ms fs c a before (take (places c) after ++ os) ≡ event ms fs c a before after
  event_front c a before after os h = ap (λ (o : Option (Event C)). cond (leb (places c) (length before)) o None) (named_front c a before after os h)

  -- no call is made where there is no place for an answer
  events_full : (cs : List Call) (before after : List Step) → events ms fs {C = C} cs [] before after ≡ []
  events_full [] before after = refl
  events_full (c ∷ cs) before after = refl

  module _ (calls : List Call) (start : Core C) (answers0 : List (Recorded C)) (before : List Step) where
    -- k calls are made, and `used` of the output places are theirs
    pub record SoFar (k used : ℕ) (core : Core C) (answers : List (Recorded C)) (outputs : List Step) : Type 0 where
      pub made : List (Event C)
      pub count : length made ≡ k
      pub chain : (rest : List (Event C)) → Chain r core rest → Chain r start (made ++ rest)
      pub tells : (ys : List (Recorded C)) (os : List Step) → events ms fs calls (take k answers ++ ys) before (take used outputs ++ os) ≡ made ++ events ms fs (drop k calls) ys (drop used before) os
      pub inside : used ≤ length outputs
      pub used_is : used ≡ all_places (take k calls)
      pub answers_left : drop k answers ≡ drop k answers0
      pub outputs_left : drop used outputs ≡ drop used before
      pub answers_long : length answers ≡ length answers0
      pub outputs_long : length outputs ≡ length before

    -- what the record tells of in the end, where k calls were made
    pub record Told (k : ℕ) (answers : List (Recorded C)) (outputs : List Step) : Type 0 where
      pub made : k ≡ length (events ms fs calls answers before outputs)
      pub chain : Chain r start (events ms fs calls answers before outputs)
      pub spared : (drop k answers ≡ drop k answers0) × (drop (all_places (take k calls)) outputs ≡ drop (all_places (take k calls)) before)

-- the same with its parts left to antt
module _ {C P : Type 0} {r : Rules C P} {ms : List (ℕ → Rung)} {fs : List Filter} {calls : List Call} {start : Core C} {answers0 : List (Recorded C)} {before : List Step} where
  pub begin : SoFar r ms fs calls start answers0 before 0 0 start answers0 before
  begin = record {
    made = [];
    count = refl;
    chain = λ rest t. t;
    tells = λ ys os. refl;
    inside = omega arith;
    used_is = refl;
    answers_left = refl;
    outputs_left = refl;
    answers_long = refl;
    outputs_long = refl;
  }

  module _ {k used : ℕ} {core : Core C} {answers : List (Recorded C)} {outputs : List Step} (s : SoFar r ms fs calls start answers0 before k used core answers outputs) where
    -- what is made with sources and filters that mean the same, and with the places that are left
    made_here : {ns : List (ℕ → Rung)} {gs : List Filter} (c : Call) (x : Option (Recorded C)) (rest : List Step) (after : Core C) → ns ≡ ms → gs ≡ fs → Made ns gs r c core (take (length outputs - used) (drop used outputs)) x rest after → Made ms fs r c core (drop used outputs) x rest after
    made_here c x rest after p q made = coe 0 1 (i. Made (p i) (q i) r c core (tail_is used outputs i) x rest after) made

    -- one call more
    module _ (hc : k < length calls) (ha : k < length answers) (d : Call) (a : Recorded C) (rest : List Step) (after : Core C) (kept : length rest ≡ length (take (length outputs - used) (drop used outputs))) {ns : List (ℕ → Rung)} {gs : List Filter} (meant : ns ≡ ms) (passed : gs ≡ fs) (made : Made ns gs r (get_or calls k d) core (take (length outputs - used) (drop used outputs)) (Some a) rest after) where
      abbrev m : Made ms fs r (get_or calls k d) core (drop used outputs) (Some a) rest after
      m = made_here (get_or calls k d) (Some a) rest after meant passed made

      c : Call
      c = get_or calls k d

      p : ℕ
      p = places (get_or calls k d)

      e : Event C
      e = m.0

      long : length rest ≡ length outputs - used
      long = kept ∙ ap length (tail_is used outputs) ∙ length-drop used outputs

      enough : p ≤ length rest
      unfolding p
      enough = omega (arith, m.3, long, length-drop used outputs)

      fronts : length (take used outputs) ≡ used
      fronts = length-take-le used outputs s.inside

      event_is : (os : List Step) → event ms fs c (told a) (drop used before) (take p rest ++ os) ≡ Some e
      unfolding c p e
      event_is os =
          event_front r ms fs (get_or calls k d) (told a) (drop used before) rest os enough
          ∙ ap (λ (zs : List Step). event ms fs (get_or calls k d) (told a) zs rest) (sym s.outputs_left)
          ∙ m.1

      tells_more : (ys : List (Recorded C)) (os : List Step) → events ms fs calls (take (k + 1) (set answers k a) ++ ys) before (take (used + p) (take used outputs ++ rest) ++ os) ≡ (s.made ++ e ∷ []) ++ events ms fs (drop (k + 1) calls) ys (drop (used + p) before) os
      unfolding c p e
      tells_more ys os =
          let rs : List Step = take p rest ++ os in
          let answered : take (k + 1) (set answers k a) ++ ys ≡ take k answers ++ a ∷ ys = ap (λ xs. xs ++ ys) (take_more_set answers k a ha) ∙ append_assoc (take k answers) (a ∷ []) ys in
          let shown : take (used + p) (take used outputs ++ rest) ++ os ≡ take used outputs ++ rs = ap (λ xs. xs ++ os) (take_over (take used outputs) rest used p fronts) ∙ append_assoc (take used outputs) (take p rest) os in
          rw (answered, shown, s.tells (a ∷ ys) rs, drop_more calls k d hc, event_is os, drop-drop p used before, drop_front p rest os enough, append_assoc s.made (e ∷ []))

      outputs_still : drop (used + p) (take used outputs ++ rest) ≡ drop (used + p) before
      unfolding p
      outputs_still =
          rw (← drop-drop p used (take used outputs ++ rest), drop_at (take used outputs) rest used fronts, m.4, s.outputs_left, drop-drop p used before)

      one_more : SoFar r ms fs calls start answers0 before (k + 1) (used + places (get_or calls k d)) after (set answers k a) (take used outputs ++ rest)
      unfolding p e
      one_more = record {
        made = s.made ++ e ∷ [];
        count = length_push s.made e ∙ ap (λ i. i + 1) s.count;
        chain = λ es t. subst (Chain r start) (sym (append_assoc s.made (e ∷ []) es)) (s.chain (e ∷ es) (after, m.2, t));
        tells = tells_more;
        inside = omega (arith, length-append (take used outputs) rest, fronts, long, enough);
        used_is = ap (λ i. i + p) s.used_is ∙ sym (places_append (take k calls) (get_or calls k d)) ∙ ap all_places (sym (take_more calls k d hc));
        answers_left = drop-set-lt (k + 1) answers k a (omega arith) ∙ sym (drop-drop 1 k answers) ∙ ap (drop 1) s.answers_left ∙ drop-drop 1 k answers0;
        outputs_left = outputs_still;
        answers_long = length-set answers k a ∙ s.answers_long;
        outputs_long = omega (arith, length-append (take used outputs) rest, fronts, long, s.inside, s.outputs_long);
      }

      pub more : {n : ℕ} {ys : List (Recorded C)} → n ≡ places (get_or calls k d) → ys ≡ set answers k a → SoFar r ms fs calls start answers0 before (k + 1) (used + n) after ys (put_mid used (length outputs - used) outputs rest)
      more n ys = coe 1 0 (i. SoFar r ms fs calls start answers0 before (k + 1) (used + n i) after (ys i) (tail_put used outputs rest i)) one_more

    told_where : events ms fs (drop k calls) (drop k answers) (drop used before) (drop used outputs) ≡ [] → Told r ms fs calls start answers0 before k answers outputs
    told_where none =
        let is : events ms fs calls answers before outputs ≡ s.made =
        ap (λ xs. events ms fs calls xs before outputs) (sym (take-append-drop k answers))
        ∙ ap (λ xs. events ms fs calls (take k answers ++ drop k answers) before xs) (sym (take-append-drop used outputs))
        ∙ s.tells (drop k answers) (drop used outputs)
        ∙ ap (λ es. s.made ++ es) none
        ∙ append-nil s.made in
        record {
          made = sym (ap length is ∙ s.count);
          chain = subst (Chain r start) (sym (is ∙ sym (append-nil s.made))) (s.chain [] tt);
          spared = (s.answers_left, subst (λ n. drop n outputs ≡ drop n before) s.used_is s.outputs_left);
        }

    -- all calls are made
    pub told_all : k ≡ length calls → Told r ms fs calls start answers0 before (length calls) answers outputs
    told_all all = subst (λ n. Told r ms fs calls start answers0 before n answers outputs) all (told_where (ap (λ cs. events ms fs cs (drop k answers) (drop used before) (drop used outputs)) (drop_all k calls (omega arith))))

    -- no place is left for an answer
    pub told_full : length answers ≤ k → Told r ms fs calls start answers0 before k answers outputs
    told_full full = told_where (ap (λ ys. events ms fs (drop k calls) ys (drop used before) (drop used outputs)) (drop_all k answers full) ∙ events_full r ms fs (drop k calls) (drop used before) (drop used outputs))

    -- a call is not made
    pub told_until : k < length calls → k < length answers → (d : Call) (rest : List Step) (after : Core C) → {ns : List (ℕ → Rung)} {gs : List Filter} → ns ≡ ms → gs ≡ fs → Made ns gs r (get_or calls k d) core (take (length outputs - used) (drop used outputs)) None rest after → Told r ms fs calls start answers0 before k answers (put_mid used (length outputs - used) outputs rest)
    told_until hc ha d rest after meant passed made =
        let m = made_here (get_or calls k d) None rest after meant passed made in
        let c = get_or calls k d in
        let same : put_mid used (length outputs - used) outputs rest ≡ outputs = tail_put used outputs rest ∙ ap (λ zs. take used outputs ++ zs) m.1 ∙ take-append-drop used outputs in
        rw same (told_where (rw (drop_more calls k d hc, drop_more answers k (Ok (Counted 0)) ha, ← s.outputs_left, m.0)))
