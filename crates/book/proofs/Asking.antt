-- What is promised of asking for a track. Assumes nothing.
use Rattle.std.proofs.Common.{◌≡◌, ℕ, zero, suc, ◌+◌, ◌-◌, ◌<◌, ◌≤◌, Bool, true, false, cond, ltb, leb, ◌⊎◌, List, [], ◌∷◌, length, get_or, drop, sym, refl, ap, ◌∙◌, subst, inl, inr, ⊎_elim, arith}
use Rattle.std.specs.Ordering.{is_le}
use Rattle.std.proofs.lemmas.List.{length-drop, get_or-drop}
use Rattle.std.proofs.ByRecursion.{All-drop, All-weaker, All-get_or}
use Rattle.std.proofs.lemmas.Bool.{leb-true, leb-false, lt-ltb, le-ltb, cases_order, cases_lt, cases_eq, ne_eqb}
use Rattle.ladder.specs.declared.poses.Step.{Step}
use Rattle.ladder.specs.Rules.{Rules, Lawful, Reached}
use Rattle.ladder.specs.Tracks.{Ladder, Track, Bounded, Admissible, steps, cost}
use Rattle.ladder.specs.Listed.{peel, tracks_of}
use Rattle.ladder.proofs.Sorting.{ascending_less}
use Rattle.ladder.proofs.Forward.{length_steps}
use Rattle.ladder.proofs.Peeled.{reached, sound, less_cheaper, one_list}
use Rattle.book.specs.Book.{Book, Outcome, Answer, given, refused, Filter, judging, seeking}
use Rattle.book.specs.Runs.{Event, TheList, taken_after, Ready, Left, Gives, held, Seeks, any, Nexts}
use Rattle.book.proofs.Judging.{with_taken, last_judged, Long, Turned, Way, spent, ended, passed, Judged, judged}
use Rattle.book.proofs.Questions.{refusal_leaves}

given_is : {V : Type 0} {a : Answer V} {k m : ℕ} {v w : V} → a ≡ given k v → a ≡ given m w → (k ≡ m) × (v ≡ w)
given_is {V} {a} {k} {m} {v} {w} x y = (cc, cc)

module _ {V P : Type 0} (c : Rules V P) (laws : Lawful c) (b : Book) (bounded : Bounded b.limits) (few : length b.rungs ≤ 128) where
  abbrev all : List Track
  all = tracks_of c b.limits b.rungs

  pub the_list : TheList c b.limits b.rungs all
  the_list = record { listed = (one_list c laws).lists b.limits bounded b.rungs few; alone = (one_list c laws).alone b.limits bounded b.rungs few }

  -- a track of the list
  admissible : (j : ℕ) → j < length all → Admissible b.limits b.rungs (get_or all j [])
  admissible j h = All-get_or (Admissible b.limits b.rungs) all j [] h the_list.listed.only

  pub all_long : Long b.rungs all
  all_long = All-weaker (Admissible b.limits b.rungs) (λ u. length (steps b.rungs u) ≡ length b.rungs) (λ t h. length_steps b.rungs t h.numbered) all the_list.listed.only

  reach : (rs : Ladder) (t : Track) → length rs ≤ 128 → Admissible b.limits rs t → Reached c 127 (cost c rs t)
  reach [] t n h = record { by = []; few = omega arith; short = tt; is = refl }
  reach (r ∷ rs) t n h = reached c b.limits r rs 127 t bounded (omega arith) (sound b.limits (r ∷ rs) t h)

  -- no later track of the list costs less
  cheaper : (i j : ℕ) → i ≤ j → j < length all → is_le (c.compare (cost c b.rungs (get_or all i [])) (cost c b.rungs (get_or all j []))) ≡ true
  cheaper i j h k = step (cases_order i j)
    where
      step : (i ≡ j) ⊎ ((i < j) ⊎ (j < i)) → is_le (c.compare (cost c b.rungs (get_or all i [])) (cost c b.rungs (get_or all j []))) ≡ true
      step (inl e) =
          let r = reach b.rungs (get_or all i []) few (admissible i (omega arith)) in
          subst (λ n. is_le (c.compare (cost c b.rungs (get_or all i [])) (cost c b.rungs (get_or all n []))) ≡ true) e (ap is_le ((laws.order.same (cost c b.rungs (get_or all i [])) (cost c b.rungs (get_or all i [])) r r).1 refl))
      step (inr (inl e)) = less_cheaper c b.rungs (get_or all i []) (get_or all j []) (ascending_less (peel c b.rungs) all i j [] the_list.listed.ordered e k)
      step (inr (inr e)) = absurd (omega arith)

  module _ (in_List : b.taken ≤ length all) (in_ration : b.taken ≤ b.ration) where
    -- the untaken tracks
    abbrev left : List Track
    left = drop b.taken all

    length_left : b.taken + length left ≡ length all
    length_left = omega (arith, length-drop b.taken all)

    left_at : (j : ℕ) → get_or left j [] ≡ get_or all (b.taken + j) []
    left_at j = get_or-drop b.taken all j []

    left_long : Long b.rungs left
    left_long = All-drop (λ u. length (steps b.rungs u) ≡ length b.rungs) b.taken all all_long

    module _ (f : Filter) (out : List Step) (e : Event V) where
      abbrev IsLeft : ℕ → Type 0
      IsLeft = Left c b all f out

      -- a track that is left stands behind those that were turned down
      not_before : (m : ℕ) → Turned c f b.rungs left m → (j : ℕ) → IsLeft j → b.taken + m ≤ j
      not_before m t j l =
          let u : b.taken ≤ j = l.untaken in
          let at_j : b.taken + (j - b.taken) ≡ j = omega arith in
          let same : get_or left (j - b.taken) [] ≡ get_or all j [] = left_at (j - b.taken) ∙ ap (λ i. get_or all i []) at_j in
          let yes : f (steps b.rungs (get_or left (j - b.taken) [])) ≡ true = rw same l.passes in
          ⊎_elim (λ h. let no = t (j - b.taken) (omega arith) in absurd cc) (λ h. h) (cases_lt j (b.taken + m))

      -- what the output holds
      holds_after : (m n : ℕ) → n ≡ b.taken + m → e.output ≡ last_judged b.rungs left m out → e.output ≡ held c b all f out n
      holds_after zero n is o = let no_more : ltb b.taken n ≡ false = le-ltb b.taken n (omega arith) in rw no_more o
      holds_after (suc i) n is o =
          let more : ltb b.taken n ≡ true = lt-ltb b.taken n (omega arith) in
          let at_i : n - 1 ≡ b.taken + i = omega arith in
          rw (more, at_i, ← left_at i) o

      module _ (shut : b.closed ≡ true) (room : length b.rungs ≤ length out) where
        ready : Ready c b all f out
        ready = record { shut = shut; room = room }

        -- the ration was spent
        seeks_spent : (m : ℕ) → e.answer ≡ refused 9 → b.taken + m ≡ b.ration → m ≤ length left → Turned c f b.rungs left m → e.output ≡ last_judged b.rungs left m out → Seeks c b all f out e
        seeks_spent m a r h t o = record {
          open_still = (λ k. cc, λ p. cc);
          short = (λ k. cc, λ p. absurd (omega arith));
          spent = (λ k. (ready, omega (arith, length_left), λ j l. omega (arith, not_before m t j l)), λ p. a);
          ended = (λ k. cc, λ p. absurd (omega (arith, length_left)));
          served = λ w j l s. absurd (omega (arith, not_before m t j l));
          gives = λ k v g. cc;
          holds = holds_after m (taken_after b (length all) e.answer) (ap (taken_after b (length all)) a ∙ sym r) o;
        }

        -- there was no track more
        seeks_ended : (m : ℕ) → e.answer ≡ refused 10 → m ≡ length left → b.taken + m < b.ration → Turned c f b.rungs left m → e.output ≡ last_judged b.rungs left m out → Seeks c b all f out e
        seeks_ended m a h r t o = record {
          open_still = (λ k. cc, λ p. cc);
          short = (λ k. cc, λ p. absurd (omega arith));
          spent = (λ k. cc, λ p. absurd (omega (arith, length_left)));
          ended = (λ k. (ready, omega (arith, length_left), λ j l. omega (arith, length_left, l.inside, not_before m t j l)), λ p. a);
          served = λ w j l s. absurd (omega (arith, length_left, l.inside, not_before m t j l));
          gives = λ k v g. cc;
          holds = holds_after m (taken_after b (length all) e.answer) (ap (taken_after b (length all)) a ∙ sym length_left ∙ ap (λ x. b.taken + x) (sym h)) o;
        }

        -- the last one passed
        seeks_passed : (m i : ℕ) → m ≡ suc i → m ≤ length left → b.taken + m ≤ b.ration → e.answer ≡ given (b.taken + m) (cost c b.rungs (get_or left i [])) → f (steps b.rungs (get_or left i [])) ≡ true → Turned c f b.rungs left i → e.output ≡ last_judged b.rungs left m out → Seeks c b all f out e
        seeks_passed m i is h r a p t o = record {
          open_still = (λ k. cc, λ q. cc);
          short = (λ k. cc, λ q. absurd (omega arith));
          spent = (λ k. cc, λ q. absurd (omega (arith, q.2 (b.taken + i) chosen)));
          ended = (λ k. cc, λ q. absurd (q.2 (b.taken + i) chosen));
          served = λ w j l s. (b.taken + m, cost c b.rungs (get_or left i []), a);
          gives = λ k v g. gives_it k v (given_is g a).0 (given_is g a).1;
          holds = holds_after m (taken_after b (length all) e.answer) (ap (taken_after b (length all)) a) o;
        }
          where
            chosen : IsLeft (b.taken + i)
            chosen = record { untaken = omega arith; inside = omega (arith, length_left); passes = ap (λ w. f (steps b.rungs w)) (sym (left_at i)) ∙ p }

            gives_it : (k : ℕ) (v : V) → k ≡ b.taken + m → v ≡ cost c b.rungs (get_or left i []) → Gives c b all f out k v
            gives_it k v ke ve =
                let at_k : b.taken + i ≡ k - 1 = omega arith in
                let worth : v ≡ cost c b.rungs (get_or all (b.taken + i) []) = ve ∙ ap (cost c b.rungs) (left_at i) in
                record {
                  from_one = omega arith;
                  rationed = omega arith;
                  is_left = subst IsLeft at_k chosen;
                  costs = worth ∙ ap (λ n. cost c b.rungs (get_or all n [])) at_k;
                  first = λ j l. omega (arith, not_before i t j l);
                  cheapest = λ j l. subst (λ x. is_le (c.compare x (cost c b.rungs (get_or all j []))) ≡ true) (sym worth) (cheaper (b.taken + i) j (not_before i t j l) l.inside);
                }

        seeks_judged : (o : Outcome V) (m : ℕ) → e.answer ≡ o.answer → e.output ≡ o.output → Judged c f left b out o m → Way c f left b o m → Seeks c b all f out e
        seeks_judged o m ea eo j (spent a r t) = seeks_spent m (ea ∙ a) r j.few t (eo ∙ j.output)
        seeks_judged o m ea eo j (ended a h r t) = seeks_ended m (ea ∙ a) h r t (eo ∙ j.output)
        seeks_judged o m ea eo j (passed i is a p t) = seeks_passed m i is j.few j.rationed (ea ∙ a) p t (eo ∙ j.output)

      -- a refusal before any judging leaves the output
      untouched : (q : ℕ) → e.answer ≡ refused q → taken_after {V = V} b (length all) (refused q) ≡ b.taken → e.output ≡ out → e.output ≡ held c b all f out (taken_after b (length all) e.answer)
      untouched q a t o = holds_after 0 (taken_after b (length all) e.answer) (ap (taken_after b (length all)) a ∙ t ∙ (let z : b.taken ≡ b.taken + 0 = omega arith in z)) o

      seeks_open : b.closed ≡ false → e.answer ≡ refused 7 → e.output ≡ out → Seeks c b all f out e
      seeks_open h a o = record {
        open_still = (λ k. h, λ p. a);
        short = (λ k. cc, λ p. cc);
        spent = (λ k. cc, λ p. cc);
        ended = (λ k. cc, λ p. cc);
        served = λ w j l s. cc;
        gives = λ k v g. cc;
        holds = untouched 7 a refl o;
      }

      seeks_short : b.closed ≡ true → length out < length b.rungs → e.answer ≡ refused 8 → e.output ≡ out → Seeks c b all f out e
      seeks_short h s a o = record {
        open_still = (λ k. cc, λ p. cc);
        short = (λ k. (h, s), λ p. a);
        spent = (λ k. cc, λ p. absurd (no_room p.0));
        ended = (λ k. cc, λ p. absurd (no_room p.0));
        served = λ w j l q. absurd (no_room w);
        gives = λ k v g. cc;
        holds = untouched 8 a refl o;
      }
        where
          no_room : Ready c b all f out → ⊥
          no_room w = let r : length b.rungs ≤ length out = w.room in omega arith

      seeks_by : (x y : Bool) → b.closed ≡ x → leb (length b.rungs) (length out) ≡ y → (o : Outcome V) → e.answer ≡ o.answer → e.output ≡ o.output → o ≡ cond x (cond y (judging c f left b out) (record { answer = refused 8; output = out; book = b })) (record { answer = refused 7; output = out; book = b }) → Seeks c b all f out e
      seeks_by false y h k o ea eo is = seeks_open h (ea ∙ ap (λ z. z.answer) is) (eo ∙ ap (λ z. z.output) is)
      seeks_by true false h k o ea eo is = seeks_short h (leb-false (length b.rungs) (length out) k) (ea ∙ ap (λ z. z.answer) is) (eo ∙ ap (λ z. z.output) is)
      seeks_by true true h k o ea eo is =
          let j = judged c f left b out left_long in_ration in
          seeks_judged h (leb-true (length b.rungs) (length out) k) (judging c f left b out) j.0 (ea ∙ ap (λ z. z.answer) is) (eo ∙ ap (λ z. z.output) is) j.1 j.1.way

      pub seeks : e.answer ≡ (seeking c b f out).answer → e.output ≡ (seeking c b f out).output → Seeks c b all f out e
      seeks ea eo = seeks_by b.closed (leb (length b.rungs) (length out)) refl refl (seeking c b f out) ea eo refl

      -- what seeking leaves: n tracks taken, within the ration and the list, and none more on a ladder that is open
      pub record Took (o : Outcome V) (n : ℕ) : Type 0 where
        pub book : o.book ≡ with_taken b n
        pub after : taken_after b (length all) o.answer ≡ n
        pub rationed : n ≤ b.ration
        pub inside : n ≤ length all
        pub unopened : b.closed ≡ false → n ≡ b.taken

      took_way : b.closed ≡ true → (o : Outcome V) (m : ℕ) → Judged c f left b out o m → Way c f left b o m → Took o (b.taken + m)
      took_way h o m j w = record {
        book = j.book;
        after = counts w;
        rationed = j.rationed;
        inside = omega (arith, j.few, length_left);
        unopened = λ k. cc;
      }
        where
          counts : Way c f left b o m → taken_after b (length all) o.answer ≡ b.taken + m
          counts (spent a r t) = ap (taken_after b (length all)) a ∙ sym r
          counts (ended a e r t) = ap (taken_after b (length all)) a ∙ sym length_left ∙ ap (λ x. b.taken + x) (sym e)
          counts (passed i is a p t) = ap (taken_after b (length all)) a

      took_by : (x y : Bool) → b.closed ≡ x → (n : ℕ) × Took (cond x (cond y (judging c f left b out) (record { answer = refused 8; output = out; book = b })) (record { answer = refused 7; output = out; book = b })) n
      took_by false y h = (b.taken, record { book = refl; after = refl; rationed = in_ration; inside = in_List; unopened = λ k. refl })
      took_by true false h = (b.taken, record { book = refl; after = refl; rationed = in_ration; inside = in_List; unopened = λ k. refl })
      took_by true true h = let j = judged c f left b out left_long in_ration in (b.taken + j.0, took_way h (judging c f left b out) j.0 j.1 j.1.way)

      pub took : (n : ℕ) × Took (seeking c b f out) n
      took = took_by b.closed (leb (length b.rungs) (length out)) refl

    -- next
    module _ (out : List Step) (e : Event V) (s : Seeks c b all any out e) where
      abbrev OpenTo : ℕ → Type 0
      OpenTo = Left c b all any out

      -- the first untaken track, if there is one
      at_first : b.taken < length all → OpenTo b.taken
      at_first h = record { untaken = omega arith; inside = h; passes = refl }

      spent_next : (b.ration ≤ length all) × ((j : ℕ) → OpenTo j → b.ration ≤ j) → b.ration ≤ b.taken
      spent_next p = ⊎_elim (λ h. p.1 b.taken (at_first h)) (λ h. omega arith) (cases_lt b.taken (length all))

      ended_next : ((j : ℕ) → OpenTo j → ⊥) → length all ≤ b.taken
      ended_next p = ⊎_elim (λ h. absurd (p b.taken (at_first h))) (λ h. h) (cases_lt b.taken (length all))

      -- a refusal leaves the count of taken tracks
      count_stays : (q : ℕ) → e.answer ≡ refused q → taken_after {V = V} b (length all) (refused q) ≡ b.taken
      count_stays q a = step (cases_eq q 9) (cases_eq q 10)
        where
          step : (q ≡ 9) ⊎ (q ≡ 9 → ⊥) → (q ≡ 10) ⊎ (q ≡ 10 → ⊥) → taken_after {V = V} b (length all) (refused q) ≡ b.taken
          step (inl h) k =
              let p = s.spent.0 (a ∙ ap refused h) in
              ap (λ n. taken_after {V = V} b (length all) (refused n)) h ∙ (let z : b.ration ≡ b.taken = omega (arith, spent_next (p.1, p.2)) in z)
          step (inr h) (inl k) =
              let p = s.ended.0 (a ∙ ap refused k) in
              ap (λ n. taken_after {V = V} b (length all) (refused n)) k ∙ (let z : length all ≡ b.taken = omega (arith, ended_next p.2) in z)
          step (inr h) (inr k) = rw (ne_eqb q 9 h, ne_eqb q 10 k)

      output_stays : (q : ℕ) → e.answer ≡ refused q → e.output ≡ out
      output_stays q a =
          let n : taken_after b (length all) e.answer ≡ b.taken = ap (taken_after b (length all)) a ∙ count_stays q a in
          let none : ltb b.taken b.taken ≡ false = le-ltb b.taken b.taken (omega arith) in
          rw (s.holds, n, none)

      pub nexts : Nexts c b all out e
      nexts = record {
        seeks = s;
        in_turn = λ k v a.
            let g = s.gives k v a in
            let one = g.from_one in
            let u = g.is_left.untaken in
            let l = g.is_left.inside in
            let h = g.first b.taken (at_first (omega arith)) in
            omega arith;
        spent = (λ a. let p = s.spent.0 a in (p.0, spent_next (p.1, p.2)), λ p. s.spent.1 (p.0, omega arith, λ j l. omega (arith, l.untaken)));
        ended = (λ a. let p = s.ended.0 a in (p.0, p.1, ended_next p.2), λ p. s.ended.1 (p.0, p.1, λ j l. omega (arith, l.untaken, l.inside)));
        leaves = λ q a. (refusal_leaves (length all) b e q a (count_stays q a), output_stays q a);
      }
