-- Where fields stop is the first no in file order, and the other way round.
use Rattle.std.proofs.Common.{◌≡◌, ℕ, ◌+◌, true, false, cond, ◌⊎◌, List, [], ◌∷◌, ◌++◌, map, length, take, drop, Some, None, sym, refl, ap, ◌∙◌, subst, inl, inr, ⊎_elim, append_assoc, add-zero, arith}
use Rattle.std.specs.List.{AllByRecursion}
use Rattle.std.proofs.lemmas.List.{take_at, take-append-drop, append-nil, length-append}
use Rattle.job.specs.declared.faults.Question.{Question}
use Rattle.job.specs.Layout.{Ask, Piece, written}
use Rattle.job.specs.Refusals.{Put, questions, first_no, FirstNo}
use Rattle.job.proofs.Laws.{Answered, Stops, field_no, written_append, next, split}

abbrev put : List ℕ → ℕ → Ask → Put
put s p a = record { question = a.question; place = p; answer = a.answer (drop p s) }

-- the questions of one field, and then others
ask_no : (l : List Ask) (s : List ℕ) (p : ℕ) (n : Question) (m : List Put) → field_no l (drop p s) ≡ Some n → first_no (map (put s p) l ++ m) ≡ Some (n, p)
ask_no [] s p n m e = cc
ask_no (a ∷ l) s p n m e =
    elim (a.answer (drop p s)) as (λ b. cond b (field_no l (drop p s)) (Some a.question) ≡ Some n → cond b (first_no (map (put s p) l ++ m)) (Some (a.question, p)) ≡ Some (n, p))
    [ true ↦ λ h. ask_no l s p n m h | false ↦ λ h. (let f : a.question ≡ n = cc in ap (λ q. Some (q, p)) f) ] e

ask_yes : (l : List Ask) (s : List ℕ) (p : ℕ) (m : List Put) → field_no l (drop p s) ≡ None → first_no (map (put s p) l ++ m) ≡ first_no m
ask_yes [] s p m e = refl
ask_yes (a ∷ l) s p m e =
    elim (a.answer (drop p s)) as (λ b. cond b (field_no l (drop p s)) (Some a.question) ≡ None → cond b (first_no (map (put s p) l ++ m)) (Some (a.question, p)) ≡ first_no m)
    [ true ↦ λ h. ask_yes l s p m h | false ↦ λ h. (cc) ] e

ask_back : (l : List Ask) (s : List ℕ) (p : ℕ) (n : Question) (k : ℕ) (m : List Put) → first_no (map (put s p) l ++ m) ≡ Some (n, k)
    → ((field_no l (drop p s) ≡ Some n) × (k ≡ p)) ⊎ (first_no m ≡ Some (n, k))
ask_back [] s p n k m e = inr e
ask_back (a ∷ l) s p n k m e =
    elim (a.answer (drop p s)) as (λ b. cond b (first_no (map (put s p) l ++ m)) (Some (a.question, p)) ≡ Some (n, k)
    → ((cond b (field_no l (drop p s)) (Some a.question) ≡ Some n) × (k ≡ p)) ⊎ (first_no m ≡ Some (n, k)))
    [ true ↦ λ h. ask_back l s p n k m h | false ↦ λ h. (let g : ◌≡◌ {A = Question × ℕ} (a.question, p) (n, k) = cc in inl (ap (λ c. Some c.0) g, sym (ap (λ c. c.1) g))) ] e

-- a field that gets a no after fields that get a yes
first_of : (before : List Piece) (c : Piece) (after : List Piece) (s : List ℕ) (p : ℕ) (rest : List ℕ) (n : Question) (k : ℕ) → AllByRecursion Answered before
    → drop p s ≡ written before ++ rest → k ≡ p + length (written before) → field_no c.asks rest ≡ Some n → first_no (questions s p (before ++ c ∷ after)) ≡ Some (n, k)
first_of [] c after s p rest n k w b e h =
    ask_no c.asks s p n (questions s (p + length c.bytes) after) (ap (field_no c.asks) b ∙ h) ∙ ap (λ i. Some (n, i)) (sym (e ∙ add-zero p))
first_of (d ∷ before) c after s p rest n k w b e h =
    let b' : drop p s ≡ d.bytes ++ (written before ++ rest) = b ∙ append_assoc d.bytes (written before) rest in
    let e' : k ≡ p + length d.bytes + length (written before) = omega (arith, e, length-append d.bytes (written before)) in
    ask_yes d.asks s p (questions s (p + length d.bytes) (before ++ c ∷ after)) (ap (field_no d.asks) b' ∙ w.0 (written before ++ rest))
    ∙ first_of before c after s (p + length d.bytes) rest n k w.1 (next s d.bytes (written before ++ rest) p b') e' h

-- the field that gets the first no
record Culprit (l : List Piece) (s : List ℕ) (p : ℕ) (n : Question) (k : ℕ) : Type 0 where
  before : List Piece
  piece : Piece
  after : List Piece
  order : l ≡ before ++ piece ∷ after
  place : k ≡ p + length (written before)
  no : field_no piece.asks (drop k s) ≡ Some n

culprit : (l : List Piece) (s : List ℕ) (p : ℕ) (n : Question) (k : ℕ) → first_no (questions s p l) ≡ Some (n, k) → Culprit l s p n k
culprit [] s p n k e = cc
culprit (c ∷ l) s p n k e = ⊎_elim
    (λ i. record { before = []; piece = c; after = l; order = refl; place = i.1 ∙ sym (add-zero p); no = ap (λ m. field_no c.asks (drop m s)) i.1 ∙ i.0 })
    (λ i.
    let t = culprit l s (p + length c.bytes) n k i in
    record {
      before = c ∷ t.before;
      piece = t.piece;
      after = t.after;
      order = ap (λ m. c ∷ m) t.order;
      place = omega (arith, t.place, length-append c.bytes (written t.before));
      no = t.no;
    })
    (ask_back c.asks s p n k (questions s (p + length c.bytes) l) e)

module _ {A : Type 0} {w : A → List Piece} {fit : A → Type 0} where
  pub no_from_stops : (s : List ℕ) (n : Question) (k : ℕ) (a : A) → fit a → (t : Stops (w a) s 0 n k) → AllByRecursion Answered t.before → FirstNo w fit s n k
  no_from_stops s n k a f t y =
      let l = written t.before in
      let m : length l ≡ k = omega (arith, t.place) in
      record {
        value = a;
        fit = f;
        begins = ap (take k) t.bytes ∙ take_at l t.rest k m ∙ sym (ap (λ x. take k (written x)) t.order ∙ ap (take k) (written_append t.before (t.piece ∷ t.after)) ∙ take_at l (written (t.piece ∷ t.after)) k m);
        no = ap (λ x. first_no (questions s 0 x)) t.order ∙ first_of t.before t.piece t.after s 0 t.rest n k y t.bytes t.place t.no;
      }

  pub stops_from_no : (s : List ℕ) (n : Question) (k : ℕ) (r : FirstNo w fit s n k) → Stops (w r.value) s 0 n k
  stops_from_no s n k r =
      let t = culprit (w r.value) s 0 n k r.no in
      let l = written t.before in
      let m : length l ≡ k = omega (arith, t.place) in
      let b : take k s ≡ l = r.begins ∙ ap (λ x. take k (written x)) t.order ∙ ap (take k) (written_append t.before (t.piece ∷ t.after)) ∙ take_at l (written (t.piece ∷ t.after)) k m in
      record {
        before = t.before;
        piece = t.piece;
        after = t.after;
        order = t.order;
        rest = drop k s;
        bytes = sym (take-append-drop k s) ∙ ap (λ x. x ++ drop k s) b;
        place = t.place;
        no = t.no;
      }

-- fields that get a yes, and the first of them
pub all_left : (l m : List Piece) → AllByRecursion Answered (l ++ m) → AllByRecursion Answered l
all_left [] m y = tt
all_left (c ∷ l) m y = (y.0, all_left l m y.1)

pub all_but_last : (l : List Piece) (e : Piece) (before : List Piece) (c : Piece) (after : List Piece) → AllByRecursion Answered l → l ++ e ∷ [] ≡ before ++ c ∷ after → AllByRecursion Answered before
all_but_last l e before c after y o = ⊎_elim
    (λ t. all_left before (c ∷ t.0) (subst (AllByRecursion Answered) t.1 y))
    (λ t. subst (AllByRecursion Answered) (sym (t.1 ∙ ap (λ m. l ++ m) (last_none t.0 t.2) ∙ append-nil l)) y)
    (split l (e ∷ []) before c after o)
  where
    last_none : (m : List Piece) → e ∷ [] ≡ m ++ c ∷ after → m ≡ []
    last_none [] h = refl
    last_none (d ∷ []) h = cc
    last_none (d ∷ (d' ∷ m)) h = cc
