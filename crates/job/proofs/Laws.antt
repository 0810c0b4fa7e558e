-- Readers that keep to a layout, and how larger ones are made of smaller ones.
use Rattle.std.proofs.Common.{◌≡◌, ℕ, zero, suc, ◌+◌, ◌<◌, ◌≤◌, Bool, true, false, cond, ◌⊎◌, List, [], ◌∷◌, ◌++◌, length, get_or, drop, Some, None, Option, sym, refl, ap, ◌∙◌, subst, inl, inr, ⊎_elim, append_assoc, add-zero, arith}
use Rattle.std.specs.List.{flat_map, AllByRecursion}
use Rattle.std.proofs.lemmas.List.{length-append, length-drop, drop-drop, drop_at, nil_from_length}
use Rattle.std.proofs.ByRecursion.{All-append}
use Rattle.job.specs.declared.faults.Question.{Question}
use Rattle.job.specs.Layout.{Ask, Piece, written, optional}
use Rattle.job.specs.Reading.{Out, got, fault, and_then, Read, opt, pair, under, many, via}
use Rattle.job.proofs.Outs.{never, then_got, then_fault, then_is, then_not}

-- each element is a byte
abbrev pub Bytes : List ℕ → Type 0
Bytes s = (i : ℕ) → get_or s i 0 < 256

-- the first no to the questions of one field
abbrev pub field_no : List Ask → List ℕ → Option Question
field_no [] rest = None
field_no (a ∷ l) rest = cond (a.answer rest) (field_no l rest) (Some a.question)

-- a field whose own bytes get a yes to all its questions, whatever follows
abbrev pub Answered : Piece → Type 0
Answered c = (rest : List ℕ) → field_no c.asks (c.bytes ++ rest) ≡ None

-- s holds, from p to q, the fields l
pub record Stands (l : List Piece) (s : List ℕ) (p q : ℕ) : Type 0 where
  pub room : q ≤ length s
  pub far : q ≡ p + length (written l)
  pub bytes : drop p s ≡ written l ++ drop q s

-- s holds, from p to k, the first of the fields l, and the next gets a no to n
pub record Stops (l : List Piece) (s : List ℕ) (p : ℕ) (n : Question) (k : ℕ) : Type 0 where
  pub before : List Piece
  pub piece : Piece
  pub after : List Piece
  pub order : l ≡ before ++ piece ∷ after
  pub rest : List ℕ
  pub bytes : drop p s ≡ written before ++ rest
  pub place : k ≡ p + length (written before)
  pub no : field_no piece.asks rest ≡ Some n

-- a reader that answers a value exactly where it stands, and a refusal exactly where some value's fields stop
pub record Lawful {A : Type 0} (r : Read A) (w : A → List Piece) (fit : A → Type 0) : Type 0 where
  pub sound : (s : List ℕ) (p : ℕ) (a : A) (q : ℕ) → Bytes s → p ≤ length s → r s p ≡ got a q → fit a × Stands (w a) s p q
  pub full : (s : List ℕ) (p : ℕ) (a : A) (rest : List ℕ) → p ≤ length s → fit a → drop p s ≡ written (w a) ++ rest → r s p ≡ got a (p + length (written (w a)))
  pub stops : (s : List ℕ) (p : ℕ) (n : Question) (k : ℕ) → Bytes s → p ≤ length s → r s p ≡ fault n k → (a : A) × fit a × Stops (w a) s p n k
  pub first : (s : List ℕ) (p : ℕ) (n : Question) (k : ℕ) (a : A) → p ≤ length s → fit a → Stops (w a) s p n k → r s p ≡ fault n k
  pub clear : (a : A) → fit a → AllByRecursion Answered (w a)
  pub some : (a : A) × fit a

-- bytes and places
pub written_append : (l m : List Piece) → written (l ++ m) ≡ written l ++ written m
written_append [] m = refl
written_append (c ∷ l) m = ap (λ x. c.bytes ++ x) (written_append l m) ∙ sym (append_assoc c.bytes (written l) (written m))

pub fits_in : (s l rest : List ℕ) (p : ℕ) → p ≤ length s → drop p s ≡ l ++ rest → p + length l ≤ length s
fits_in s l rest p h e = omega (arith, length-drop p s, ap length e, length-append l rest)

pub next : (s l rest : List ℕ) (p : ℕ) → drop p s ≡ l ++ rest → drop (p + length l) s ≡ rest
next s l rest p e = sym (drop-drop (length l) p s) ∙ ap (drop (length l)) e ∙ drop_at l rest (length l) refl

-- a field of two lists of fields lies in one of them
pub split : (l m before : List Piece) (c : Piece) (after : List Piece) → l ++ m ≡ before ++ c ∷ after
    → ((tail : List Piece) × (l ≡ before ++ c ∷ tail)) ⊎ ((tail : List Piece) × (before ≡ l ++ tail) × (m ≡ tail ++ c ∷ after))
split [] m before c after e = inr (before, refl, e)
split (x ∷ l) m [] c after e = let f : x ≡ c = cc in inl (l, ap (λ y. y ∷ l) f)
split (x ∷ l) m (b ∷ before) c after e =
    let f : x ≡ b = cc in
    let g : l ++ m ≡ before ++ c ∷ after = cc in
    ⊎_elim (λ t. inl (t.0, (cc (f, t.1)))) (λ t. inr (t.0, (cc (f, t.1)), t.2)) (split l m before c after g)

-- two lists of fields, one after the other
stand_both : (l m : List Piece) (s : List ℕ) (p q r : ℕ) → Stands l s p q → Stands m s q r → Stands (l ++ m) s p r
stand_both l m s p q r u z =
    let all = written_append l m in
    record {
      room = z.room;
      far = omega (arith, u.far, z.far, ap length all, length-append (written l) (written m));
      bytes = u.bytes ∙ ap (λ x. written l ++ x) z.bytes ∙ sym (append_assoc (written l) (written m) (drop r s)) ∙ ap (λ x. x ++ drop r s) (sym all);
    }

pub stop_left : (l m : List Piece) (s : List ℕ) (p : ℕ) (n : Question) (k : ℕ) → Stops l s p n k → Stops (l ++ m) s p n k
stop_left l m s p n k t = record {
  before = t.before;
  piece = t.piece;
  after = t.after ++ m;
  order = ap (λ x. x ++ m) t.order ∙ append_assoc t.before (t.piece ∷ t.after) m;
  rest = t.rest;
  bytes = t.bytes;
  place = t.place;
  no = t.no;
}

pub stop_right : (l m : List Piece) (s : List ℕ) (p q : ℕ) (n : Question) (k : ℕ) → Stands l s p q → Stops m s q n k → Stops (l ++ m) s p n k
stop_right l m s p q n k u t =
    let all = written_append l t.before in
    record {
      before = l ++ t.before;
      piece = t.piece;
      after = t.after;
      order = ap (λ x. l ++ x) t.order ∙ sym (append_assoc l t.before (t.piece ∷ t.after));
      rest = t.rest;
      bytes = u.bytes ∙ ap (λ x. written l ++ x) t.bytes ∙ sym (append_assoc (written l) (written t.before) t.rest) ∙ ap (λ x. x ++ t.rest) (sym all);
      place = omega (arith, u.far, t.place, ap length all, length-append (written l) (written t.before));
      no = t.no;
    }

-- where two lists of fields stop, the first does, or it stands and the second stops
pub stop_both : (l m : List Piece) (s : List ℕ) (p : ℕ) (n : Question) (k : ℕ) → Stops (l ++ m) s p n k
    → Stops l s p n k ⊎ ((rest : List ℕ) × (drop p s ≡ written l ++ rest) × Stops m s (p + length (written l)) n k)
stop_both l m s p n k t = ⊎_elim
    (λ c. inl (record { before = t.before; piece = t.piece; after = c.0; order = c.1; rest = t.rest; bytes = t.bytes; place = t.place; no = t.no }))
    (λ c.
    let all : written t.before ≡ written l ++ written c.0 = ap written c.1 ∙ written_append l c.0 in
    let whole : drop p s ≡ written l ++ (written c.0 ++ t.rest) = t.bytes ∙ ap (λ x. x ++ t.rest) all ∙ append_assoc (written l) (written c.0) t.rest in
    inr (
      written c.0 ++ t.rest,
      whole,
      record {
        before = c.0;
        piece = t.piece;
        after = t.after;
        order = c.2;
        rest = t.rest;
        bytes = next s (written l) (written c.0 ++ t.rest) p whole;
        place = omega (arith, t.place, ap length all, length-append (written l) (written c.0));
        no = t.no;
      },
    ))
    (split l m t.before t.piece t.after t.order)

-- a head, and a body that tells it
pub under_lawful : {A B : Type 0} {f : Read A} {wf : A → List Piece} {ff : A → Type 0} {g : A → Read B} {wg : A → B → List Piece} {fg : A → B → Type 0} (head : B → A)
    → Lawful f wf ff → ((a : A) → Lawful (g a) (wg a) (fg a)) → ((a : A) (b : B) → ff a → fg a b → head b ≡ a)
    → Lawful (under f g) (λ b. wf (head b) ++ wg (head b) b) (λ b. ff (head b) × fg (head b) b)
under_lawful {f = f} {wf = wf} {ff = ff} {g = g} {wg = wg} {fg = fg} head x y told = record {
  sound = λ s p b r bs h e.
      let t = then_got (f s p) (λ a q. g a s q) b r e in
      let u = x.sound s p t.0 t.1 bs h t.2 in
      let z = (y t.0).sound s t.1 b r bs u.1.room t.3 in
      subst (λ a. (ff a × fg a b) × Stands (wf a ++ wg a b) s p r) (sym (told t.0 b u.0 z.0))
      ((u.0, z.0), stand_both (wf t.0) (wg t.0 b) s p t.1 r u.1 z.1);
  full = λ s p b rest h w e.
      let a = head b in
      let l = written (wf a) in
      let m = written (wg a b) in
      let all = written_append (wf a) (wg a b) in
      let ea = e ∙ ap (λ c. c ++ rest) all ∙ append_assoc l m rest in
      let u = x.full s p a (m ++ rest) h w.0 ea in
      let z = (y a).full s (p + length l) b rest (fits_in s l (m ++ rest) p h ea) w.1 (next s l (m ++ rest) p ea) in
      let k : p + length l + length m ≡ p + length (written (wf a ++ wg a b)) = omega (arith, ap length all, length-append l m) in
      then_is (f s p) (λ c q. g c s q) a (p + length l) u ∙ z ∙ ap (got b) k;
  stops = λ s p n k bs h e. ⊎_elim
      (λ e'.
      let t = x.stops s p n k bs h e' in
      let b = (y t.0).some in
      let z = subst (λ a. (ff a × fg a b.0) × Stops (wf a ++ wg a b.0) s p n k) (sym (told t.0 b.0 t.1 b.1))
      ((t.1, b.1), stop_left (wf t.0) (wg t.0 b.0) s p n k t.2) in
      (b.0, z.0, z.1))
      (λ d.
      let u = x.sound s p d.0 d.1 bs h d.2 in
      let t = (y d.0).stops s d.1 n k bs u.1.room d.3 in
      let z = subst (λ a. (ff a × fg a t.0) × Stops (wf a ++ wg a t.0) s p n k) (sym (told d.0 t.0 u.0 t.1))
      ((u.0, t.1), stop_right (wf d.0) (wg d.0 t.0) s p d.1 n k u.1 t.2) in
      (t.0, z.0, z.1))
      (then_fault (f s p) (λ a q. g a s q) n k e);
  first = λ s p n k b h w t.
      let a = head b in
      ⊎_elim
      (λ c. then_not (f s p) (λ d q. g d s q) n k (x.first s p n k a h w.0 c))
      (λ c. then_is (f s p) (λ d q. g d s q) a (p + length (written (wf a))) (x.full s p a c.0 h w.0 c.1)
      ∙ (y a).first s (p + length (written (wf a))) n k b (fits_in s (written (wf a)) c.0 p h c.1) w.1 c.2)
      (stop_both (wf a) (wg a b) s p n k t);
  clear = λ b w. All-append Answered (wf (head b)) (wg (head b) b) (x.clear (head b) w.0) ((y (head b)).clear b w.1);
  some =
      let a = x.some in
      let b = (y a.0).some in
      (b.0, subst (λ c. ff c × fg c b.0) (sym (told a.0 b.0 a.1 b.1)) (a.1, b.1));
}

-- the same reader, and the same layout in other words
pub lawful_again : {A : Type 0} {r : Read A} {w : A → List Piece} {fit : A → Type 0} (r' : Read A) (w' : A → List Piece) (fit' : A → Type 0)
    → ((s : List ℕ) (p : ℕ) → r s p ≡ r' s p) → ((a : A) → fit a → w a ≡ w' a) → ((a : A) → fit a → fit' a) → ((a : A) → fit' a → fit a)
    → Lawful r w fit → Lawful r' w' fit'
lawful_again r' w' fit' same laid there back x = record {
  sound = λ s p a q bs h e.
      let u = x.sound s p a q bs h (same s p ∙ e) in
      (there a u.0, subst (λ l. Stands l s p q) (laid a u.0) u.1);
  full = λ s p a rest h w e.
      let g = laid a (back a w) in
      sym (same s p) ∙ x.full s p a rest h (back a w) (e ∙ ap (λ l. written l ++ rest) (sym g)) ∙ ap (λ l. got a (p + length (written l))) g;
  stops = λ s p n k bs h e.
      let t = x.stops s p n k bs h (same s p ∙ e) in
      (t.0, there t.0 t.1, subst (λ l. Stops l s p n k) (laid t.0 t.1) t.2);
  first = λ s p n k a h w t.
      sym (same s p) ∙ x.first s p n k a h (back a w) (subst (λ l. Stops l s p n k) (sym (laid a (back a w))) t);
  clear = λ a w. subst (AllByRecursion Answered) (laid a (back a w)) (x.clear a (back a w));
  some = (x.some.0, there x.some.0 x.some.1);
}

-- the same values as another type
pub via_lawful : {A B : Type 0} {r : Read A} {w : A → List Piece} {fit : A → Type 0} (h : A → B) (from : B → A) → ((a : A) → from (h a) ≡ a)
    → Lawful r w fit → Lawful (via h r) (λ b. w (from b)) (λ b. fit (from b) × (h (from b) ≡ b))
via_lawful {r = r} {w = w} {fit = fit} h from there x = record {
  sound = λ s p b q bs l e.
      let t = then_got (r s p) (λ a k. got (h a) k) b q e in
      let u = x.sound s p t.0 t.1 bs l t.2 in
      let i : h t.0 ≡ b = cc t.3 in
      let j : t.1 ≡ q = cc t.3 in
      let f : t.0 ≡ from b = sym (there t.0) ∙ ap from i in
      ((subst fit f u.0, ap h (sym f) ∙ i), subst (λ a. Stands (w a) s p q) f (subst (λ m. Stands (w t.0) s p m) j u.1));
  full = λ s p b rest l v e. then_is (r s p) (λ a k. got (h a) k) (from b) _ (x.full s p (from b) rest l v.0 e) ∙ ap (λ c. got c (p + length (written (w (from b))))) v.1;
  stops = λ s p n k bs l e. ⊎_elim
      (λ f.
      let t = x.stops s p n k bs l f in
      let i = sym (there t.0) in
      (h t.0, (subst fit i t.1, ap h (sym i)), subst (λ a. Stops (w a) s p n k) i t.2))
      (λ d. absurd (never d.3))
      (then_fault (r s p) (λ a q. got (h a) q) n k e);
  first = λ s p n k b l v t. then_not (r s p) (λ a q. got (h a) q) n k (x.first s p n k (from b) l v.0 t);
  clear = λ b v. x.clear (from b) v.0;
  some = (h x.some.0, (subst fit (sym (there x.some.0)) x.some.1, ap h (there x.some.0)));
}

-- there only if b
abbrev pub fits_opt : {A : Type 0} → Bool → (A → Type 0) → Option A → Type 0
fits_opt b P None = b ≡ false
fits_opt b P (Some a) = (b ≡ true) × P a

nothing_stops : (s : List ℕ) (p : ℕ) (n : Question) (k : ℕ) → Stops [] s p n k → ⊥
nothing_stops s p n k t = held t.before t.order
  where
    held : (l : List Piece) → [] ≡ l ++ t.piece ∷ t.after → ⊥
    held [] e = cc
    held (c ∷ l) e = cc

module _ {A : Type 0} {r : Read A} {w : A → List Piece} {fit : A → Type 0} (x : Lawful r w fit) where
  opt_there : Lawful (opt true r) (optional w) (fits_opt true fit)
  opt_there = record {
    sound = λ s p o q bs h e.
        let t = then_got (r s p) (λ a k. got (Some a) k) o q e in
        let u = x.sound s p t.0 t.1 bs h t.2 in
        let i : Some t.0 ≡ o = cc t.3 in
        let j : t.1 ≡ q = cc t.3 in
        subst (λ v. fits_opt true fit v × Stands (optional w v) s p q) i ((refl, u.0), subst (λ m. Stands (w t.0) s p m) j u.1);
    full = λ s p o rest h.
        elim o as (λ v. fits_opt true fit v → drop p s ≡ written (optional w v) ++ rest → opt true r s p ≡ got v (p + length (written (optional w v)))) [
          | None ↦ λ v e. (cc)
          | Some a ↦ λ v e. then_is (r s p) (λ b k. got (Some b) k) a _ (x.full s p a rest h v.1 e)
        ];
    stops = λ s p n k bs h e. ⊎_elim
        (λ f. let t = x.stops s p n k bs h f in (Some t.0, (refl, t.1), t.2))
        (λ d. absurd (never d.3))
        (then_fault (r s p) (λ a q. got (Some a) q) n k e);
    first = λ s p n k o h.
        elim o as (λ v. fits_opt true fit v → Stops (optional w v) s p n k → opt true r s p ≡ fault n k) [
          | None ↦ λ v t. absurd (nothing_stops s p n k t)
          | Some a ↦ λ v t. then_not (r s p) (λ b q. got (Some b) q) n k (x.first s p n k a h v.1 t)
        ];
    clear = λ o. elim o as (λ v. fits_opt true fit v → AllByRecursion Answered (optional w v)) [ None ↦ λ v. tt | Some a ↦ λ v. x.clear a v.1 ];
    some = (Some x.some.0, (refl, x.some.1));
  }

  opt_not : Lawful (opt false r) (optional w) (fits_opt false fit)
  opt_not = record {
    sound = λ s p o q bs h e.
        let i : None ≡ o = cc in
        let j : p ≡ q = cc in
        subst (λ v. fits_opt false fit v × Stands (optional w v) s p q) i (refl, record { room = omega arith; far = omega arith; bytes = ap (λ n. drop n s) j });
    full = λ s p o rest h.
        elim o as (λ v. fits_opt false fit v → drop p s ≡ written (optional w v) ++ rest → opt false r s p ≡ got v (p + length (written (optional w v)))) [
          | None ↦ λ v e. ap (got None) (sym (add-zero p))
          | Some a ↦ λ v e. (cc v.0)
        ];
    stops = λ s p n k bs h e. absurd (never e);
    first = λ s p n k o h.
        elim o as (λ v. fits_opt false fit v → Stops (optional w v) s p n k → opt false r s p ≡ fault n k) [
          | None ↦ λ v t. absurd (nothing_stops s p n k t)
          | Some a ↦ λ v t. (cc v.0)
        ];
    clear = λ o. elim o as (λ v. fits_opt false fit v → AllByRecursion Answered (optional w v)) [ None ↦ λ v. tt | Some a ↦ λ v. (cc v.0) ];
    some = (None, refl);
  }

  pub opt_lawful : (b : Bool) → Lawful (opt b r) (optional w) (fits_opt b fit)
  opt_lawful true = opt_there
  opt_lawful false = opt_not

-- one after the other
pub pair_lawful : {A B : Type 0} {f : Read A} {g : Read B} {wf : A → List Piece} {wg : B → List Piece} {ff : A → Type 0} {fg : B → Type 0}
    → Lawful f wf ff → Lawful g wg fg → Lawful (pair f g) (λ c. wf c.0 ++ wg c.1) (λ c. ff c.0 × fg c.1)
pair_lawful {f = f} {g = g} {wf = wf} {wg = wg} {ff = ff} {fg = fg} x y =
    lawful_again (pair f g) (λ c. wf c.0 ++ wg c.1) (λ c. ff c.0 × fg c.1)
    (λ s p. refl) (λ c w. refl) (λ c w. (w.0, w.1.0)) (λ c w. (w.0, (w.1, refl)))
    (under_lawful (λ c. c.0) x (λ a. via_lawful (λ b. (a, b)) (λ c. c.1) (λ b. refl) y) (λ a c u v. ap (λ d. d.0) (sym v.1)))

-- n of them
abbrev uncons : {A : Type 0} → A → List A → A × List A
uncons d [] = (d, [])
uncons d (a ∷ l) = (a, l)

abbrev cons : {A : Type 0} → A × List A → List A
cons c = c.0 ∷ c.1

many_cons : {A : Type 0} (n : ℕ) (r : Read A) (s : List ℕ) (p : ℕ) → via cons (pair r (many n r)) s p ≡ many (suc n) r s p
many_cons {A} n r s p = held (r s p)
  where
    inner : (o : Out (List A)) (a : A) → and_then (and_then o (λ b q. got (a, b) q)) (λ c q. got (cons c) q) ≡ and_then o (λ l q. got (a ∷ l) q)
    inner (got l q) a = refl
    inner (fault m q) a = refl

    held : (o : Out A) → and_then (and_then o (λ a q. and_then (many n r s q) (λ b e. got (a, b) e))) (λ c q. got (cons c) q) ≡ and_then o (λ a q. and_then (many n r s q) (λ l e. got (a ∷ l) e))
    held (got a q) = inner (many n r s q) a
    held (fault m q) = refl

module _ {A : Type 0} {r : Read A} {w : A → List Piece} {fit : A → Type 0} (x : Lawful r w fit) where
  none_lawful : Lawful (many 0 r) (flat_map w) (λ l. (length l ≡ 0) × AllByRecursion fit l)
  none_lawful = record {
    sound = λ s p l q bs h e.
        let i : [] ≡ l = cc in
        let j : p ≡ q = cc in
        subst (λ v. ((length v ≡ 0) × AllByRecursion fit v) × Stands (flat_map w v) s p q) i ((refl, tt), record { room = omega arith; far = omega arith; bytes = ap (λ n. drop n s) j });
    full = λ s p l rest h v e.
        let i = nil_from_length l v.0 in
        subst (λ m. many 0 r s p ≡ got m (p + length (written (flat_map w m)))) (sym i) (ap (got []) (sym (add-zero p)));
    stops = λ s p n k bs h e. absurd (never e);
    first = λ s p n k l h v t. absurd (nothing_stops s p n k (subst (λ m. Stops (flat_map w m) s p n k) (nil_from_length l v.0) t));
    clear = λ l v. subst (λ m. AllByRecursion Answered (flat_map w m)) (sym (nil_from_length l v.0)) tt;
    some = ([], (refl, tt));
  }

  abbrev fit_cons : A → ℕ → List A → Type 0
  fit_cons d n l = (fit (uncons d l).0 × ((length (uncons d l).1 ≡ n) × AllByRecursion fit (uncons d l).1)) × (cons (uncons d l) ≡ l)

  laid : (d : A) (n : ℕ) (l : List A) → fit_cons d n l → w (uncons d l).0 ++ flat_map w (uncons d l).1 ≡ flat_map w l
  laid d n [] v = cc v.1
  laid d n (a ∷ l) v = refl

  there : (d : A) (n : ℕ) (l : List A) → fit_cons d n l → (length l ≡ suc n) × AllByRecursion fit l
  there d n [] v = cc v.1
  there d n (a ∷ l) v = (ap suc v.0.1.0, (v.0.0, v.0.1.1))

  back : (d : A) (n : ℕ) (l : List A) → (length l ≡ suc n) × AllByRecursion fit l → fit_cons d n l
  back d n [] v = absurd (omega (arith, v.0))
  back d n (a ∷ l) v = ((v.1.0, (let e : length l ≡ n = omega (arith, v.0) in e, v.1.1)), refl)

  pub many_lawful : (n : ℕ) → Lawful (many n r) (flat_map w) (λ l. (length l ≡ n) × AllByRecursion fit l)
  many_lawful zero = none_lawful
  many_lawful (suc n) =
      let d = x.some.0 in
      lawful_again (many (suc n) r) (flat_map w) (λ l. (length l ≡ suc n) × AllByRecursion fit l) (many_cons n r) (laid d n) (there d n) (back d n)
      (via_lawful cons (uncons d) (λ c. refl) (pair_lawful x (many_lawful n)))
