-- Single fields: their readers keep to their layout.
use Rattle.std.proofs.Common.{◌≡◌, ℕ, ◌+◌, ◌≤◌, Bool, true, false, cond, ◌⊎◌, List, [], ◌∷◌, ◌++◌, length, drop, Some, None, sym, refl, ap, ◌∙◌, subst, inl, inr, ⊎_elim, add-zero, arith}
use Rattle.std.proofs.lemmas.List.{append-nil}
use Rattle.std.proofs.lemmas.Bool.{cond-true, cond-false}
use Rattle.job.specs.declared.faults.Question.{Question}
use Rattle.job.specs.Layout.{Piece, written}
use Rattle.job.specs.Reading.{Out, got, fault, Read, only}
use Rattle.job.proofs.Outs.{if_got, if_fault, then_got, then_fault, then_is, then_not}
use Rattle.job.proofs.Laws.{Bytes, Stands, Stops, Lawful, field_no}

-- a single field stands, or stops
stand_one : (c : Piece) (s : List ℕ) (p q : ℕ) → q ≤ length s → q ≡ p + length c.bytes → drop p s ≡ c.bytes ++ drop q s → Stands (c ∷ []) s p q
stand_one c s p q room far bytes = record {
  room = room;
  far = far ∙ ap (λ l. p + length l) (sym (append-nil c.bytes));
  bytes = bytes ∙ ap (λ l. l ++ drop q s) (sym (append-nil c.bytes));
}

pub stop_here : (c : Piece) (s : List ℕ) (p : ℕ) (n : Question) → field_no c.asks (drop p s) ≡ Some n → Stops (c ∷ []) s p n p
stop_here c s p n e = record { before = []; piece = c; after = []; order = refl; rest = drop p s; bytes = refl; place = sym (add-zero p); no = e }

pub stop_one : (c : Piece) (s : List ℕ) (p : ℕ) (n : Question) (k : ℕ) → Stops (c ∷ []) s p n k → (field_no c.asks (drop p s) ≡ Some n) × (k ≡ p)
stop_one c s p n k t = held t.before t.order t.bytes t.place
  where
    held : (l : List Piece) → c ∷ [] ≡ l ++ t.piece ∷ t.after → drop p s ≡ written l ++ t.rest → k ≡ p + length (written l) → (field_no c.asks (drop p s) ≡ Some n) × (k ≡ p)
    held [] o b e =
        let f : c ≡ t.piece = cc in
        (ap (λ d. field_no d.asks (drop p s)) f ∙ ap (field_no t.piece.asks) b ∙ t.no, e ∙ add-zero p)
    held (d ∷ []) o b e = cc
    held (d ∷ (d' ∷ l)) o b e = cc

-- a field of k bytes that one test accepts
pub record Tested {A : Type 0} (k : ℕ) (value : List ℕ → ℕ → A) (spell : A → List ℕ) (fit : A → Type 0) (test : List ℕ → ℕ → Bool) (ask : List ℕ → Bool) : Type 0 where
  pub size : (a : A) → fit a → length (spell a) ≡ k
  pub same : (s : List ℕ) (p : ℕ) → p ≤ length s → ask (drop p s) ≡ test s p
  pub reads : (s : List ℕ) (p : ℕ) → Bytes s → p ≤ length s → test s p ≡ true → (p + k ≤ length s) × fit (value s p) × (drop p s ≡ spell (value s p) ++ drop (p + k) s)
  pub says : (s : List ℕ) (p : ℕ) (a : A) (rest : List ℕ) → p ≤ length s → fit a → drop p s ≡ spell a ++ rest → (test s p ≡ true) × (value s p ≡ a)
  pub some : (a : A) × fit a

pub no_is : (b : Bool) (q n : Question) → cond b None (Some q) ≡ Some n → (b ≡ false) × (q ≡ n)
no_is true q n e = cc
no_is false q n e = (refl, (cc))

module _ {A : Type 0} {k : ℕ} {value : List ℕ → ℕ → A} {spell : A → List ℕ} {fit : A → Type 0} {test : List ℕ → ℕ → Bool} {ask : List ℕ → Bool} (q : Question) (x : Tested k value spell fit test ask) where
  abbrev piece : A → Piece
  piece a = record { bytes = spell a; asks = record { question = q; answer = ask } ∷ [] }

  pub tested_lawful : Lawful (λ s p. cond (test s p) (got (value s p) (p + k)) (fault q p)) (λ a. record { bytes = spell a; asks = record { question = q; answer = ask } ∷ [] } ∷ []) fit
  tested_lawful = record {
    sound = λ s p a e bs h g.
        let i = if_got (test s p) (value s p) (p + k) q p a e g in
        let u = x.reads s p bs h i.0 in
        let f = subst fit i.1 u.1 in
        (f, stand_one (piece a) s p e (omega (arith, u.0, i.2)) (omega (arith, i.2, x.size a f)) (u.2 ∙ ap (λ b. spell b ++ drop (p + k) s) i.1 ∙ ap (λ m. spell a ++ drop m s) i.2));
    full = λ s p a rest h f e.
        let v = x.says s p a rest h f (e ∙ ap (λ l. l ++ rest) (append-nil (spell a))) in
        let m : p + k ≡ p + length (spell a ++ []) = omega (arith, x.size a f, ap length (append-nil (spell a))) in
        cond-true (test s p) _ _ v.0 ∙ ap (λ b. got b (p + k)) v.1 ∙ ap (got a) m;
    stops = λ s p n j bs h e.
        let i = if_fault (test s p) (value s p) (p + k) q p n j e in
        let c = cond-false (ask (drop p s)) None (Some q) (x.same s p h ∙ i.0) ∙ ap Some i.1 in
        (x.some.0, x.some.1, subst (λ m. Stops (piece x.some.0 ∷ []) s p n m) i.2 (stop_here (piece x.some.0) s p n c));
    first = λ s p n j a h f t.
        let o = stop_one (piece a) s p n j t in
        let i = no_is (ask (drop p s)) q n o.0 in
        cond-false (test s p) _ _ (sym (x.same s p h) ∙ i.0) ∙ ap (λ m. fault m p) i.1 ∙ ap (fault n) (sym o.1);
    clear = λ a f. (
      λ rest.
          let v = x.says (spell a ++ rest) 0 a rest (omega arith) f refl in
          cond-true (ask (spell a ++ rest)) None (Some q) (x.same (spell a ++ rest) 0 (omega arith) ∙ v.0),
      tt,
    );
    some = x.some;
  }

-- the same, where only some of the values pass a second test
module _ {A : Type 0} {k : ℕ} {value : List ℕ → ℕ → A} {spell : A → List ℕ} {fit : A → Type 0} {test : List ℕ → ℕ → Bool} {ask : List ℕ → Bool} (q q' : Question) (x : Tested k value spell fit test ask)
    (ok : A → Bool) (moved : (s : List ℕ) (p : ℕ) → value (drop p s) 0 ≡ value s p) (one : (a : A) × fit a × (ok a ≡ true)) where
  abbrev base : Read A
  base s p = cond (test s p) (got (value s p) (p + k)) (fault q p)

  abbrev final : ℕ → A → ℕ → Out A
  final p a e = cond (ok a) (got a e) (fault q' p)

  abbrev limited : A → Piece
  limited a = record { bytes = spell a; asks = record { question = q; answer = ask } ∷ (record { question = q'; answer = λ rest. ok (value rest 0) } ∷ []) }

  late : (b c : Bool) (n : Question) → cond b (cond c None (Some q')) (Some q) ≡ Some n → ((b ≡ false) × (q ≡ n)) ⊎ ((b ≡ true) × (c ≡ false) × (q' ≡ n))
  late true c n e = let i = no_is c q' n e in inr (refl, i.0, i.1)
  late false c n e = inl (refl, (cc))

  pub only_lawful : Lawful (only q' ok (λ s p. cond (test s p) (got (value s p) (p + k)) (fault q p)))
      (λ a. record { bytes = spell a; asks = record { question = q; answer = ask } ∷ (record { question = q'; answer = λ rest. ok (value rest 0) } ∷ []) } ∷ [])
      (λ a. fit a × (ok a ≡ true))
  only_lawful =
      let y = tested_lawful q x in
      record {
        sound = λ s p a e bs h g.
            let t = then_got (base s p) (final p) a e g in
            let i = if_got (ok t.0) t.0 t.1 q' p a e t.3 in
            let u = y.sound s p a e bs h (t.2 ∙ ap (λ b. got b t.1) i.1 ∙ ap (got a) i.2) in
            ((u.0, ap ok (sym i.1) ∙ i.0), record { room = u.1.room; far = u.1.far; bytes = u.1.bytes });
        full = λ s p a rest h f e. then_is (base s p) (final p) a _ (y.full s p a rest h f.0 e) ∙ cond-true (ok a) _ _ f.1;
        stops = λ s p n j bs h e. (
          one.0,
          (one.1, one.2),
          ⊎_elim
              (λ f.
              let i = if_fault (test s p) (value s p) (p + k) q p n j f in
              let c = cond-false (ask (drop p s)) _ _ (x.same s p h ∙ i.0) ∙ ap Some i.1 in
              subst (λ m. Stops (limited one.0 ∷ []) s p n m) i.2 (stop_here (limited one.0) s p n c))
              (λ d.
              let g = if_got (test s p) (value s p) (p + k) q p d.0 d.1 d.2 in
              let i = if_fault (ok d.0) d.0 d.1 q' p n j d.3 in
              let c = cond-true (ask (drop p s)) _ _ (x.same s p h ∙ g.0) ∙ cond-false (ok (value (drop p s) 0)) _ _ (ap ok (moved s p ∙ g.1) ∙ i.0) ∙ ap Some i.1 in
              subst (λ m. Stops (limited one.0 ∷ []) s p n m) i.2 (stop_here (limited one.0) s p n c))
              (then_fault (base s p) (final p) n j e),
        );
        first = λ s p n j a h f t.
            let o = stop_one (limited a) s p n j t in
            ⊎_elim
            (λ i. then_not (base s p) (final p) n j (cond-false (test s p) _ _ (sym (x.same s p h) ∙ i.0) ∙ ap (λ m. fault m p) i.1 ∙ ap (fault n) (sym o.1)))
            (λ i. then_is (base s p) (final p) (value s p) (p + k) (cond-true (test s p) _ _ (sym (x.same s p h) ∙ i.0))
            ∙ cond-false (ok (value s p)) _ _ (ap ok (sym (moved s p)) ∙ i.1) ∙ ap (λ m. fault m p) i.2 ∙ ap (fault n) (sym o.1))
            (late (ask (drop p s)) (ok (value (drop p s) 0)) n o.0);
        clear = λ a f. (
          λ rest.
              let v = x.says (spell a ++ rest) 0 a rest (omega arith) f.0 refl in
              cond-true (ask (spell a ++ rest)) _ _ (x.same (spell a ++ rest) 0 (omega arith) ∙ v.0) ∙ cond-true (ok (value (spell a ++ rest) 0)) _ _ (ap ok v.1 ∙ f.1),
          tt,
        );
        some = (one.0, (one.1, one.2));
      }
