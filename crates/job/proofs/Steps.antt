-- The header and a single record, in the words of the layout.
use Rattle.std.proofs.Common.{◌≡◌, ℕ, ◌+◌, ◌<◌, ◌≤◌, Bool, true, false, cond, ltb, leb, List, ◌∷◌, length, take, drop, Some, None, Ok, Err, Option, Result, sym, refl, ap, ◌∙◌, subst, ⊎_elim, arith}
use Rattle.std.specs.Option.{option_map}
use Rattle.std.specs.List.{AllByRecursion}
use Rattle.std.proofs.lemmas.List.{take_at, drop_all}
use Rattle.std.proofs.lemmas.Bool.{ltb-true, ltb-false, lt-leb, cond-false, cases_lt}
use Rattle.job.specs.declared.faults.Question.{Question}
use Rattle.job.specs.declared.faults.Question.TheVariants.{Whole, Map}
use Rattle.job.specs.declared.faults.Fault.{Fault}
use Rattle.job.specs.declared.header.Header.{Header}
use Rattle.job.specs.declared.records.Record.{Record}
use Rattle.job.specs.declared.reader.Records.{Records}
use Rattle.job.specs.Contents.{Entry}
use Rattle.job.specs.Layout.{Piece, written, entry_pieces, EntryFits}
use Rattle.job.specs.Bytes.{lacks}
use Rattle.job.specs.Reading.{got, fault, and_then, Read, opt, entry, entry_fields, heading}
use Rattle.job.specs.Refusals.{FirstNo}
use Rattle.job.specs.Outcomes.{Begins, Opened, Next, opening_pieces, OpeningFits}
use Rattle.job.specs.Views.{answer, opened, head_v, record_v}
use Rattle.job.proofs.Outs.{never}
use Rattle.job.proofs.Laws.{Bytes, Stops, Lawful}
use Rattle.job.proofs.Refusing.{no_from_stops, all_left}
use Rattle.job.proofs.Many.{opt_some, opt_none, opt_fault}
use Rattle.job.proofs.Parts.{entry_lawful, heading_lawful}

module _ {A : Type 0} {r : Read A} {w : A → List Piece} {fit : A → Type 0} (x : Lawful r w fit) where
  begins_at : (s : List ℕ) (p : ℕ) (a : A) (q : ℕ) → Bytes s → p ≤ length s → r s p ≡ got a q → (m : ℕ) × (q ≡ p + m) × Begins w fit (drop p s) a m
  begins_at s p a q bs h e =
      let u = x.sound s p a q bs h e in
      (length (written (w a)), u.1.far, record { fit = u.0; size = refl; bytes = ap (take (length (written (w a)))) u.1.bytes ∙ take_at (written (w a)) (drop q s) (length (written (w a))) refl })

  no_at : (s : List ℕ) (p : ℕ) (n : Question) (k : ℕ) → Bytes s → p ≤ length s → r s p ≡ fault n k → (m : ℕ) × (k ≡ p + m) × FirstNo w fit (drop p s) n m
  no_at s p n k bs h e =
      let t = x.stops s p n k bs h e in
      let b = t.2 in
      let m = length (written b.before) in
      let c : Stops (w t.0) (drop p s) 0 n m = record { before = b.before; piece = b.piece; after = b.after; order = b.order; rest = b.rest; bytes = b.bytes; place = omega arith; no = b.no } in
      (m, b.place, no_from_stops (drop p s) n m t.0 t.1 c (all_left b.before (b.piece ∷ b.after) (subst (AllByRecursion _) b.order (x.clear t.0 t.1))))

pub open_law : (s : List ℕ) → Bytes s → (r : Result (Header × Records) Fault) → opened r ≡ heading s 0 → Opened s r
open_law s bs (Ok t) e =
    let b = begins_at heading_lawful s 0 (head_v t.0, t.1.left) t.1.cursor.at bs (omega arith) (sym e) in
    let m : b.0 ≡ t.1.cursor.at = omega (arith, b.1) in
    subst (Begins opening_pieces OpeningFits s (head_v t.0, t.1.left)) m b.2
open_law s bs (Err f) e =
    let b = no_at heading_lawful s 0 f.question f.place bs (omega arith) (sym e) in
    let m : b.0 ≡ f.place = omega (arith, b.1) in
    subst (FirstNo opening_pieces OpeningFits s f.question) m b.2

-- past the end of the file no record begins
entry_past : (s : List ℕ) (p : ℕ) → length s ≤ p → entry s p ≡ fault Whole p
entry_past s p h =
    let l : length s < p + 1 = omega arith in
    ap (λ o. and_then (and_then o (λ m q. cond (lacks 240 m) (got m q) (fault Map p))) (λ m q. entry_fields m s q)) (cond-false (leb (p + 1) (length s)) _ _ (lt-leb (p + 1) (length s) l))

record_at : (s : List ℕ) (p : ℕ) (e : Entry) (q : ℕ) → Bytes s → entry s p ≡ got e q → (m : ℕ) × (q ≡ p + m) × Begins entry_pieces EntryFits (drop p s) e m
record_at s p e q bs g = ⊎_elim
    (λ h. absurd (never (sym g ∙ entry_past s p (omega arith))))
    (λ h. begins_at entry_lawful s p e q bs h g)
    (cases_lt (length s) p)

record_no : (s : List ℕ) (p : ℕ) (n : Question) (k : ℕ) → Bytes s → entry s p ≡ fault n k → (m : ℕ) × (k ≡ p + m) × FirstNo entry_pieces EntryFits (drop p s) n m
record_no s p n k bs g = ⊎_elim
    (λ h.
    let b = no_at entry_lawful s (length s) Whole (length s) bs (omega arith) (entry_past s (length s) (omega arith)) in
    let z : b.0 ≡ 0 = omega (arith, b.1) in
    let both : fault Whole p ≡ fault n k = sym (entry_past s p (omega arith)) ∙ g in
    let i : Whole ≡ n = cc in
    let j : p ≡ k = cc in
    let nil : drop (length s) s ≡ drop p s = drop_all (length s) s (omega arith) ∙ sym (drop_all p s (omega arith)) in
    (0, omega (arith, j), subst (λ q. FirstNo entry_pieces EntryFits (drop p s) q 0) i (subst (λ t. FirstNo entry_pieces EntryFits t Whole 0) nil (subst (FirstNo entry_pieces EntryFits (drop (length s) s) Whole) z b.2))))
    (λ h. no_at entry_lawful s p n k bs h g)
    (cases_lt (length s) p)

pub next_law : (s : List ℕ) → Bytes s → (n p q : ℕ) (r : Result (Option Record) Fault) → answer (option_map record_v) r q ≡ opt (ltb 0 n) entry s p → Next s n p q r
next_law s bs n p q (Ok None) e = none_left (ltb 0 n) refl e
  where
    none_left : (b : Bool) → ltb 0 n ≡ b → got None q ≡ opt b entry s p → n ≡ 0
    none_left true i h = let o = opt_none entry s p q h in absurd o
    none_left false i h = omega (arith, ltb-false 0 n i)
next_law s bs n p q (Ok (Some r)) e =
    let o = opt_some (ltb 0 n) entry s p (Some (record_v r)) (record_v r) q e refl in
    (ltb-true 0 n o.0, record_at s p (record_v r) q bs o.1)
next_law s bs n p q (Err f) e =
    let o = opt_fault (ltb 0 n) entry s p f.question f.place e in
    (ltb-true 0 n o.0, record_no s p f.question f.place bs o.1)
