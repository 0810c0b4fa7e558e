-- A whole file: accepted exactly where it is that of a job, and refused exactly where a job's fields stop.
use Rattle.std.proofs.Common.{◌≡◌, ℕ, ◌+◌, cond, eqb, List, [], ◌∷◌, ◌++◌, length, drop, Some, None, sym, refl, ap, ◌∙◌, subst, ⊎_elim, arith}
use Rattle.std.specs.List.{flat_map}
use Rattle.std.proofs.lemmas.List.{append-nil, drop_all, length-drop}
use Rattle.std.proofs.lemmas.Bool.{eqb-true, eqb-false, eq-eqb, ne_eqb, cond-true, cond-false}
use Rattle.job.specs.declared.faults.Question.{Question}
use Rattle.job.specs.declared.faults.Question.TheVariants.{End}
use Rattle.job.specs.Contents.{Contents}
use Rattle.job.specs.Layout.{Piece, head_pieces, entry_pieces, job_pieces, the_end, written, encode, Fits}
use Rattle.job.specs.Reading.{Out, got, fault, contents, file_out}
use Rattle.job.proofs.Outs.{if_got, if_fault, then_got, then_fault, then_is, then_not}
use Rattle.job.proofs.Laws.{Bytes, Stops, Lawful, stop_left, stop_right, stop_both, written_append, lawful_again, under_lawful, via_lawful, many_lawful}
use Rattle.job.proofs.Fields.{stop_here, stop_one, no_is}
use Rattle.job.specs.Refusals.{FileNo}
use Rattle.job.proofs.Parts.{entry_lawful, heading_lawful}
use Rattle.job.proofs.Refusing.{no_from_stops, stops_from_no, all_but_last}

-- the fields of a job but for the end
abbrev body : Contents → List Piece
body j = head_pieces j.head (length j.records) ++ flat_map entry_pieces j.records

pub contents_lawful : Lawful contents body Fits
contents_lawful = lawful_again contents body Fits (λ s p. refl) (λ j w. refl)
    (λ j w. record { head = w.0.0; few = w.0.1; records = w.1.0.1 })
    (λ j w. ((w.head, w.few), ((refl, w.records), refl)))
    (under_lawful (λ j. (j.head, length j.records)) heading_lawful
    (λ h. via_lawful (λ l. record { head = h.0; records = l }) (λ j. j.records) (λ l. refl) (many_lawful entry_lawful h.1))
    (λ h j u v.
    let a : h.0 ≡ j.head = ap (λ i. i.head) v.1 in
    ap (λ i. (i, length j.records)) (sym a) ∙ ap (λ n. (h.0, n)) v.0.0))

abbrev finish : List ℕ → Contents → ℕ → Out Contents
finish s j q = cond (eqb q (length s)) (got j q) (fault End q)

bytes_of : (j : Contents) → encode j ≡ written (body j)
bytes_of j = written_append (body j) (the_end ∷ []) ∙ append-nil (written (body j))

pub file_sound : (s : List ℕ) (j : Contents) (q : ℕ) → Bytes s → file_out s ≡ got j q → Fits j × (s ≡ encode j)
file_sound s j q bs e =
    let t = then_got (contents s 0) (finish s) j q e in
    let i = if_got (eqb t.1 (length s)) t.0 t.1 End t.1 j q t.3 in
    let n : t.1 ≡ length s = eqb-true t.1 (length s) i.0 in
    let u = contents_lawful.sound s 0 j t.1 bs (omega arith) (t.2 ∙ ap (λ c. got c t.1) i.1) in
    (u.0, u.1.bytes ∙ ap (λ r. written (body j) ++ r) (drop_all t.1 s (omega (arith, n))) ∙ append-nil (written (body j)) ∙ sym (bytes_of j))

pub file_full : (s : List ℕ) (j : Contents) → Fits j → s ≡ encode j → file_out s ≡ got j (length s)
file_full s j f e =
    let w = e ∙ bytes_of j in
    let u = contents_lawful.full s 0 j [] (omega arith) f (w ∙ sym (append-nil (written (body j)))) in
    let n : 0 + length (written (body j)) ≡ length s = omega (arith, ap length w) in
    then_is (contents s 0) (finish s) j (length s) (u ∙ ap (got j) n) ∙ cond-true (eqb (length s) (length s)) _ _ (eq-eqb (length s) (length s) refl)

pub file_stops : (s : List ℕ) (n : Question) (k : ℕ) → Bytes s → file_out s ≡ fault n k → (j : Contents) × Fits j × Stops (job_pieces j) s 0 n k
file_stops s n k bs e = ⊎_elim
    (λ f. let t = contents_lawful.stops s 0 n k bs (omega arith) f in (t.0, t.1, stop_left (body t.0) (the_end ∷ []) s 0 n k t.2))
    (λ d.
    let u = contents_lawful.sound s 0 d.0 d.1 bs (omega arith) d.2 in
    let i = if_fault (eqb d.1 (length s)) d.0 d.1 End d.1 n k d.3 in
    let ne : length (drop d.1 s) ≡ 0 → ⊥ = λ z. eqb-false d.1 (length s) i.0 (omega (arith, length-drop d.1 s, u.1.room)) in
    let c = cond-false (eqb (length (drop d.1 s)) 0) None (Some End) (ne_eqb (length (drop d.1 s)) 0 ne) ∙ ap Some i.1 in
    (d.0, u.0, stop_right (body d.0) (the_end ∷ []) s 0 d.1 n k u.1 (subst (λ m. Stops (the_end ∷ []) s d.1 n m) i.2 (stop_here the_end s d.1 n c))))
    (then_fault (contents s 0) (finish s) n k e)

pub file_first : (s : List ℕ) (n : Question) (k : ℕ) (j : Contents) → Fits j → Stops (job_pieces j) s 0 n k → file_out s ≡ fault n k
file_first s n k j f t = ⊎_elim
    (λ c. then_not (contents s 0) (finish s) n k (contents_lawful.first s 0 n k j (omega arith) f c))
    (λ c.
    let m = 0 + length (written (body j)) in
    let o = stop_one the_end s m n k c.2 in
    let i = no_is (eqb (length (drop m s)) 0) End n o.0 in
    let ne : m ≡ length s → ⊥ = λ z. eqb-false (length (drop m s)) 0 i.0 (omega (arith, length-drop m s)) in
    then_is (contents s 0) (finish s) j m (contents_lawful.full s 0 j c.0 (omega arith) f c.1)
    ∙ cond-false (eqb m (length s)) _ _ (ne_eqb m (length s) ne) ∙ ap (λ q. fault q m) i.1 ∙ ap (fault n) (sym o.1))
    (stop_both (body j) (the_end ∷ []) s 0 n k t)

-- a refusal is the first no, and the first no is the refusal
pub file_no : (s : List ℕ) (n : Question) (k : ℕ) → Bytes s → file_out s ≡ fault n k → FileNo s n k
file_no s n k bs e =
    let t = file_stops s n k bs e in
    let b = t.2 in
    no_from_stops s n k t.0 t.1 b (all_but_last (body t.0) the_end b.before b.piece b.after (contents_lawful.clear t.0 t.1) b.order)

pub no_file : (s : List ℕ) (n : Question) (k : ℕ) → FileNo s n k → file_out s ≡ fault n k
no_file s n k r = file_first s n k r.value r.fit (stops_from_no s n k r)
