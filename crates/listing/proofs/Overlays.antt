-- Bytes put over others. Assumes nothing.
use Rattle.std.proofs.Common.{◌≡◌, ℕ, ◌+◌, ◌/◌, ◌%◌, ◌^◌, ◌<◌, ◌≤◌, List, [], ◌∷◌, ◌++◌, length, set, decimal, sym, ap, ◌∙◌, arith, length-append}
use Rattle.std.proofs.lemmas.Fmt.{decimal_digit, decimal_step}
use Rattle.listing.specs.Text.{overlaid, Wrote}
use Rattle.listing.specs.declared.text.Text.{Text}

-- one text after another
pub overlaid_append : (xs : List ℕ) (i : ℕ) (ps bs : List ℕ) → overlaid xs i (ps ++ bs) ≡ overlaid (overlaid xs i ps) (i + length ps) bs
overlaid_append xs i [] bs = ap (λ j. overlaid xs j bs) (omega arith)
overlaid_append xs i (a ∷ ps) bs = overlaid_append (set xs i a) (i + 1) ps bs ∙ ap (λ j. overlaid (overlaid (set xs i a) (i + 1) ps) j bs) (omega arith)

pub wrote_append : {ps bs : List ℕ} {s t u : Text} → Wrote ps s t → Wrote bs t u → Wrote (ps ++ bs) s u
wrote_append {ps} {bs} {s} {t} {u} p q = record {
  lender = q.lender ∙ p.lender;
  within = λ h.
      let l = length-append ps bs in
      let v = p.within (omega arith) in
      let w = q.within (omega (arith, v.0)) in
      (omega (arith, v.0, w.0), w.1 ∙ ap (λ j. overlaid t.out.now j bs) v.0 ∙ ap (λ ws. overlaid ws (s.len + length ps) bs) v.1 ∙ sym (overlaid_append s.out.now s.len ps bs));
}

-- a number of one digit, and one more digit
pub wrote_digit : {s u : Text} (n : ℕ) → n < 10 → Wrote ((48 + n % 10) ∷ []) s u → Wrote (decimal n) s u
wrote_digit n small wrote = let same : 48 + n % 10 ≡ 48 + n = omega arith in rw (decimal_digit n small, ← same) wrote

pub wrote_step : {s t u : Text} (n : ℕ) → 10 ≤ n → n < 2 ^ 64 → Wrote (decimal (n / 10)) s t → Wrote ((48 + n % 10) ∷ []) t u → Wrote (decimal n) s u
wrote_step n large fits first last = rw (decimal_step n large fits) (wrote_append first last)
