-- Reading the records in a loop: a turn, a refusal in a turn, and the end.
use Rattle.std.proofs.Common.{◌≡◌, ℕ, suc, Bool, true, false, List, [], ◌∷◌, ◌++◌, Some, None, Option, sym, refl, ap, ◌∙◌, ⊎_elim, append_assoc}
use Rattle.job.specs.declared.faults.Question.{Question}
use Rattle.job.specs.declared.values.Position.{Position}
use Rattle.job.specs.Contents.{Entry}
use Rattle.job.specs.Reading.{Out, got, fault, and_then, many, via, opt, entry, Read}
use Rattle.job.proofs.Outs.{never, then_got, then_fault}
use Rattle.job.specs.Resolved.{Waypoint, waypoint, waypoints, placed}

abbrev pub prepend : {A : Type 0} → List A → Out (List A) → Out (List A)
prepend l o = and_then o (λ m r. got (l ++ m) r)

prepend_cons : {A : Type 0} (l : List A) (a : A) (o : Out (List A)) → prepend l (and_then o (λ m r. got (a ∷ m) r)) ≡ prepend (l ++ a ∷ []) o
prepend_cons l a (got m r) = ap (λ x. got x r) (sym (append_assoc l (a ∷ []) m))
prepend_cons l a (fault n p) = refl

-- n records read, as the waypoints that follow position b
abbrev pub rest : Position → ℕ → List ℕ → ℕ → Out (List Waypoint)
rest b n s p = via (waypoints b) (many n entry) s p

cons_in : (b : Position) (e : Entry) (o : Out (List Entry))
    → and_then (and_then o (λ l r. got (e ∷ l) r)) (λ a q. got (waypoints b a) q) ≡ and_then (and_then o (λ a q. got (waypoints (placed b e) a) q)) (λ m r. got (waypoint b e ∷ m) r)
cons_in b e (got l r) = refl
cons_in b e (fault n p) = refl

-- what an optional value that was read, or refused, says of the value
pub opt_some : (b : Bool) (r : Read Entry) (s : List ℕ) (p : ℕ) (o : Option Entry) (a : Entry) (q : ℕ) → got o q ≡ opt b r s p → o ≡ Some a → (b ≡ true) × (r s p ≡ got a q)
opt_some true r s p o a q e i = let t = then_got (r s p) (λ v k. got (Some v) k) o q (sym e) in (refl, (cc (t.2, t.3, i)))
opt_some false r s p o a q e i = cc

pub opt_none : (r : Read Entry) (s : List ℕ) (p q : ℕ) → got None q ≡ opt true r s p → ⊥
opt_none r s p q e = let t = then_got (r s p) (λ v k. got (Some v) k) None q (sym e) in cc t.3

pub opt_fault : (b : Bool) (r : Read Entry) (s : List ℕ) (p : ℕ) (k : Question) (q : ℕ) → fault k q ≡ opt b r s p → (b ≡ true) × (r s p ≡ fault k q)
opt_fault true r s p k q e = (refl, ⊎_elim (λ h. h) (λ d. absurd (never d.3)) (then_fault (r s p) (λ v j. got (Some v) j) k q (sym e)))
opt_fault false r s p k q e = cc

pub turn : (whole : Out (List Waypoint)) (b : Position) (m n : ℕ) (s : List ℕ) (p : ℕ) (acc : List Waypoint) (e : Entry) (q : ℕ) → m ≡ suc n → entry s p ≡ got e q
    → whole ≡ prepend acc (rest b m s p) → whole ≡ prepend (acc ++ waypoint b e ∷ []) (rest (placed b e) n s q)
turn whole b m n s p acc e q i g w =
    w ∙ ap (λ k. prepend acc (rest b k s p)) i
    ∙ ap (λ o. prepend acc (and_then (and_then o (λ a k. and_then (many n entry s k) (λ l r. got (a ∷ l) r))) (λ a k. got (waypoints b a) k))) g
    ∙ ap (prepend acc) (cons_in b e (many n entry s q)) ∙ prepend_cons acc (waypoint b e) (rest (placed b e) n s q)

pub stopped : (whole : Out (List Waypoint)) (b : Position) (m n : ℕ) (s : List ℕ) (p : ℕ) (acc : List Waypoint) (k : Question) (q : ℕ) → m ≡ suc n → entry s p ≡ fault k q
    → whole ≡ prepend acc (rest b m s p) → whole ≡ fault k q
stopped whole b m n s p acc k q i g w =
    w ∙ ap (λ j. prepend acc (rest b j s p)) i
    ∙ ap (λ o. prepend acc (and_then (and_then o (λ a j. and_then (many n entry s j) (λ l r. got (a ∷ l) r))) (λ a j. got (waypoints b a) j))) g
