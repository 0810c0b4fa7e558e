-- What the outcome of a reader says of its parts.
use Rattle.std.proofs.Common.{◌≡◌, ℕ, Bool, true, false, cond, ◌⊎◌, sym, refl, ap, inl, inr}
use Rattle.job.specs.declared.faults.Question.{Question}
use Rattle.job.specs.Reading.{Out, got, fault, and_then}

pub never : {A : Type 0} {a : A} {q : ℕ} {n : Question} {k : ℕ} → got a q ≡ fault n k → ⊥
never e = cc

-- a test, and a value or a refusal
pub if_got : {A : Type 0} (b : Bool) (x : A) (m : ℕ) (n : Question) (p : ℕ) (a : A) (q : ℕ) → cond b (got x m) (fault n p) ≡ got a q → (b ≡ true) × (x ≡ a) × (m ≡ q)
if_got true x m n p a q e = (refl, (cc), (cc))
if_got false x m n p a q e = absurd (never (sym e))

pub if_fault : {A : Type 0} (b : Bool) (x : A) (m : ℕ) (n : Question) (p : ℕ) (k : Question) (q : ℕ) → cond b (got x m) (fault n p) ≡ fault k q → (b ≡ false) × (n ≡ k) × (p ≡ q)
if_fault true x m n p k q e = absurd (never e)
if_fault false x m n p k q e = (refl, (cc), (cc))

-- one after the other
pub then_got : {A B : Type 0} (o : Out A) (f : A → ℕ → Out B) (b : B) (r : ℕ) → and_then o f ≡ got b r → (a : A) × (q : ℕ) × (o ≡ got a q) × (f a q ≡ got b r)
then_got (got a q) f b r h = (a, q, refl, h)
then_got (fault n p) f b r h = absurd (never (sym h))

pub then_fault : {A B : Type 0} (o : Out A) (f : A → ℕ → Out B) (n : Question) (k : ℕ) → and_then o f ≡ fault n k → (o ≡ fault n k) ⊎ ((a : A) × (q : ℕ) × (o ≡ got a q) × (f a q ≡ fault n k))
then_fault (got a q) f n k h = inr (a, q, refl, h)
then_fault (fault m p) f n k h = let e : m ≡ n = cc in let g : p ≡ k = cc in inl (cc)

pub then_is : {A B : Type 0} (o : Out A) (f : A → ℕ → Out B) (a : A) (q : ℕ) → o ≡ got a q → and_then o f ≡ f a q
then_is o f a q e = ap (λ x. and_then x f) e

pub then_not : {A B : Type 0} (o : Out A) (f : A → ℕ → Out B) (n : Question) (k : ℕ) → o ≡ fault n k → and_then o f ≡ fault n k
then_not o f n k e = ap (λ x. and_then x f) e
