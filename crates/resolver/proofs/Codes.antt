-- Outcomes of calls have codes, by which any two proofs that they are the same are one. Assumes nothing.
use Rattle.std.proofs.Common.{◌≡◌, ℕ, ℤ, Bool, List, ◌⊎◌, inl, inr, refl}
use Rattle.std.specs.Coded.{Coded, Coded-set, code_by, coded×, coded⊎, coded_list, coded_ℕ, coded_ℤ, coded_bool}
use base.Stored.{coded_unit}
use Rattle.ladder.specs.declared.poses.Pose.{Pose}
use Rattle.ladder.specs.declared.poses.Step.{Step}
use Rattle.ladder.specs.declared.poses.Limits.{Limits}
use Rattle.book.specs.Book.{Answer, fine, counted, given, refused, Book, Outcome}

coded_pose : Coded Pose
coded_pose = code_by (ℤ × ℤ) (coded× coded_ℤ coded_ℤ) (λ p. (p.shoulder, p.elbow)) (λ q. record { shoulder = q.0; elbow = q.1 }) (λ _. refl)

coded_step : Coded Step
coded_step = code_by (ℕ × Pose) (coded× coded_ℕ coded_pose) (λ s. (s.number.0, s.pose)) (λ q. record { number = record { 0 = q.0 }; pose = q.1 }) (λ _. refl)

coded_limits : Coded Limits
coded_limits = code_by (ℕ × ℕ) (coded× coded_ℕ coded_ℕ) (λ l. (l.shoulder, l.elbow)) (λ q. record { shoulder = q.0; elbow = q.1 }) (λ _. refl)

coded_book : Coded Book
coded_book = code_by (Limits × (ℕ × (ℕ × (List (List Pose) × (Bool × ℕ))))) (coded× coded_limits (coded× coded_ℕ (coded× coded_ℕ (coded× (coded_list (coded_list coded_pose)) (coded× coded_bool coded_ℕ)))))
    (λ b. (b.limits, (b.rung_limit, (b.ration, (b.rungs, (b.closed, b.taken))))))
    (λ q. record { limits = q.0; rung_limit = q.1.0; ration = q.1.1.0; rungs = q.1.1.1.0; closed = q.1.1.1.1.0; taken = q.1.1.1.1.1 })
    (λ _. refl)

module _ {V : Type 0} (coded : Coded V) where
  parts : Answer V → (Unit {0} ⊎ ℕ) ⊎ ((ℕ × V) ⊎ ℕ)
  parts fine = inl (inl tt)
  parts (counted n) = inl (inr n)
  parts (given k v) = inr (inl (k, v))
  parts (refused n) = inr (inr n)

  whole : (Unit {0} ⊎ ℕ) ⊎ ((ℕ × V) ⊎ ℕ) → Answer V
  whole (inl (inl t)) = fine
  whole (inl (inr n)) = counted n
  whole (inr (inl p)) = given p.0 p.1
  whole (inr (inr n)) = refused n

  whole_parts : (a : Answer V) → whole (parts a) ≡ a
  unfolding parts whole
  whole_parts fine = refl
  whole_parts (counted n) = refl
  whole_parts (given k v) = refl
  whole_parts (refused n) = refl

  coded_answer : Coded (Answer V)
  coded_answer = code_by ((Unit {0} ⊎ ℕ) ⊎ ((ℕ × V) ⊎ ℕ)) (coded⊎ (coded⊎ coded_unit coded_ℕ) (coded⊎ (coded× coded_ℕ coded) coded_ℕ)) parts whole whole_parts

  coded_outcome : Coded (Outcome V)
  coded_outcome = code_by (Answer V × (List Step × Book)) (coded× coded_answer (coded× (coded_list coded_step) coded_book)) (λ o. (o.answer, (o.output, o.book))) (λ q. record { answer = q.0; output = q.1.0; book = q.1.1 }) (λ _. refl)

  -- two proofs that outcomes are the same are one
  pub one_outcome : (o p : Outcome V) → IsProp (o ≡ p)
  one_outcome o p = Coded-set coded_outcome o p
