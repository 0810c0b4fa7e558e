-- Which answer of adding and closing comes when. Assumes nothing.
use Rattle.std.proofs.Common.{◌≡◌, ℕ, ◌+◌, Bool, true, false, cond, not, ◌&&◌, ◌||◌, ltb, leb, [], ◌++◌, length, refl, ap, ◌∙◌, arith}
use Rattle.std.proofs.Math.Bool.{or-false, and-false}
use Rattle.std.proofs.lemmas.Bool.Decides.{nat_tests}
use Rattle.ladder.specs.Tracks.{Rung}
use Rattle.book.specs.Book.{Book, Answer, counted, given, refused, accepted, add, close, add_answer, close_answer, adding, closing}
use Rattle.book.specs.Runs.{Event, brought, closes, taken_after, left_by, Adds, Closes}

-- the book that an answer leaves
abbrev left_of : {V : Type 0} → ℕ → Book → Event V → Answer V → Book
left_of n b e a = record b {
  rungs = cond (accepted a) (brought e.call ++ b.rungs) b.rungs;
  closed = b.closed || (accepted a && closes e.call);
  taken = taken_after b n a;
}

-- a refusal leaves the book where it leaves the count
pub refusal_leaves : {V : Type 0} (n : ℕ) (b : Book) (e : Event V) (q : ℕ) → e.answer ≡ refused q → taken_after {V = V} b n (refused q) ≡ b.taken → left_by n b e ≡ b
refusal_leaves n b e q a t =
    ap (left_of n b e) a ∙ (λ i. record b { closed = or-false b.closed i; taken = t i })

cond_same : {X : Type 0} (t : Bool) (x : X) → cond t x x ≡ x
cond_same true x = refl
cond_same false x = refl

-- asking for a track leaves all but the count
pub asking_leaves : {V : Type 0} (n : ℕ) (b : Book) (e : Event V) (t : ℕ) → brought e.call ≡ [] → closes e.call ≡ false → taken_after b n e.answer ≡ t → left_by n b e ≡ record b { taken = t }
asking_leaves n b e t none stays is =
    let rs : cond (accepted e.answer) (brought e.call ++ b.rungs) b.rungs ≡ b.rungs = ap (λ xs. cond (accepted e.answer) (xs ++ b.rungs) b.rungs) none ∙ cond_same (accepted e.answer) b.rungs in
    let cl : (b.closed || (accepted e.answer && closes e.call)) ≡ b.closed = ap (λ x. b.closed || (accepted e.answer && x)) stays ∙ ap (λ x. b.closed || x) (and-false (accepted e.answer)) ∙ or-false b.closed in
    λ i. record b { rungs = rs i; closed = cl i; taken = is i }

module _ {V : Type 0} (b : Book) (n : ℕ) (r : Rung) (e : Event V) (call_is : e.call ≡ add r) (ea : e.answer ≡ add_answer b r) where
  abbrev room : Bool
  room = ltb (length b.rungs) b.rung_limit

  -- a refusal of adding leaves the count of taken tracks
  count_stays : (q : ℕ) → e.answer ≡ refused q → taken_after {V = V} b n (refused q) ≡ b.taken
  count_stays q k = grind (arith, nat_tests)

  pub adds : Adds b n r e
  adds = record {
    done = (λ k. grind (arith, nat_tests), λ p. grind (arith, nat_tests));
    shut = (λ k. grind (arith, nat_tests), λ p. grind (arith, nat_tests));
    full = (λ k. grind (arith, nat_tests), λ p. grind (arith, nat_tests));
    none = (λ k. grind (arith, nat_tests), λ p. grind (arith, nat_tests));
    many = (λ k. grind (arith, nat_tests), λ p. grind (arith, nat_tests));
    leaves = λ q k. refusal_leaves n b e q k (count_stays q k);
  }

  -- what adding leaves, told from its answer, is the book after
  add_left : (x y z w : Bool) → left_of n b e (cond x (cond y (cond z (cond w (counted (length b.rungs + 1)) (refused 6)) (refused 5)) (refused 4)) (refused 3)) ≡ cond (accepted {V = V} (cond x (cond y (cond z (cond w (counted (length b.rungs + 1)) (refused 6)) (refused 5)) (refused 4)) (refused 3))) (Rattle.book.specs.Book.with_rung b r) b
  add_left false y z w i = record b { closed = or-false b.closed i }
  add_left true false z w i = record b { closed = or-false b.closed i }
  add_left true true false w i = record b { closed = or-false b.closed i }
  add_left true true true false i = record b { closed = or-false b.closed i }
  add_left true true true true i = record b { rungs = brought (call_is i) ++ b.rungs; closed = (ap (λ k. b.closed || closes k) call_is ∙ or-false b.closed) i }

  pub add_leaves : left_by n b e ≡ (adding {V = V} b r).book
  add_leaves = ap (left_of n b e) ea ∙ add_left (not b.closed) room (ltb 0 (length r)) (leb (length r) 16)

module _ {V : Type 0} (b : Book) (n : ℕ) (e : Event V) (call_is : e.call ≡ close) (ea : e.answer ≡ close_answer b) where
  pub closes_it : Closes b n e
  closes_it = record {
    done = (λ k. grind arith, λ p. grind arith);
    shut = (λ k. grind arith, λ p. grind arith);
    leaves = λ q k. refusal_leaves n b e q k (let none : taken_after {V = V} b n (refused q) ≡ b.taken = grind arith in none);
  }

  close_left : (x : Bool) → b.closed ≡ x → left_of n b e (cond (not x) (counted (length b.rungs)) (refused 3)) ≡ cond (accepted {V = V} (cond (not x) (counted (length b.rungs)) (refused 3))) (Rattle.book.specs.Book.shut b) b
  close_left true h i = record b { closed = or-false b.closed i }
  close_left false h i = record b { rungs = brought (call_is i) ++ b.rungs; closed = (ap (λ k. b.closed || closes k) call_is ∙ ap (λ x. x || true) h) i }

  pub close_leaves : left_by n b e ≡ (closing {V = V} b).book
  close_leaves = ap (left_of n b e) ea ∙ close_left b.closed refl
