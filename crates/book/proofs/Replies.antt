-- What each way out of a call is, over any book. Assumes nothing.
use Rattle.std.proofs.Common.{◌≡◌, ℕ, ◌+◌, ◌<◌, ◌≤◌, true, false, cond, List, [], length, get_or, sym, ap, arith}
use Rattle.std.proofs.lemmas.Bool.Decides.{nat_tests}
use Rattle.ladder.specs.declared.poses.Step.{Step}
use Rattle.ladder.specs.Rules.{Rules}
use Rattle.ladder.specs.Tracks.{Rung, Track, steps, cost}
use Rattle.book.specs.Book.{Book, Answer, refused, counted, given, accepted, with_rung, shut, one_taken, written, add_answer, adding, close_answer, closing, next_answer, nexting_of}

module _ {V : Type 0} (b : Book) (r : Rung) where
  pub add_full : b.closed ≡ false → b.rung_limit ≤ length b.rungs → add_answer {V = V} b r ≡ refused 4
  add_full o h = grind (arith, nat_tests)

  pub add_none : b.closed ≡ false → length b.rungs < b.rung_limit → length r ≡ 0 → add_answer {V = V} b r ≡ refused 5
  add_none o h z = grind (arith, nat_tests)

  pub add_many : b.closed ≡ false → length b.rungs < b.rung_limit → 16 < length r → add_answer {V = V} b r ≡ refused 6
  add_many o h m = grind (arith, nat_tests)

  pub add_done : b.closed ≡ false → length b.rungs < b.rung_limit → 0 < length r → length r ≤ 16 → add_answer {V = V} b r ≡ counted (length b.rungs + 1)
  add_done o h s t = grind (arith, nat_tests)

  -- a refusal leaves the book
  pub adding_refused : (n : ℕ) → add_answer {V = V} b r ≡ refused n → record { answer = refused n; output = []; book = b } ≡ adding {V = V} b r
  adding_refused n e = ap (λ (a : Answer V). record { answer = a; output = []; book = cond (accepted a) (with_rung b r) b }) (sym e)

  pub adding_done : (n : ℕ) → add_answer {V = V} b r ≡ counted n → record { answer = counted n; output = []; book = with_rung b r } ≡ adding {V = V} b r
  adding_done n e = ap (λ (a : Answer V). record { answer = a; output = []; book = cond (accepted a) (with_rung b r) b }) (sym e)

module _ {V : Type 0} (b : Book) where
  pub closing_done : b.closed ≡ false → (n : ℕ) → length b.rungs ≡ n → record { answer = counted n; output = []; book = shut b } ≡ closing {V = V} b
  closing_done o n e =
      let a : counted n ≡ close_answer {V = V} b = rw o (ap counted (sym e)) in
      ap (λ (a : Answer V). record { answer = a; output = []; book = cond (accepted a) (shut b) b }) a

-- next, where ts is the list of the ladder
module _ {V P : Type 0} (c : Rules V P) (b : Book) (ts : List Track) (out : List Step) where
  pub next_open : b.closed ≡ false → next_answer c b ts (length out) ≡ refused 7
  next_open o = rw o

  pub next_short : b.closed ≡ true → length out < length b.rungs → next_answer c b ts (length out) ≡ refused 8
  next_short o h = grind (arith, nat_tests)

  pub next_spent : b.closed ≡ true → length b.rungs ≤ length out → b.ration ≤ b.taken → next_answer c b ts (length out) ≡ refused 9
  next_spent o h r = grind (arith, nat_tests)

  pub next_ended : b.closed ≡ true → length b.rungs ≤ length out → b.taken < b.ration → length ts ≤ b.taken → next_answer c b ts (length out) ≡ refused 10
  next_ended o h r l = grind (arith, nat_tests)

  pub next_found : b.closed ≡ true → length b.rungs ≤ length out → b.taken < b.ration → b.taken < length ts → next_answer c b ts (length out) ≡ given (b.taken + 1) (cost c b.rungs (get_or ts b.taken []))
  next_found o h r l = grind (arith, nat_tests)

  -- a refusal leaves the output and the book
  pub nexting_refused : (n : ℕ) → next_answer c b ts (length out) ≡ refused n → record { answer = refused n; output = out; book = b } ≡ nexting_of c b ts out
  nexting_refused n e = ap (λ (a : Answer V). record { answer = a; output = cond (accepted a) (written (steps b.rungs (get_or ts b.taken [])) out) out; book = cond (accepted a) (one_taken b) b }) (sym e)

  pub nexting_given : (k : ℕ) (v : V) → next_answer c b ts (length out) ≡ given k v → record { answer = given k v; output = written (steps b.rungs (get_or ts b.taken [])) out; book = one_taken b } ≡ nexting_of c b ts out
  nexting_given k v e = ap (λ (a : Answer V). record { answer = a; output = cond (accepted a) (written (steps b.rungs (get_or ts b.taken [])) out) out; book = cond (accepted a) (one_taken b) b }) (sym e)
