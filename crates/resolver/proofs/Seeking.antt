-- One track more is judged. Assumes nothing.
use Rattle.std.proofs.Common.{◌≡◌, ℕ, ◌-◌, ◌<◌, Bool, true, false, cond, List, [], length, get_or, take, sym, ap, ◌∙◌, arith}
use Rattle.std.proofs.ByRecursion.{All-get_or}
use Rattle.ladder.specs.declared.poses.Step.{Step}
use Rattle.ladder.specs.Rules.{Rules, Lawful}
use Rattle.ladder.specs.Tracks.{steps}
use Rattle.ladder.specs.Listed.{tracks_of}
use Rattle.book.specs.Book.{Outcome, Filter, given, nexting, seeking}
use Rattle.book.proofs.Asking.{all_long}
use Rattle.book.proofs.Seeking.{seek_goes_on}
use Rattle.resolver.specs.declared.tables.Core.{Core}
use Rattle.resolver.specs.Standing.{book}
use Rattle.resolver.proofs.Bounded.{bounded}
use Rattle.resolver.proofs.Rungs.{many}

-- what a judging answers of the first places of an output
pub judged_so : (p q : Filter) (r : Bool) (n m : ℕ) (out : List Step) → r ≡ p (take (n - 0) out) → p ≡ q → n ≡ m → q (take m out) ≡ r
judged_so p q r n m out e same is = sym (e ∙ ap (λ (x : Filter). x (take (n - 0) out)) same ∙ ap (λ i. q (take i out)) (let z : n - 0 ≡ m = omega arith in z))

-- from the resolver k next came to the resolver m, with the output then `after`
module _ {C P : Type 0} (c : Rules C P) (laws : Lawful c) (k m : Core C) (f : Filter) (out after : List Step) where
  goes_on : (n : ℕ) (v : C) → record { answer = given n v; output = after; book = book m } ≡ nexting c (book k) out → seeking c (book k) f out ≡ cond (f (take k.rungs after)) (record { answer = given n v; output = after; book = book m }) (seeking c (book m) f after)
  goes_on n v e =
      let ts = tracks_of c k.limits (book k).rungs in
      let long : k.taken < length ts → length (steps (book k).rungs (get_or ts k.taken [])) ≡ length (book k).rungs = λ h. All-get_or (λ u. length (steps (book k).rungs u) ≡ length (book k).rungs) ts k.taken [] h (all_long c laws (book k) (bounded k) (omega (arith, many k, k.held, k.limited))) in
      seek_goes_on c (book k) f out long n v (sym (ap (λ (o : Outcome C). o.answer) e))
      ∙ ap (λ (o : Outcome C). cond (f (take (length (book k).rungs) o.output)) o (seeking c o.book f o.output)) (sym e)
      ∙ ap (λ i. cond (f (take i after)) (record { answer = given n v; output = after; book = book m }) (seeking c (book m) f after)) (many k)

  -- the track that it took passes
  pub sought_passed : (n : ℕ) (v : C) → record { answer = given n v; output = after; book = book m } ≡ nexting c (book k) out → f (take k.rungs after) ≡ true → record { answer = given n v; output = after; book = book m } ≡ seeking c (book k) f out
  sought_passed n v e p = sym (goes_on n v e ∙ ap (λ x. cond x (record { answer = given n v; output = after; book = book m }) (seeking c (book m) f after)) p)

  -- or is turned down
  pub sought_turned : (n : ℕ) (v : C) → record { answer = given n v; output = after; book = book m } ≡ nexting c (book k) out → f (take k.rungs after) ≡ false → seeking c (book m) f after ≡ seeking c (book k) f out
  sought_turned n v e p = sym (goes_on n v e ∙ ap (λ x. cond x (record { answer = given n v; output = after; book = book m }) (seeking c (book m) f after)) p)
