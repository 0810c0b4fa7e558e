-- What making one call comes to. Assumes nothing.
use Rattle.std.proofs.Common.{◌≡◌, ℕ, ◌<◌, ◌≤◌, Bool, true, false, cond, leb, List, ◌++◌, map, length, get_or, take, drop, Some, None, Option, Ok, Err, Result, refl, ap, ◌∙◌, arith}
use Rattle.std.specs.Prelude.{MatchResult, IsOkAnd}
use Rattle.std.proofs.lemmas.List.{take_at, drop_at}
use Rattle.std.proofs.lemmas.Bool.{le-leb}
use Rattle.std.proofs.lemmas.Option.{slice_get-map, slice_get-get_or, slice_get_past}
use Rattle.std.specs.List.{slice_get}
use Rattle.std.specs.Option.{option_map}
use Rattle.ladder.specs.declared.poses.Step.{Step}
use Rattle.ladder.specs.Rules.{Rules}
use Rattle.ladder.specs.Tracks.{Rung}
use Rattle.book.specs.Book.{Filter, add, next, seek}
use Rattle.book.specs.Book as book
use Rattle.book.specs.Runs.{Event}
use Rattle.resolver.specs.declared.answers.Refusal.{Refusal}
use Rattle.resolver.specs.declared.answers.Taken.{Taken}
use Rattle.resolver.specs.declared.tables.Core.{Core}
use Rattle.resolver.specs.Answers.{count_answer, track_answer}
use Rattle.resolver.specs.Calls.{Makes, added, closed_so, nexted, sought}
use Rattle.replay.specs.declared.calls.Call.{Call}
use Rattle.replay.specs.declared.calls.Call.TheVariants.{Add, Close, Next, Seek}
use Rattle.replay.specs.declared.calls.Reply.TheVariants.{Given}
use Rattle.replay.specs.Calls.{Recorded, told, places, named, Made}

module _ {X Y : Type 0} (f : X → Y) where
  -- what the i-th element means, and none past the end
  pub nth_map : (xs : List X) (i : ℕ) (d : X) → i < length xs → slice_get (map f xs) i ≡ Some (f (get_or xs i d))
  nth_map xs i d l = slice_get-map f xs i ∙ ap (option_map f) (slice_get-get_or xs i d l)

  pub nth_past : (xs : List X) (i : ℕ) → length xs ≤ i → slice_get (map f xs) i ≡ None
  nth_past xs i l = slice_get-map f xs i ∙ ap (option_map f) (slice_get_past xs i l)

-- a track that is recorded as given is the track that was answered
pub track_told : {C : Type 0} (res : Result (Taken C) Refusal) (a : Recorded C) → MatchResult res (λ t. IsOkAnd a (λ y. y ≡ Given t)) (λ e. a ≡ Err e) → told a ≡ track_answer res
track_told (Ok t) (Ok y) is = ap (λ z. told (Ok z)) is
track_told (Ok t) (Err e) is = absurd is
track_told (Err e) a is = ap told is

module _ {C P : Type 0} (r : Rules C P) (ms : List (ℕ → Rung)) (fs : List Filter) (k m : Core C) (before : List Step) (a : Recorded C) where
  made_so : (c : Call) (e : Event C) (after : List Step) → places c ≤ length before → named ms fs c (told a) before after ≡ Some e → Makes r k e m → drop (places c) after ≡ drop (places c) before → Made ms fs r c k before (Some a) after m
  made_so c e after h is makes same =
      (e, ap (λ x. cond x (named ms fs c (told a) before after) None) (le-leb (places c) (length before) h) ∙ is, makes, h, same)

  pub made_add : (i w : ℕ) (mean : ℕ → Rung) (res : Result ℕ Refusal) → slice_get ms i ≡ Some mean → told a ≡ count_answer res → Makes r k (added (mean w) res) m → Made ms fs r (Add i w) k before (Some a) before m
  made_add i w mean res there is makes = made_so (Add i w) (added (mean w) res) before (omega arith) (rw (there, is)) makes refl

  pub made_close : (res : Result ℕ Refusal) → told a ≡ count_answer res → Makes r k (closed_so res) m → Made ms fs r Close k before (Some a) before m
  made_close res is makes = made_so Close (closed_so res) before (omega arith) (rw is) makes refl

  -- the first places are written, the later ones stay
  module _ (n : ℕ) (h : n ≤ length before) (part : List Step) (long : length part ≡ n) (res : Result (Taken C) Refusal) (is : told a ≡ track_answer res) where
    front : take n (part ++ drop n before) ≡ part
    front = take_at part (drop n before) n long

    back : drop n (part ++ drop n before) ≡ drop n before
    back = drop_at part (drop n before) n long

    pub made_next : Makes r k (nexted (take n before) res part) m → Made ms fs r (Next n) k before (Some a) (part ++ drop n before) m
    made_next makes = made_so (Next n) (nexted (take n before) res part) (part ++ drop n before) h (rw (front, is)) makes back

    pub made_seek : (j : ℕ) (f : Filter) → slice_get fs j ≡ Some f → Makes r k (sought f (take n before) res part) m → Made ms fs r (Seek j n) k before (Some a) (part ++ drop n before) m
    made_seek j f there makes = made_so (Seek j n) (sought f (take n before) res part) (part ++ drop n before) h (rw (there, front, is)) makes back

-- a call that names what is not there is not made
module _ {C P : Type 0} (r : Rules C P) (ms : List (ℕ → Rung)) (fs : List Filter) (k m : Core C) (before : List Step) where
  unmade : (c : Call) → ((a : book.Answer C) (o : List Step) → named ms fs c a before o ≡ None) → Made ms fs r c k before None before m
  unmade c none = (λ a o. ap (λ (x : Option (Event C)). cond (leb (places c) (length before)) x None) (none a o) ∙ cond_none (leb (places c) (length before)), refl)
    where
      cond_none : (t : Bool) → ◌≡◌ {A = Option (Event C)} (cond t None None) None
      cond_none true = refl
      cond_none false = refl

  pub unmade_add : (i w : ℕ) → slice_get ms i ≡ None → Made ms fs r (Add i w) k before None before m
  unmade_add i w none = unmade (Add i w) (λ a o. rw none)

  pub unmade_seek : (j n : ℕ) → slice_get fs j ≡ None → Made ms fs r (Seek j n) k before None before m
  unmade_seek j n none = unmade (Seek j n) (λ a o. rw none)
