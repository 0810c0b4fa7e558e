-- Seeking as next that is judged and goes on. Assumes nothing.
use Rattle.std.proofs.Common.{◌≡◌, ℕ, suc, ◌+◌, ◌<◌, ◌≤◌, Bool, true, false, cond, ltb, leb, List, [], ◌∷◌, length, get_or, take, drop, sym, refl, ap, ◌∙◌, ⊎_elim, add-one, arith, drop-cons}
use Rattle.std.proofs.lemmas.List.{take_at, drop_all}
use Rattle.std.proofs.lemmas.Bool.{leb-true, le-leb, lt-ltb, le-ltb, cases_lt}
use Rattle.ladder.specs.declared.poses.Step.{Step}
use Rattle.ladder.specs.Rules.{Rules}
use Rattle.ladder.specs.Tracks.{Track, steps, cost}
use Rattle.ladder.specs.Listed.{tracks_of}
use Rattle.book.specs.Book.{Book, Outcome, Answer, given, refused, accepted, Filter, written, one_taken, judging, seeking, seeking_of, nexting, nexting_of}
use Rattle.book.specs.Runs.{any}
use Rattle.book.proofs.Judging.{length_written}

-- what is left of a list from a place on: nothing, or what stands there and the rest
pub data From (ts : List Track) (n : ℕ) : Type 0 where
  past : drop n ts ≡ [] → ltb n (length ts) ≡ false → From ts n
  there : drop n ts ≡ get_or ts n [] ∷ drop (suc n) ts → ltb n (length ts) ≡ true → n < length ts → From ts n

pub from : (ts : List Track) (n : ℕ) → From ts n
from ts n = ⊎_elim (λ h. there (drop-cons ts n [] h) (lt-ltb n (length ts) h) h) (λ h. past (drop_all n ts h) (le-ltb n (length ts) h)) (cases_lt n (length ts))

module _ {V P : Type 0} (c : Rules V P) (b : Book) (ts : List Track) (out : List Step) where
  -- the first untaken track and its steps
  abbrev track : Track
  track = get_or ts b.taken []

  abbrev shown : List Step
  shown = steps b.rungs track

  -- what next comes to, by its four questions
  abbrev nexted : Bool → Bool → Bool → Bool → Answer V
  nexted x y z w = cond x (cond y (cond z (cond w (given (b.taken + 1) (cost c b.rungs track)) (refused 10)) (refused 9)) (refused 8)) (refused 7)

  abbrev by_next : Bool → Bool → Bool → Bool → Outcome V
  by_next x y z w = record {
    answer = nexted x y z w;
    output = cond (accepted (nexted x y z w)) (written shown out) out;
    book = cond (accepted (nexted x y z w)) (one_taken b) b;
  }

  -- a refusal of next is one of seeking
  refused_by : (f : Filter) (x y z w : Bool) (q : ℕ) → (by_next x y z w).answer ≡ refused q → ltb b.taken b.ration ≡ z → ltb b.taken (length ts) ≡ w → From ts b.taken → cond x (cond y (judging c f (drop b.taken ts) b out) (record { answer = refused 8; output = out; book = b })) (record { answer = refused 7; output = out; book = b }) ≡ by_next x y z w
  refused_by f false y z w q a hz hw fr = refl
  refused_by f true false z w q a hz hw fr = refl
  refused_by f true true true true q a hz hw fr = cc
  refused_by f true true false w q a hz hw (past e l) = rw (e, hz)
  refused_by f true true false w q a hz hw (there e l k) = rw (e, hz)
  refused_by f true true true false q a hz hw (past e l) = rw (e, hz)
  refused_by f true true true false q a hz hw (there e l k) = cc

  pub seek_refused : (f : Filter) (q : ℕ) → (nexting_of c b ts out).answer ≡ refused q → seeking_of c b ts f out ≡ nexting_of c b ts out
  seek_refused f q a = refused_by f b.closed (leb (length b.rungs) (length out)) (ltb b.taken b.ration) (ltb b.taken (length ts)) q a refl refl (from ts b.taken)

  -- where next gives a track, seeking judges it, and goes on from there where it is turned down
  module _ (long : b.taken < length ts → length shown ≡ length b.rungs) (f : Filter) where
    abbrev go_on : Outcome V → Outcome V
    go_on o = cond (f (take (length b.rungs) o.output)) o (seeking_of c o.book ts f o.output)

    found : b.closed ≡ true → leb (length b.rungs) (length out) ≡ true → ltb b.taken b.ration ≡ true → drop b.taken ts ≡ track ∷ drop (suc b.taken) ts → b.taken < length ts → judging c f (drop b.taken ts) b out ≡ go_on (by_next true true true true)
    found hx hy hz e k =
        let l : length shown ≡ length b.rungs = long k in
        let room : length b.rungs ≤ length out = leb-true (length b.rungs) (length out) hy in
        let wide : length (written shown out) ≡ length out = length_written shown out (omega arith) in
        let hy' : leb (length b.rungs) (length (written shown out)) ≡ true = le-leb (length b.rungs) (length (written shown out)) (omega arith) in
        let cut : take (length b.rungs) (written shown out) ≡ shown = take_at shown (drop (length shown) out) (length b.rungs) l in
        rw (e, hz, cut, hx, hy', add-one b.taken)

    given_by : (x y z w : Bool) (k : ℕ) (v : V) → (by_next x y z w).answer ≡ given k v → b.closed ≡ x → leb (length b.rungs) (length out) ≡ y → ltb b.taken b.ration ≡ z → ltb b.taken (length ts) ≡ w → From ts b.taken → cond x (cond y (judging c f (drop b.taken ts) b out) (record { answer = refused 8; output = out; book = b })) (record { answer = refused 7; output = out; book = b }) ≡ go_on (by_next x y z w)
    given_by false y z w k v a hx hy hz hw fr = cc
    given_by true false z w k v a hx hy hz hw fr = cc
    given_by true true false w k v a hx hy hz hw fr = cc
    given_by true true true false k v a hx hy hz hw fr = cc
    given_by true true true true k v a hx hy hz hw (past e l) = cc
    given_by true true true true k v a hx hy hz hw (there e l h) = found hx hy hz e h

    pub seek_given : (k : ℕ) (v : V) → (nexting_of c b ts out).answer ≡ given k v → seeking_of c b ts f out ≡ go_on (nexting_of c b ts out)
    seek_given k v a = given_by b.closed (leb (length b.rungs) (length out)) (ltb b.taken b.ration) (ltb b.taken (length ts)) k v a refl refl refl refl (from ts b.taken)

  -- next is seeking that every track passes
  any_by : (x y z w : Bool) → ltb b.taken b.ration ≡ z → ltb b.taken (length ts) ≡ w → From ts b.taken → by_next x y z w ≡ cond x (cond y (judging c any (drop b.taken ts) b out) (record { answer = refused 8; output = out; book = b })) (record { answer = refused 7; output = out; book = b })
  any_by false y z w hz hw fr = refl
  any_by true false z w hz hw fr = refl
  any_by true true false w hz hw fr = sym (refused_by any true true false w 9 refl hz hw fr)
  any_by true true true false hz hw fr = sym (refused_by any true true true false 10 refl hz hw fr)
  any_by true true true true hz hw (past e l) = cc
  any_by true true true true hz hw (there e l h) = rw (e, hz)

  pub next_is_seek : nexting_of c b ts out ≡ seeking_of c b ts any out
  next_is_seek = any_by b.closed (leb (length b.rungs) (length out)) (ltb b.taken b.ration) (ltb b.taken (length ts)) refl refl (from ts b.taken)

-- the same over the book alone, whose list is that of its ladder
module _ {V P : Type 0} (c : Rules V P) (b : Book) (f : Filter) (out : List Step) where
  same_list : (t : Bool) → tracks_of c b.limits b.rungs ≡ tracks_of c (cond t (one_taken b) b).limits (cond t (one_taken b) b).rungs
  same_list true = refl
  same_list false = refl

  pub seek_goes_on : (b.taken < length (tracks_of c b.limits b.rungs) → length (steps b.rungs (get_or (tracks_of c b.limits b.rungs) b.taken [])) ≡ length b.rungs) → (k : ℕ) (v : V) → (nexting c b out).answer ≡ given k v → seeking c b f out ≡ cond (f (take (length b.rungs) (nexting c b out).output)) (nexting c b out) (seeking c (nexting c b out).book f (nexting c b out).output)
  seek_goes_on long k v a =
      let ts = tracks_of c b.limits b.rungs in
      let o = nexting c b out in
      seek_given c b ts out long f k v a ∙ ap (λ us. cond (f (take (length b.rungs) o.output)) o (seeking_of c o.book us f o.output)) (same_list (accepted o.answer))
