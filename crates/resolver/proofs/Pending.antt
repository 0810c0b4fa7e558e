-- The successor that has yet to be entered at a pose, and what is done with it. Assumes nothing.
use Rattle.std.proofs.Common.{◌≡◌, ℕ, suc, ◌+◌, ◌<◌, ◌≤◌, Bool, true, false, cond, ltb, Some, None, MatchBool, Option, sym, refl, ap, ◌∙◌, subst, arith, MatchOption}
use Rattle.std.proofs.lemmas.Option.{none-some}
use Rattle.ladder.specs.declared.poses.Limits.{Limits}
use Rattle.ladder.specs.Rules.{Rules}
use Rattle.enumeration.specs.declared.records.Station.{Station}
use Rattle.enumeration.specs.declared.records.Ranked.{Ranked}
use Rattle.enumeration.specs.declared.records.Candidate.{Candidate}
use Rattle.enumeration.specs.Tables.{Tables}
use Rattle.enumeration.specs.Changes.{Unchanged, Entered, Enters, Draws}
use Rattle.enumeration.specs.Advancing.{EntersPending}
use Rattle.enumeration.specs.Writes.{OneMore, Readable, Steady, Advanced, candidate_at, pending_at, successor_found}

module _ {C : Type 0} (t : Tables C) where
  -- what is pending is the last rank
  pub pending_is : (p v : ℕ) (e : Ranked C) → Some e ≡ pending_at t (suc p) v → ((t.station (suc p) v).pending ≡ true) × (e ≡ t.track (suc p) (t.station (suc p) v).last.0)
  pending_is p v e = go (t.station (suc p) v).pending
    where
      go : (b : Bool) → Some e ≡ cond b (Some (t.track (suc p) (t.station (suc p) v).last.0)) None → (b ≡ true) × (e ≡ t.track (suc p) (t.station (suc p) v).last.0)
      go true h = (refl, cc)
      go false h = absurd (none-some e (sym h))

  -- whether its successor is found
  pub successor_read : (p v : ℕ) (e : Ranked C) (b : Bool) → e ≡ t.track (suc p) (t.station (suc p) v).last.0 → b ≡ ltb (e.back.rank.0 + 1) (t.station p e.back.pose.0).found → b ≡ successor_found t p v
  successor_read p v e b is h = h ∙ ap (λ (y : Ranked C). ltb (y.back.rank.0 + 1) (t.station p y.back.pose.0).found) is

  -- the pose that the pending track extends has a number
  pub back_posed : (w p v : ℕ) (e : Ranked C) → Readable w t (suc p) v → Some e ≡ pending_at t (suc p) v → e.back.pose.0 < 16
  back_posed w p v e readable h = let is = pending_is p v e h in subst (λ (y : Ranked C). y.back.pose.0 < 16) (sym is.1) (readable is.0).1

module _ {C P : Type 0} (c : Rules C P) (l : Limits) (w : ℕ) (t : Tables C) where
  pub advanced_some : (a m : Tables C) (p v : ℕ) → (t.station (suc p) v).pending ≡ true → EntersPending c l w t a p v → Draws c w a m (suc p) v → Advanced c l w t m (suc p) v
  advanced_some a m p v e h d = subst (λ b. MatchBool b ((a : Tables C) × EntersPending c l w t a p v × Draws c w a m (suc p) v) (Unchanged w t m)) (sym e) (a, h, d)

  -- what drawing relies on, after the successor is entered
  pub record Drawable (a : Tables C) (p v : ℕ) : Type 0 where
    pub waiting : (a.station (suc p) v).waiting ≤ 16
    pub more : OneMore w a (suc p) (a.station (suc p) v)

  drawable : (a : Tables C) (p v : ℕ) → Steady w t p v → (s : Station) → a.station (suc p) v ≡ s → s.found ≡ (t.station (suc p) v).found → s.last.0 ≡ (t.station (suc p) v).last.0 → s.waiting ≤ 16 → a.used (suc p) ≡ t.used (suc p) → Drawable a p v
  drawable a p v steady s is found last few used = record {
    waiting = subst (λ (y : Station). y.waiting ≤ 16) (sym is) few;
    more =
        subst (λ (y : Station). OneMore w a (suc p) y) (sym is)
        (record { found = omega (arith, found, steady.more.found); free = omega (arith, used, steady.more.free); last = λ some. omega (arith, last, used, steady.more.last (omega (arith, some, found))) });
  }

  pub entered_drawable : (a : Tables C) (p v : ℕ) → v < 16 → Steady w t p v → EntersPending c l w t a p v → Drawable a p v
  entered_drawable a p v few steady = go (successor_found t p v)
    where
      same : Unchanged w t a → Drawable a p v
      same u = drawable a p v steady (t.station (suc p) v) (u.stations (suc p) v few) refl refl (omega (arith, steady.room)) (u.used (suc p))

      one : (o : Option (Candidate C)) → MatchOption o (Unchanged w t a) (λ x. Entered c w t a (suc p) v x) → Drawable a p v
      one None u = same u
      one (Some x) e = drawable a p v steady _ e.station refl refl (omega (arith, e.pushed.size, steady.room)) e.block.used

      go : (b : Bool) → cond b (Enters c w t a l p v (t.track p (t.track (suc p) (t.station (suc p) v).last.0).front.0).after.0) (Unchanged w t a) → Drawable a p v
      go true h = one (candidate_at c t l p v (t.track p (t.track (suc p) (t.station (suc p) v).last.0).front.0).after.0) h
      go false h = same h
