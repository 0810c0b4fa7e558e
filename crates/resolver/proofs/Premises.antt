-- What the calls rely on holds of sound tables. Assumes nothing.
use Rattle.std.proofs.Common.{◌≡◌, ℕ, zero, suc, ◌-◌, ◌<◌, ◌≤◌, true, sym, ◌∙◌, subst, arith}
use Rattle.std.proofs.lemmas.Bool.{false≢true}
use Rattle.ladder.specs.declared.poses.Limits.{Limits}
use Rattle.ladder.specs.Rules.{Rules}
use Rattle.enumeration.specs.Tables.{Tables}
use Rattle.enumeration.specs.Sound.{Lies, RungsSound, last_back}
use Rattle.enumeration.specs.Writes.{Backed}

module _ {C P : Type 0} (c : Rules C P) (l : Limits) (w n : ℕ) (t : Tables C) (sound : RungsSound c l t n) (within : (q : ℕ) → q < n → t.used q ≤ w) where
  -- the last rank at a pose lies in the part of its block in use
  last_lies : (r v : ℕ) → r < n → v < t.size r → 0 < (t.station r v).found → Lies t r v ((t.station r v).found - 1) (t.station r v).last.0
  last_lies r v h hv some = ((sound r h).poses v hv).last ((t.station r v).found - 1) (omega (arith, some))

  -- a pose where a successor has yet to be entered is above the first rung and has a rank
  pending_found : (r v : ℕ) → r < n → v < t.size r → (t.station r v).pending ≡ true → 0 < (t.station r v).found
  pending_found zero v h hv e = absurd (false≢true (sym ((sound zero h).poses v hv).sourced.1 ∙ e))
  pending_found (suc p) v h hv e = (((sound (suc p) h).poses v hv).sourced.1.pending e).0

  -- the track that the last rank at pose v of rung p + 1 extends lies in the block of rung p
  front_lies : (p v : ℕ) → suc p < n → v < t.size (suc p) → 0 < (t.station (suc p) v).found → Lies t p (last_back t (suc p) v).pose.0 (last_back t (suc p) v).rank.0 (t.track (suc p) (t.station (suc p) v).last.0).front.0
  front_lies p v h hv some = ((sound (suc p) h).places (t.station (suc p) v).last.0 (last_lies (suc p) v h hv some).in_use).extends.0

  pub sound_backed : (r : ℕ) → r < n → Backed w t r
  sound_backed r h = record {
    few = λ q le. (sound q (omega (arith, le, h))).few;
    last = λ q u le hu e.
        let lt : q < n = omega (arith, le, h) in
        omega (arith, (last_lies q u lt hu (pending_found q u lt hu e)).in_use, within q lt);
    back = λ p u le hu e.
        let lt : suc p < n = omega (arith, le, h) in
        let front = front_lies p u lt hu (pending_found (suc p) u lt hu e) in
        subst (λ z. z < t.size p) front.of_pose ((sound p (omega (arith, lt))).places (t.track (suc p) (t.station (suc p) u).last.0).front.0 front.in_use).numbered;
  }
