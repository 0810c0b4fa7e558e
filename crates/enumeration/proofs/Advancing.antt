-- Finding the next rank at a pose keeps the tables sound. Assumes nothing.
use Rattle.std.proofs.Common.{◌≡◌, ℕ, suc, ◌+◌, ◌-◌, ◌<◌, ◌≤◌, Bool, true, false, cond, ltb, ◌⊎◌, length, sym, refl, ap, ◌∙◌, inl, inr, arith}
use Rattle.std.proofs.lemmas.Bool.{ltb-true, ltb-false}
use Rattle.ladder.specs.declared.poses.Limits.{Limits}
use Rattle.ladder.specs.Rules.{Rules, Lawful}
use Rattle.ladder.specs.Tracks.{Bounded}
use Rattle.ladder.specs.Ranking.{ending, Open}
use Rattle.enumeration.specs.declared.records.Station.{Station}
use Rattle.enumeration.specs.Waits.{only_at, nowhere, FoundSoFar}
use Rattle.enumeration.specs.Tables.{Tables, poses, ladder}
use Rattle.enumeration.specs.Sound.{Lies, last_back, ends, CandidatesSound, PoseSound, RungSound, RungsSound}
use Rattle.enumeration.specs.Changes.{Unchanged, Enters}
use Rattle.enumeration.specs.Advancing.{Ready, EntersPending, MovedOn, Advances}
use Rattle.enumeration.proofs.Frames.{ladder_same, rung_block, elsewhere_poses, elsewhere_trans}
use Rattle.enumeration.proofs.Entering.{Gathered, KeptButWaiting, unchanged_kept, enters_kept, skips_gathered, enters_gathered, kept_used, kept_rung, kept_pose, kept_block}
use Rattle.enumeration.proofs.Drawing.{draws_elsewhere, draws_pose, draws_block, draws_found, draws_rungs}

-- from the tables t to the tables k, all that was due at pose v of rung p + 1 is entered
pub record AllEntered {C P : Type 0} (c : Rules C P) (l : Limits) (w : ℕ) (t k : Tables C) (p v : ℕ) (used : ℕ → ℕ) : Type 0 where
  pub kept : KeptButWaiting w t k (suc p) v
  pub gathers : Gathered c l k p v used nowhere
  pub room : (k.station (suc p) v).waiting ≤ t.size p

-- pose v of rung p + 1, of which a successor is pending
module _ {C P : Type 0} (c : Rules C P) (laws : Lawful c) (l : Limits) (b : Bounded l) (n w : ℕ) (n128 : n ≤ 128) (t k : Tables C) (sound : RungsSound c l t n) (fits : (q : ℕ) → q < n → t.used q ≤ w) (p v : ℕ) (hp : suc p < n) (hv : v < t.size (suc p)) (used : ℕ → ℕ) (candidates : CandidatesSound c l t p v used) (pending : (t.station (suc p) v).pending ≡ true) where
  few : (q : ℕ) → q < n → t.size q ≤ 16
  few q h = (sound q h).few

  few_here : (q : ℕ) → q < suc (suc p) → t.size q ≤ 16
  few_here q h = few q (omega arith)

  fits_here : (q : ℕ) → q < suc (suc p) → t.used q ≤ w
  fits_here q h = fits q (omega arith)

  before : RungSound c l t p
  before = sound p (omega arith)

  here : PoseSound c l t (suc p) v
  here = (sound (suc p) hp).poses v hv

  -- the last found track lies in the block, and so does its front in the block before
  last_found : Lies t (suc p) v ((t.station (suc p) v).found - 1) (t.station (suc p) v).last.0
  last_found = here.last ((t.station (suc p) v).found - 1) (omega (arith, (candidates.pending pending).0))

  front : Lies t p (last_back t (suc p) v).pose.0 (last_back t (suc p) v).rank.0 (t.track (suc p) (t.station (suc p) v).last.0).front.0
  front = ((sound (suc p) hp).places (t.station (suc p) v).last.0 last_found.in_use).extends.0

  gathered : Gathered c l t p v used (only_at (last_back t (suc p) v).pose.0)
  gathered = record {
    some = here.some;
    so_far = coe 0 1 (j. FoundSoFar c l (poses t (suc p)) (poses t p) (ladder t p) v (t.station (suc p) v).found used (cond (pending j) (only_at (last_back t (suc p) v).pose.0) nowhere) (t.slots (suc p) v) (t.station (suc p) v).waiting) candidates.so_far;
    lie = candidates.lie;
  }

  -- the track that the pending successor extends follows the front of the last found track
  next_lies : (last_back t (suc p) v).rank.0 + 1 < (t.station p (last_back t (suc p) v).pose.0).found → Lies t p (last_back t (suc p) v).pose.0 ((last_back t (suc p) v).rank.0 + 1) (t.track p (t.track (suc p) (t.station (suc p) v).last.0).front.0).after.0
  next_lies h =
      let f = (t.track (suc p) (t.station (suc p) v).last.0).front.0 in
      coe 0 1 (j. front.of_rank j + 1 < (t.station p (front.of_pose j)).found → Lies t p (front.of_pose j) (front.of_rank j + 1) (t.track p f).after.0) (before.places f front.in_use).after h

  shut : length (ends c l t p (last_back t (suc p) v).pose.0) ≤ (last_back t (suc p) v).rank.0 + 1 → Open c l (poses t (suc p)) (poses t p) (ladder t p) v used (last_back t (suc p) v).pose.0 → ⊥
  unfolding ladder
  shut h o = omega (arith, o.more, (candidates.pending pending).1)

  -- what is pending is entered, or there is nothing to enter
  pub enters_pending : Ready c l t (suc p) v → EntersPending c l w t k p v → AllEntered c l w t k p v used
  enters_pending ready enters = at (ltb ((last_back t (suc p) v).rank.0 + 1) (t.station p (last_back t (suc p) v).pose.0).found) refl ready enters
    where
      v16 : v < 16
      v16 = omega (arith, few (suc p) hp)

      space : (t.station (suc p) v).waiting + 1 ≤ t.size p
      space = coe 0 1 (j. (t.station (suc p) v).waiting + cond (pending j) 1 0 ≤ t.size p) candidates.room

      at : (a : Bool) → ltb ((last_back t (suc p) v).rank.0 + 1) (t.station p (last_back t (suc p) v).pose.0).found ≡ a → Ready c l t (suc p) v → cond a (Enters c w t k l p v (t.track p (t.track (suc p) (t.station (suc p) v).last.0).front.0).after.0) (Unchanged w t k) → AllEntered c l w t k p v used
      at true e ready enters =
          let i = (t.track p (t.track (suc p) (t.station (suc p) v).last.0).front.0).after.0 in
          let lies = next_lies (ltb-true ((last_back t (suc p) v).rank.0 + 1) (t.station p (last_back t (suc p) v).pose.0).found e) in
          let first : used (t.track p i).pose.0 ≡ (t.track p i).rank.0 = ap used lies.of_pose ∙ (candidates.pending pending).1 ∙ sym lies.of_rank in
          let g = enters_gathered c laws l b w t k p v (omega arith) few_here fits_here hv before i used (only_at (last_back t (suc p) v).pose.0) nowhere lies.in_use first (λ z. omega (arith, ap (λ o. only_at o z) lies.of_pose)) enters gathered in
          record { kept = enters_kept c l w t k p v i v16 enters; gathers = g.0; room = omega (arith, g.1, space) }
      at false e (inl h) same = absurd (omega (arith, h, ltb-false ((last_back t (suc p) v).rank.0 + 1) (t.station p (last_back t (suc p) v).pose.0).found e))
      at false e (inr h) same = record {
        kept = unchanged_kept w t k (suc p) v v16 same;
        gathers = skips_gathered c laws l b w t k p v (omega arith) few_here fits_here hv before (last_back t (suc p) v).pose.0 used (only_at (last_back t (suc p) v).pose.0) nowhere (shut h) (λ z. omega arith) same gathered;
        room = omega (arith, ap (λ (z : Station). z.waiting) (same.stations (suc p) v v16), space);
      }

pub advances : {C P : Type 0} (c : Rules C P) → Lawful c → Advances c
advances {C} c laws l b n w n128 t k m sound fits p v hp hv block pending ready enters draws =
    (draws_rungs c laws l b n w n128 k m few_k fits_k p v hp hv_k (λ q h z. kept_rung c l w n t k few fits (suc p) v hp kept q h z (sound q h)) (λ u i z. let u< : u < t.size (suc p) = omega (arith, kept.elsewhere.sizes (suc p)) in kept_pose c l w n t k few fits (suc p) v hp kept u u< z ((sound (suc p) hp).poses u u<)) (kept_block c l w n t k few fits (suc p) v hp kept (rung_block c l t (suc p) (sound (suc p) hp))) used entered.gathers room draws, moved)
  where
    used : ℕ → ℕ
    used = ((sound (suc p) hp).poses v hv).sourced.0

    entered : AllEntered c l w t k p v ((sound (suc p) hp).poses v hv).sourced.0
    entered = enters_pending c laws l b n w n128 t k sound fits p v hp hv ((sound (suc p) hp).poses v hv).sourced.0 ((sound (suc p) hp).poses v hv).sourced.1 pending ready enters

    kept : KeptButWaiting w t k (suc p) v
    kept = entered.kept

    few : (q : ℕ) → q < n → t.size q ≤ 16
    few q h = (sound q h).few

    few_k : (q : ℕ) → q < n → k.size q ≤ 16
    few_k q h = omega (arith, kept.elsewhere.sizes q, few q h)

    fits_k : (q : ℕ) → q < n → k.used q ≤ w
    fits_k q h = omega (arith, kept_used c l w n t k few fits (suc p) v hp kept q, fits q h)

    hv_k : v < k.size (suc p)
    hv_k = omega (arith, kept.elsewhere.sizes (suc p))

    room : (k.station (suc p) v).waiting ≤ k.size p
    room = omega (arith, entered.room, kept.elsewhere.sizes p)

    lad : ladder k (suc (suc p)) ≡ ladder t (suc (suc p))
    lad = ladder_same t k n (suc (suc p)) (elsewhere_poses c l w n t k few fits (suc p) v kept.elsewhere (ap (λ (z : Station). z.pose) kept.station)) hp

    found_k : (k.station (suc p) v).found ≡ (t.station (suc p) v).found
    found_k = ap (λ (z : Station). z.found) kept.station

    moved : MovedOn c l w t m (suc p) v
    moved = record {
      elsewhere = elsewhere_trans w t k m (suc p) v kept.elsewhere (draws_elsewhere c w k m (suc p) v draws);
      pose = draws_pose c w k m (suc p) v draws ∙ ap (λ (z : Station). z.pose) kept.station;
      block = omega (arith, draws_block c w k m (suc p) v draws, kept.block.used);
      found = coe 0 1 (j. ((m.station (suc p) v).found ≡ found_k j + 1) ⊎ (((m.station (suc p) v).found ≡ found_k j) × (length (ending c l (lad j) v) ≤ found_k j))) (draws_found c laws l b w k m p v (omega arith) (λ q h. few_k q (omega arith)) (λ q h. fits_k q (omega arith)) hv_k used entered.gathers draws);
    }
