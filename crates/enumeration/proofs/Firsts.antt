-- The first track at a pose of the rung that is being filled is found, or there is none. Assumes nothing.
use Rattle.std.proofs.Common.{◌≡◌, ℕ, zero, suc, ◌+◌, ◌<◌, ◌≤◌, Bool, true, false, cond, ltb, ◌⊎◌, [], ◌∷◌, length, get_or, take, sym, refl, ap, ◌∙◌, inl, inr, arith}
use Rattle.std.specs.List.{AllByRecursion}
use Rattle.std.proofs.lemmas.Bool.{ltb-true, ltb-false, le-leb, lt-leb, eq-eqb, ne_eqb, cases_order, cases_eq}
use Rattle.ladder.specs.declared.poses.Limits.{Limits}
use Rattle.ladder.specs.Rules.{Rules, Lawful}
use Rattle.ladder.specs.Tracks.{Bounded}
use Rattle.ladder.specs.Ranking.{Open}
use Rattle.ladder.proofs.Endings.{cost_one}
use Rattle.ladder.proofs.Merged.{none_emitted, ranks_merge}
use Rattle.enumeration.specs.declared.records.Station.{Station}
use Rattle.enumeration.specs.Tables.{Tables, poses, ladder}
use Rattle.enumeration.specs.Waits.{only_at, nowhere, FoundSoFar}
use Rattle.enumeration.specs.Sound.{Lies, ends, PoseSound, Sourced, RungSound}
use Rattle.enumeration.specs.Changes.{Elsewhere, Unchanged, Enters, Draws}
use Rattle.enumeration.specs.Writes.{OneMore}
use Rattle.enumeration.specs.Filling.{blank, start, from_on, EntersFirst, Starts, Begun, Entering, SameLadder}
use Rattle.enumeration.proofs.Frames.{length_poses, block_same, BlockSound, elsewhere_poses}
use Rattle.enumeration.proofs.Appending.{appended_grows, appended_block}
use Rattle.enumeration.proofs.Entering.{Gathered, KeptButWaiting, unchanged_kept, enters_kept, skips_gathered, enters_gathered, kept_block}
use Rattle.enumeration.proofs.Drawing.{draws_elsewhere, draws_pose, draws_block, draws_grows, draws_found, draws_block_sound, draws_pose_sound}
use Rattle.enumeration.proofs.Partly.{part_few, part_fits, part_block, same_ladder, blank_kept, part_after}

abbrev bit : Bool → ℕ
bit b = cond b 1 0

-- one pose less is due
from_on_more : (u x : ℕ) → from_on (suc u) x + only_at u x ≡ from_on u x
from_on_more u x = at (cases_order u x)
  where
    at : (u ≡ x) ⊎ ((u < x) ⊎ (x < u)) → from_on (suc u) x + only_at u x ≡ from_on u x
    at (inl e) = omega (arith, ap bit (lt-leb (suc u) x (omega arith)), ap bit (eq-eqb u x e), ap bit (le-leb u x (omega arith)))
    at (inr (inl k)) = omega (arith, ap bit (le-leb (suc u) x (omega arith)), ap bit (ne_eqb u x (λ e. omega arith)), ap bit (le-leb u x (omega arith)))
    at (inr (inr k)) = omega (arith, ap bit (lt-leb (suc u) x (omega arith)), ap bit (ne_eqb u x (λ e. omega arith)), ap bit (lt-leb u x (omega arith)))

-- ---- above the first rung: candidates are entered

module _ {C P : Type 0} (c : Rules C P) (l : Limits) (t : Tables C) where
  -- at a blank pose nothing is entered yet
  pub entering : (p v : ℕ) → v < t.size (suc p) → Begun c l t (suc p) v → Entering c l t p v 0
  entering p v there h = record {
    part = h.part;
    there = there;
    blank_on = λ x k. h.blank_on x (omega arith);
    none_found = ap (λ (s : Station). s.found) here;
    none_pending = ap (λ (s : Station). s.pending) here;
    room = omega (arith, none);
    so_far = coe 1 0 (j. FoundSoFar c l (poses t (suc p)) (poses t p) (ladder t p) v 0 nowhere (from_on 0) (t.slots (suc p) v) (none j)) (record {
      emitted = none_emitted c l (poses t (suc p)) (poses t p) (ladder t p) v;
      waits = record { each = tt; once = λ u. omega (arith, all_due u); every = λ u o. omega (arith, all_due u) };
      heap = record { sound = λ k d i. absurd (omega arith); heaped = λ x k d _ _ _ i. absurd (omega arith) };
    });
    lie = coe 1 0 (j. AllByRecursion (λ x. Lies t p x.back.pose.0 x.back.rank.0 x.place.0) (take (none j) (t.slots (suc p) v))) tt;
  }
    where
      here : t.station (suc p) v ≡ blank (t.station (suc p) v).pose
      here = h.blank_on v (omega arith) there

      none : (t.station (suc p) v).waiting ≡ 0
      none = ap (λ (s : Station). s.waiting) here

      all_due : (u : ℕ) → from_on 0 u ≡ 1
      all_due u = ap bit (le-leb 0 u (omega arith))

  -- where no track is found at a sound pose it has none
  none_there : (r u : ℕ) → Sourced c l t r u → (t.station r u).found ≡ 0 → length (ends c l t r u) ≤ 0
  none_there zero u s none = absurd (omega (arith, s.0))
  none_there (suc p) u s none = at (t.station (suc p) u).pending refl
    where
      at : (a : Bool) → (t.station (suc p) u).pending ≡ a → length (ends c l t (suc p) u) ≤ 0
      at true e = absurd (omega (arith, (s.1.pending e).0))
      at false e = omega (arith, s.1.settled e)

  -- nothing is found at the poses to come
  rest : (p v u : ℕ) → Entering c l t p v u → (x : ℕ) → v ≤ x → x < t.size (suc p) → (t.station (suc p) x).found ≡ 0
  rest p v u h x k i = at (cases_eq x v)
    where
      at : (x ≡ v) ⊎ (x ≡ v → ⊥) → (t.station (suc p) x).found ≡ 0
      at (inl e) = ap (λ z. (t.station (suc p) z).found) e ∙ h.none_found
      at (inr e) = ap (λ (s : Station). s.found) (h.blank_on x (omega arith) i)

  -- the first track of a pose of the rung before lies where its station says, if it is found
  pub first_lies : (p v u k : ℕ) → Entering c l t p v k → u < t.size p → 0 < (t.station p u).found → Lies t p u 0 (t.station p u).last.0
  first_lies p v u k h i some = ((h.part.before.sound p (omega arith)).poses u i).last 0 (omega (arith, (h.part.before.fresh p (omega arith)).found u i))

  -- what waits, where nothing is found
  gathered : (p v u : ℕ) (due : ℕ → ℕ) → (h : Entering c l t p v u) → FoundSoFar c l (poses t (suc p)) (poses t p) (ladder t p) v 0 nowhere due (t.slots (suc p) v) (t.station (suc p) v).waiting → Gathered c l t p v nowhere due
  gathered p v u due h f = record {
    some = omega (arith, h.none_found);
    so_far = coe 1 0 (j. FoundSoFar c l (poses t (suc p)) (poses t p) (ladder t p) v (h.none_found j) nowhere due (t.slots (suc p) v) (t.station (suc p) v).waiting) f;
    lie = h.lie;
  }

module _ {C P : Type 0} (c : Rules C P) (laws : Lawful c) (l : Limits) (b : Bounded l) (w : ℕ) (wide : 16 ≤ w) (t m : Tables C) (p v u : ℕ) (short : suc p < 128) (u_in : u < t.size p) (h : Entering c l t p v u) where
  before : RungSound c l t p
  before = h.part.before.sound p (omega arith)

  few : (q : ℕ) → q < suc (suc p) → t.size q ≤ 16
  few = part_few c l w wide t (suc p) v h.part

  fits : (q : ℕ) → q < suc (suc p) → t.used q ≤ w
  fits = part_fits c l w wide t (suc p) v h.part

  low : v < 16
  low = omega (arith, h.there, h.part.few)

  -- one pose more is looked at
  looked_at : KeptButWaiting w t m (suc p) v → Gathered c l m p v nowhere (from_on (suc u)) → (m.station (suc p) v).waiting ≤ suc u → Entering c l m p v (suc u) × SameLadder t m (suc (suc p))
  looked_at k g room = (
    record {
      part = part_after c l w wide t m (suc p) v h.part h.there k.elsewhere pose (block_same t m w (suc p) (fits (suc p) (omega arith)) k.block.used k.block.tracks) (kept_block c l w (suc (suc p)) t m few fits (suc p) v (omega arith) k (part_block c l w wide t (suc p) v h.part (rest c l t p v u h))) v (omega arith) (omega arith) (λ i. absurd (omega arith)) (omega (arith, k.block.used, h.part.block));
      there = omega (arith, h.there, k.elsewhere.sizes (suc p));
      blank_on = blank_kept c l w wide t m (suc p) v h.part h.there k.elsewhere pose h.blank_on;
      none_found = none;
      none_pending = ap (λ (s : Station). s.pending) k.station ∙ h.none_pending;
      room = room;
      so_far = coe 0 1 (j. FoundSoFar c l (poses m (suc p)) (poses m p) (ladder m p) v (none j) nowhere (from_on (suc u)) (m.slots (suc p) v) (m.station (suc p) v).waiting) g.so_far;
      lie = g.lie;
    },
    same_ladder c l w wide t m (suc p) v h.part h.there k.elsewhere pose,
  )
    where
      pose : (m.station (suc p) v).pose ≡ (t.station (suc p) v).pose
      pose = ap (λ (s : Station). s.pose) k.station

      none : (m.station (suc p) v).found ≡ 0
      none = ap (λ (s : Station). s.found) k.station ∙ h.none_found

  -- a pose with no track is not open
  shut : (t.station p u).found ≡ 0 → Open c l (poses t (suc p)) (poses t p) (ladder t p) v nowhere u → ⊥
  unfolding ladder
  shut none o = omega (arith, o.more, none_there c l t p u (before.poses u u_in).sourced none)

  -- the first track at pose u is entered, if there is one
  pub entered : EntersFirst c l w p v u t m → Entering c l m p v (suc u) × SameLadder t m (suc (suc p))
  entered = at (ltb 0 (t.station p u).found) refl
    where
      g : Gathered c l t p v nowhere (from_on u)
      g = gathered c l t p v u (from_on u) h h.so_far

      at : (a : Bool) → ltb 0 (t.station p u).found ≡ a → cond a (Enters c w t m l p v (t.station p u).last.0) (Unchanged w t m) → Entering c l m p v (suc u) × SameLadder t m (suc (suc p))
      at false e same =
          looked_at (unchanged_kept w t m (suc p) v low same) (skips_gathered c laws l b w t m p v short few fits h.there before u nowhere (from_on u) (from_on (suc u)) (shut (omega (arith, ltb-false 0 (t.station p u).found e))) (from_on_more u) same g) (omega (arith, h.room, ap (λ (s : Station). s.waiting) (same.stations (suc p) v low)))
      at true e enters =
          let i = (t.station p u).last.0 in
          let first = first_lies c l t p v u u h u_in (ltb-true 0 (t.station p u).found e) in
          let g' = enters_gathered c laws l b w t m p v short few fits h.there before i nowhere (from_on u) (from_on (suc u)) first.in_use (sym first.of_rank) (λ z. ap (λ x. from_on (suc u) z + only_at x z) first.of_pose ∙ from_on_more u z) enters g in
          looked_at (enters_kept c l w t m p v i low enters) g'.0 (omega (arith, g'.1, h.room))

-- ---- and the least is drawn

module _ {C P : Type 0} (c : Rules C P) (laws : Lawful c) (l : Limits) (b : Bounded l) (w : ℕ) (wide : 16 ≤ w) (t m : Tables C) (p v : ℕ) (short : suc p < 128) (h : Entering c l t p v (t.size p)) where
  pub drawn : Draws c w t m (suc p) v → Begun c l m (suc p) (suc v) × SameLadder t m (suc (suc p))
  drawn d = (
    record {
      part = part_after c l w wide t m (suc p) v h.part h.there e pose (draws_grows c w t m (suc p) v (fits (suc p) (omega arith)) d) (draws_block_sound c laws l b w t m p v short few fits h.there nowhere g d block) (suc v) (omega arith) (omega arith) (λ _. (draws_pose_sound c laws l b w t m p v short few fits h.there nowhere g d block h.room, one (draws_found c laws l b w t m p v short few fits h.there nowhere g d))) (omega (arith, h.part.block, draws_block c w t m (suc p) v d));
      blank_on = blank_kept c l w wide t m (suc p) v h.part h.there e pose h.blank_on;
    },
    same_ladder c l w wide t m (suc p) v h.part h.there e pose,
  )
    where
      e : Elsewhere w t m (suc p) v
      e = draws_elsewhere c w t m (suc p) v d

      pose : (m.station (suc p) v).pose ≡ (t.station (suc p) v).pose
      pose = draws_pose c w t m (suc p) v d

      few : (q : ℕ) → q < suc (suc p) → t.size q ≤ 16
      few = part_few c l w wide t (suc p) v h.part

      fits : (q : ℕ) → q < suc (suc p) → t.used q ≤ w
      fits = part_fits c l w wide t (suc p) v h.part

      block : BlockSound c l t (suc p)
      block = part_block c l w wide t (suc p) v h.part (rest c l t p v (t.size p) h)

      -- every candidate waits
      g : Gathered c l t p v nowhere nowhere
      g = gathered c l t p v (t.size p) nowhere h (record {
        emitted = h.so_far.emitted;
        waits = record {
          each = h.so_far.waits.each;
          once = λ u. omega (arith, h.so_far.waits.once u);
          every = λ u o. omega (arith, h.so_far.waits.every u o, ap bit (lt-leb (t.size p) u (omega (arith, o.numbered, length_poses t p))));
        };
        heap = h.so_far.heap;
      })

      one : ((m.station (suc p) v).found ≡ (t.station (suc p) v).found + 1) ⊎ (((m.station (suc p) v).found ≡ (t.station (suc p) v).found) × (length (ends c l t (suc p) v) ≤ (t.station (suc p) v).found)) → (m.station (suc p) v).found ≤ 1
      one (inl k) = omega (arith, h.none_found)
      one (inr k) = omega (arith, k.0, h.none_found)

-- ---- on the first rung

module _ {C P : Type 0} (c : Rules C P) (laws : Lawful c) (l : Limits) (b : Bounded l) (w : ℕ) (wide : 16 ≤ w) (t m : Tables C) (v : ℕ) (there : v < t.size 0) (h : Begun c l t 0 v) where
  -- each pose has its one track
  pub started : Starts c w t m v → Begun c l m 0 (suc v) × SameLadder t m 1
  unfolding ladder
  started s = (
    record {
      part = part_after c l w wide t m 0 v h.part there s.elsewhere pose (appended_grows w t m 0 v (t.station 0 v) (start c v) s.appended room) block (suc v) (omega arith) (omega arith) (λ _. (sound, omega (arith, found))) (omega (arith, h.part.block, s.appended.used));
      blank_on = blank_kept c l w wide t m 0 v h.part there s.elsewhere pose (λ u k. h.blank_on u (omega arith));
    },
    same_ladder c l w wide t m 0 v h.part there s.elsewhere pose,
  )
    where
      pose : (m.station 0 v).pose ≡ (t.station 0 v).pose
      pose = ap (λ (z : Station). z.pose) s.appended.station

      room : t.used 0 ≤ w
      room = part_fits c l w wide t 0 v h.part 0 (omega arith)

      none : (t.station 0 v).found ≡ 0
      none = ap (λ (z : Station). z.found) (h.blank_on v (omega arith) there)

      found : (m.station 0 v).found ≡ 1
      found = omega (arith, ap (λ (z : Station). z.found) s.appended.station, none)

      block : BlockSound c l m 0
      block = appended_block c l w t m 0 v (t.station 0 v) (start c v) s.appended room s.elsewhere h.part.few there refl refl (elsewhere_poses c l w 1 t m (part_few c l w wide t 0 v h.part) (part_fits c l w wide t 0 v h.part) 0 v s.elsewhere pose) tt (record { costs = sym (cost_one c (poses t 0) (get_or (ends c l t 0 v) (t.station 0 v).found [])); extends = tt }) (part_block c l w wide t 0 v h.part (λ u k i. ap (λ (z : Station). z.found) (h.blank_on u k i)))

      single : ends c l m 0 v ≡ (v ∷ []) ∷ []
      single = (ranks_merge c laws).single l b (poses m 0) v (omega (arith, length_poses m 0, s.elsewhere.sizes 0))

      sound : PoseSound c l m 0 v
      sound = record {
        some = omega (arith, found, ap length single);
        last = block.lasts v (omega (arith, s.elsewhere.sizes 0));
        sourced = (found, ap (λ (z : Station). z.pending) s.appended.station);
      }

-- ---- what the steps read and write lies in its table

module _ {C P : Type 0} (c : Rules C P) (l : Limits) (w : ℕ) (wide : 16 ≤ w) (t : Tables C) where
  -- at a blank pose one rank more fits
  pub starting_fits : (r v : ℕ) → v < t.size r → Begun c l t r v → (v < 16) × OneMore w t r (t.station r v)
  starting_fits r v there h =
      let none : (t.station r v).found ≡ 0 = ap (λ (s : Station). s.found) (h.blank_on v (omega arith) there) in
      (omega (arith, h.part.few), record { found = omega arith; free = omega (arith, wide, h.part.block, h.part.few); last = λ some. absurd (omega arith) })

  -- where the first track of pose u is to be entered one candidate more fits, and that track, if it is found, lies in the block
  pub entering_fits : (p v u : ℕ) → u < t.size p → Entering c l t p v u → (v < 16) × (u < 16) × ((t.station (suc p) v).waiting < 16) × (0 < (t.station p u).found → ((t.station p u).last.0 < w) × ((t.track p (t.station p u).last.0).pose.0 < 16))
  entering_fits p v u there h =
      let few = part_few c l w wide t (suc p) v h.part p (omega arith) in
      (omega (arith, h.there, h.part.few), omega (arith, few), omega (arith, h.room, few), λ some. let first = first_lies c l t p v u u h there some in (omega (arith, first.in_use, part_fits c l w wide t (suc p) v h.part p (omega arith)), omega (arith, first.of_pose, few)))

  -- where all are entered one rank more fits
  pub drawing_fits : (p v : ℕ) → Entering c l t p v (t.size p) → (v < 16) × ((t.station (suc p) v).waiting ≤ 16) × OneMore w t (suc p) (t.station (suc p) v)
  drawing_fits p v h =
      (omega (arith, h.there, h.part.few), omega (arith, h.room, part_few c l w wide t (suc p) v h.part p (omega arith)), record { found = omega (arith, h.none_found); free = omega (arith, wide, h.there, h.part.block, h.part.few); last = λ some. absurd (omega (arith, some, h.none_found)) })
