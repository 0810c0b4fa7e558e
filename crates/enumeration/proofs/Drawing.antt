-- The least candidate of a pose, drawn as its next rank. Assumes nothing.
use Rattle.std.proofs.Common.{◌≡◌, ℕ, suc, ◌+◌, ◌-◌, ◌<◌, ◌≤◌, true, cond, ◌⊎◌, List, [], ◌∷◌, length, get_or, take, Some, None, Option, sym, refl, ap, ◌∙◌, inl, inr, arith, MatchOption}
use Rattle.std.specs.List.{AllByRecursion}
use Rattle.std.proofs.ByRecursion.{All-weaker, all_shuffled}
use Rattle.std.proofs.lemmas.Bool.{cases_eq, true≢false, false≢true, lt-ltb}
use Rattle.ladder.specs.declared.poses.Limits.{Limits}
use Rattle.ladder.specs.Rules.{Rules, Lawful}
use Rattle.ladder.specs.Tracks.{Bounded, cost}
use Rattle.ladder.specs.Ranking.{ending, bumped}
use Rattle.ladder.proofs.Merging.{bump_at}
use Rattle.enumeration.specs.declared.records.Station.{Station}
use Rattle.enumeration.specs.declared.records.Ranked.{Ranked}
use Rattle.enumeration.specs.declared.records.Candidate.{Candidate}
use Rattle.enumeration.specs.Waits.{origin_of, only_at, nowhere, FoundSoFar, RankedNext}
use Rattle.enumeration.specs.Tables.{Tables, poses, ladder}
use Rattle.enumeration.specs.Sound.{Lies, last_back, ends, PoseSound, RungSound, RungsSound}
use Rattle.enumeration.specs.Changes.{drained, Elsewhere, Settled, Drawn, Draws}
use Rattle.enumeration.proofs.Waits.{popped_next, empty_done}
use Rattle.enumeration.proofs.Frames.{length_ladder, length_poses, PosesKept, poses_same, ladder_same, LiesOn, BlockGrows, block_same, BlockSound, block_rung, block_kept, elsewhere_poses, elsewhere_before, elsewhere_rung, elsewhere_pose}
use Rattle.enumeration.proofs.Appending.{Continues, appended_grows, appended_block}
use Rattle.enumeration.proofs.Entering.{ExtendsAt, Gathered}

module _ {C P : Type 0} (c : Rules C P) (w : ℕ) (t m : Tables C) (r v : ℕ) where
  pub draws_elsewhere : Draws c w t m r v → Elsewhere w t m r v
  draws_elsewhere d = at d.0 d.1
    where
      at : (o : Option (Candidate C)) → MatchOption o (Settled c w t m r v) (λ x. Drawn c w t m r v x) → Elsewhere w t m r v
      at None s = s.elsewhere
      at (Some x) s = s.elsewhere

  pub draws_pose : Draws c w t m r v → (m.station r v).pose ≡ (t.station r v).pose
  draws_pose d = at d.0 d.1
    where
      at : (o : Option (Candidate C)) → MatchOption o (Settled c w t m r v) (λ x. Drawn c w t m r v x) → (m.station r v).pose ≡ (t.station r v).pose
      at None s = ap (λ (z : Station). z.pose) s.station
      at (Some x) s = ap (λ (z : Station). z.pose) s.appended.station

  pub draws_block : Draws c w t m r v → m.used r ≤ t.used r + 1
  draws_block d = at d.0 d.1
    where
      at : (o : Option (Candidate C)) → MatchOption o (Settled c w t m r v) (λ x. Drawn c w t m r v x) → m.used r ≤ t.used r + 1
      at None s = omega (arith, s.block.used)
      at (Some x) s = omega (arith, s.appended.used)

  pub draws_grows : t.used r ≤ w → Draws c w t m r v → BlockGrows t m r
  draws_grows fits d = at d.0 d.1
    where
      at : (o : Option (Candidate C)) → MatchOption o (Settled c w t m r v) (λ x. Drawn c w t m r v x) → BlockGrows t m r
      at None s = block_same t m w r fits s.block.used s.block.tracks
      at (Some x) s = appended_grows w t m r v (drained (t.station r v)) x s.appended fits

-- pose v of rung p + 1, where all that was due is entered
module _ {C P : Type 0} (c : Rules C P) (laws : Lawful c) (l : Limits) (b : Bounded l) (w : ℕ) (t m : Tables C) (p v : ℕ) (short : suc (suc p) ≤ 128) (few : (q : ℕ) → q < suc (suc p) → t.size q ≤ 16) (fits : (q : ℕ) → q < suc (suc p) → t.used q ≤ w) (hv : v < t.size (suc p)) (used : ℕ → ℕ) (g : Gathered c l t p v used nowhere) where
  short_ladder : length (poses t (suc p) ∷ poses t p ∷ ladder t p) ≤ 128
  short_ladder = omega (arith, length_ladder t p)

  upper : v < length (poses t (suc p))
  upper = omega (arith, length_poses t (suc p))

  -- where none waits there is no further rank
  pub settled_all : Settled c w t m (suc p) v → length (ends c l t (suc p) v) ≤ (t.station (suc p) v).found
  unfolding ladder
  settled_all s = empty_done c laws l b (poses t (suc p)) (poses t p) (ladder t p) short_ladder v upper (t.station (suc p) v).found used (t.slots (suc p) v) (t.station (suc p) v).waiting s.none g.so_far

  -- what was drawn is the next rank
  next : (x : Candidate C) → Drawn c w t m (suc p) v x → RankedNext c l (poses t (suc p)) (poses t p) (ladder t p) v (t.station (suc p) v).found used x × FoundSoFar c l (poses t (suc p)) (poses t p) (ladder t p) v (suc (t.station (suc p) v).found) (bumped used (origin_of x)) (only_at (origin_of x)) (m.slots (suc p) v) ((t.station (suc p) v).waiting - 1)
  next x d = popped_next c laws l b (poses t (suc p)) (poses t p) (ladder t p) short_ladder v upper (t.station (suc p) v).found used x (t.slots (suc p) v) (m.slots (suc p) v) (t.station (suc p) v).waiting ((t.station (suc p) v).waiting - 1) g.so_far d.popped

  lie : (x : Candidate C) → Drawn c w t m (suc p) v x → AllByRecursion (ExtendsAt t p) (x ∷ take ((t.station (suc p) v).waiting - 1) (m.slots (suc p) v))
  lie x d = all_shuffled (ExtendsAt t p) (take (t.station (suc p) v).waiting (t.slots (suc p) v)) (x ∷ take ((t.station (suc p) v).waiting - 1) (m.slots (suc p) v)) d.popped.items g.lie

  rank_used : (x : Candidate C) → Drawn c w t m (suc p) v x → x.back.rank.0 ≡ used (origin_of x)
  rank_used x d = ap (λ y. y.rank_at) (next x d).0.stands.is

  pub drawn_continues : (x : Candidate C) → Drawn c w t m (suc p) v x → Continues c l t (suc p) v (t.station (suc p) v).found x
  unfolding ladder
  drawn_continues x d =
      let n = (next x d).0 in
      record {
        costs = ap (λ y. y.whole) n.stands.is ∙ ap (λ i. cost c (poses t (suc p) ∷ poses t p ∷ ladder t p) (v ∷ get_or (ending c l (poses t p ∷ ladder t p) (origin_of x)) i [])) (sym (rank_used x d)) ∙ ap (cost c (poses t (suc p) ∷ poses t p ∷ ladder t p)) (sym n.extends);
        extends = ((lie x d).0, n.extends);
      }

  pub drawn_exists : (x : Candidate C) → Drawn c w t m (suc p) v x → (t.station (suc p) v).found < length (ends c l t (suc p) v)
  unfolding ladder
  drawn_exists x d = (next x d).0.exists

  module _ (d : Draws c w t m (suc p) v) where
    kept : PosesKept t m (suc (suc p))
    kept = elsewhere_poses c l w (suc (suc p)) t m few fits (suc p) v (draws_elsewhere c w t m (suc p) v d) (draws_pose c w t m (suc p) v d)

    grows : BlockGrows t m (suc p)
    grows = draws_grows c w t m (suc p) v (fits (suc p) (omega arith)) d

    lies : LiesOn t m p
    lies = elsewhere_before c l w (suc (suc p)) t m few fits (suc p) v (draws_elsewhere c w t m (suc p) v d) (draws_pose c w t m (suc p) v d) grows (suc p) (omega arith)

    -- the next rank is found, or there is none
    pub draws_found : ((m.station (suc p) v).found ≡ (t.station (suc p) v).found + 1) ⊎ (((m.station (suc p) v).found ≡ (t.station (suc p) v).found) × (length (ends c l t (suc p) v) ≤ (t.station (suc p) v).found))
    draws_found = at d.0 d.1
      where
        at : (o : Option (Candidate C)) → MatchOption o (Settled c w t m (suc p) v) (λ x. Drawn c w t m (suc p) v x) → ((m.station (suc p) v).found ≡ (t.station (suc p) v).found + 1) ⊎ (((m.station (suc p) v).found ≡ (t.station (suc p) v).found) × (length (ends c l t (suc p) v) ≤ (t.station (suc p) v).found))
        at None s = inr (ap (λ (z : Station). z.found) s.station, settled_all s)
        at (Some x) s = inl (ap (λ (z : Station). z.found) s.appended.station)

    -- the block of the rung stays sound
    pub draws_block_sound : BlockSound c l t (suc p) → BlockSound c l m (suc p)
    draws_block_sound h = at d.0 d.1
      where
        e : Elsewhere w t m (suc p) v
        e = draws_elsewhere c w t m (suc p) v d

        same : (s : m.station (suc p) v ≡ drained (t.station (suc p) v)) (u : ℕ) → u < t.size (suc p) → (u ≡ v) ⊎ (u ≡ v → ⊥) → ((m.station (suc p) u).found ≡ (t.station (suc p) u).found) × ((m.station (suc p) u).last ≡ (t.station (suc p) u).last)
        same s u i (inl q) = coe 1 0 (j. ((m.station (suc p) (q j)).found ≡ (t.station (suc p) (q j)).found) × ((m.station (suc p) (q j)).last ≡ (t.station (suc p) (q j)).last)) (ap (λ (z : Station). z.found) s, ap (λ (z : Station). z.last) s)
        same s u i (inr q) = let z = e.stations (suc p) u (omega (arith, few (suc p) (omega arith))) (λ x y. q y) in (ap (λ (z : Station). z.found) z, ap (λ (z : Station). z.last) z)

        at : (o : Option (Candidate C)) → MatchOption o (Settled c w t m (suc p) v) (λ x. Drawn c w t m (suc p) v x) → BlockSound c l m (suc p)
        at None s = block_kept c l t m w (suc p) kept lies (λ u i. same s.station u i (cases_eq u v)) s.block (fits (suc p) (omega arith)) h
        at (Some x) s = appended_block c l w t m (suc p) v (drained (t.station (suc p) v)) x s.appended (fits (suc p) (omega arith)) e (few (suc p) (omega arith)) hv refl refl kept lies (drawn_continues x s) h

    -- and so does the pose
    pub draws_pose_sound : BlockSound c l t (suc p) → (t.station (suc p) v).waiting ≤ t.size p → PoseSound c l m (suc p) v
    draws_pose_sound h room = at d.0 d.1
      where
        high : poses m (suc p) ≡ poses t (suc p)
        high = poses_same t m (suc (suc p)) (suc p) kept (omega arith)

        low : poses m p ≡ poses t p
        low = poses_same t m (suc (suc p)) p kept (omega arith)

        rest : ladder m p ≡ ladder t p
        rest = ladder_same t m (suc (suc p)) p kept (omega arith)

        lad : ladder m (suc (suc p)) ≡ ladder t (suc (suc p))
        lad = ladder_same t m (suc (suc p)) (suc (suc p)) kept (omega arith)

        size : m.size p ≡ t.size p
        size = kept.sizes p (omega arith)

        last : (n : ℕ) → suc n ≡ (m.station (suc p) v).found → Lies m (suc p) v n (m.station (suc p) v).last.0
        last = (draws_block_sound h).lasts v (omega (arith, kept.sizes (suc p) (omega arith)))

        moved : (xs : List (Candidate C)) → AllByRecursion (ExtendsAt t p) xs → AllByRecursion (ExtendsAt m p) xs
        moved xs = All-weaker (ExtendsAt t p) (ExtendsAt m p) (λ x. lies x.back.pose.0 x.back.rank.0 x.place.0) xs

        at : (o : Option (Candidate C)) → MatchOption o (Settled c w t m (suc p) v) (λ x. Drawn c w t m (suc p) v x) → PoseSound c l m (suc p) v
        at None s = record {
          some = coe 1 0 (j. (s.station j).found ≤ length (ending c l (lad j) v)) g.some;
          last = last;
          sourced = (
            used,
            record {
              so_far = coe 1 0 (j. FoundSoFar c l (high j) (low j) (rest j) v (s.station j).found used (cond (s.station j).pending (only_at (last_back m (suc p) v).pose.0) nowhere) (s.slots j) (waiting j)) g.so_far;
              lie = coe 1 0 (j. AllByRecursion (ExtendsAt m p) (take (waiting j) (s.slots j))) (moved (take (t.station (suc p) v).waiting (t.slots (suc p) v)) g.lie);
              room = coe 1 0 (j. waiting j + cond (s.station j).pending 1 0 ≤ size j) (omega arith);
              pending = λ e. absurd (false≢true (sym (ap (λ (z : Station). z.pending) s.station) ∙ e));
              settled = λ e. coe 1 0 (j. length (ending c l (lad j) v) ≤ (s.station j).found) (settled_all s);
            },
          );
        }
          where
            waiting : (m.station (suc p) v).waiting ≡ (t.station (suc p) v).waiting
            waiting = omega (arith, ap (λ (z : Station). z.waiting) s.station, s.none)
        at (Some x) s = record {
          some = coe 1 0 (j. found j ≤ length (ending c l (lad j) v)) (drawn_exists x s);
          last = last;
          sourced = (
            bumped used (origin_of x),
            record {
              so_far = coe 1 0 (j. FoundSoFar c l (high j) (low j) (rest j) v (found j) (bumped used (origin_of x)) (cond (pending j) (only_at (back j).pose.0) nowhere) (m.slots (suc p) v) (waiting j)) (next x s).1;
              lie = coe 1 0 (j. AllByRecursion (ExtendsAt m p) (take (waiting j) (m.slots (suc p) v))) (moved (take ((t.station (suc p) v).waiting - 1) (m.slots (suc p) v)) (lie x s).1);
              room = coe 1 0 (j. waiting j + cond (pending j) 1 0 ≤ size j) (omega (arith, s.popped.size));
              pending = λ e. (omega (arith, found), coe 1 0 (j. bumped used (origin_of x) (back j).pose.0 ≡ (back j).rank.0 + 1) (bump_at used (origin_of x) (origin_of x) refl ∙ omega (arith, rank_used x s)));
              settled = λ e. absurd (true≢false (sym pending ∙ e));
            },
          );
        }
          where
            waiting : (m.station (suc p) v).waiting ≡ (t.station (suc p) v).waiting - 1
            waiting = ap (λ (z : Station). z.waiting) s.appended.station

            found : (m.station (suc p) v).found ≡ suc (t.station (suc p) v).found
            found = omega (arith, ap (λ (z : Station). z.found) s.appended.station)

            pending : (m.station (suc p) v).pending ≡ true
            pending = ap (λ (z : Station). z.pending) s.appended.station ∙ lt-ltb 0 (suc p) (omega arith)

            back : last_back m (suc p) v ≡ x.back
            back = ap (λ (z : Station). (m.track (suc p) z.last.0).back) s.appended.station ∙ ap (λ (e : Ranked C). e.back) s.appended.new

-- the tables are sound after a draw at pose v of rung p + 1, where all else was sound and all that was due is entered
pub draws_rungs : {C P : Type 0} (c : Rules C P) (laws : Lawful c) (l : Limits) (b : Bounded l) (n w : ℕ) → n ≤ 128 → (t m : Tables C) → ((q : ℕ) → q < n → t.size q ≤ 16) → ((q : ℕ) → q < n → t.used q ≤ w) → (p v : ℕ) → suc p < n → v < t.size (suc p) → ((q : ℕ) → q < n → (q ≡ suc p → ⊥) → RungSound c l t q) → ((u : ℕ) → u < t.size (suc p) → (u ≡ v → ⊥) → PoseSound c l t (suc p) u) → BlockSound c l t (suc p) → (used : ℕ → ℕ) → Gathered c l t p v used nowhere → (t.station (suc p) v).waiting ≤ t.size p → Draws c w t m (suc p) v → RungsSound c l m n
draws_rungs c laws l b n w n128 t m few fits p v hp hv rungs others block used g room d q hq = at q hq (cases_eq q (suc p))
  where
    e : Elsewhere w t m (suc p) v
    e = draws_elsewhere c w t m (suc p) v d

    pose : (m.station (suc p) v).pose ≡ (t.station (suc p) v).pose
    pose = draws_pose c w t m (suc p) v d

    grows : BlockGrows t m (suc p)
    grows = draws_grows c w t m (suc p) v (fits (suc p) hp) d

    few' : (q : ℕ) → q < suc (suc p) → t.size q ≤ 16
    few' q h = few q (omega arith)

    fits' : (q : ℕ) → q < suc (suc p) → t.used q ≤ w
    fits' q h = fits q (omega arith)

    size : m.size (suc p) ≡ t.size (suc p)
    size = e.sizes (suc p)

    each : (u : ℕ) → u < m.size (suc p) → (u ≡ v) ⊎ (u ≡ v → ⊥) → PoseSound c l m (suc p) u
    each u i (inl z) = coe 1 0 (j. PoseSound c l m (suc p) (z j)) (draws_pose_sound c laws l b w t m p v (omega arith) few' fits' hv used g d block room)
    each u i (inr z) = let u< : u < t.size (suc p) = omega (arith, size) in elsewhere_pose c l w n t m few fits (suc p) v e pose grows hp u u< z (others u u< z)

    at : (q : ℕ) → q < n → (q ≡ suc p) ⊎ (q ≡ suc p → ⊥) → RungSound c l m q
    at q h (inl z) = coe 1 0 (j. RungSound c l m (z j)) (block_rung c l m (suc p) (omega (arith, size)) (omega (arith, size, few (suc p) hp)) (λ u i. each u i (cases_eq u v)) (draws_block_sound c laws l b w t m p v (omega arith) few' fits' hv used g d block))
    at q h (inr z) = elsewhere_rung c l w n t m few fits (suc p) v e pose grows q h z (rungs q h z)
