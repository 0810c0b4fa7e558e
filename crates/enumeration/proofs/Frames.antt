-- What stays sound where the tables t become the tables m. Assumes nothing.
use Rattle.std.proofs.Common.{◌≡◌, ℕ, zero, suc, ◌+◌, ◌-◌, ◌<◌, ◌≤◌, Bool, true, false, cond, ◌⊎◌, [], ◌∷◌, length, get_or, take, sym, refl, ap, ◌∙◌, inl, inr, arith}
use Rattle.std.specs.List.{AllByRecursion}
use Rattle.std.proofs.lemmas.List.FromFn.{length-map-range_with_len, get_or-map-range_with_len, fill_by_all}
use Rattle.std.proofs.ByRecursion.{All-weaker}
use Rattle.std.proofs.lemmas.Bool.{cases_eq}
use Rattle.ladder.specs.declared.poses.Limits.{Limits}
use Rattle.ladder.specs.Rules.{Rules}
use Rattle.ladder.specs.Tracks.{origin, cost}
use Rattle.ladder.specs.Ranking.{ending}
use Rattle.enumeration.specs.declared.records.Station.{Station}
use Rattle.enumeration.specs.declared.records.Ranked.{Ranked}
use Rattle.enumeration.specs.Tables.{Tables, poses, ladder}
use Rattle.enumeration.specs.Waits.{FoundSoFar, only_at, nowhere}
use Rattle.enumeration.specs.Sound.{Lies, last_back, due_at, Extends, Holds, CandidatesSound, Sourced, PoseSound, RungSound}
use Rattle.enumeration.specs.Changes.{linked, Elsewhere, Unchanged, BlockKept}

-- ---- the ladder

-- rung r, read off the tables
pub ladder_more : {C : Type 0} (t : Tables C) (r : ℕ) → ladder t (suc r) ≡ poses t r ∷ ladder t r
unfolding ladder
ladder_more t r = refl

pub length_ladder : {C : Type 0} (t : Tables C) (n : ℕ) → length (ladder t n) ≡ n
unfolding ladder
length_ladder t zero = refl
length_ladder t (suc n) = ap suc (length_ladder t n)

pub length_poses : {C : Type 0} (t : Tables C) (r : ℕ) → length (poses t r) ≡ t.size r
length_poses t r = length-map-range_with_len (λ v. (t.station r v).pose) 0 (t.size r)

-- pose number v of rung r
pub pose_is_at : {C : Type 0} (t : Tables C) (r v : ℕ) → v < t.size r → get_or (poses t r) v origin ≡ (t.station r v).pose
pose_is_at t r v h = get_or-map-range_with_len (λ v. (t.station r v).pose) 0 (t.size r) v v origin h (omega arith)

module _ {C : Type 0} (t m : Tables C) where
  -- the first n rungs have the poses that they had
  pub record PosesKept (n : ℕ) : Type 0 where
    pub sizes : (q : ℕ) → q < n → m.size q ≡ t.size q
    pub each : (q u : ℕ) → q < n → u < t.size q → (m.station q u).pose ≡ (t.station q u).pose

  pub fewer_kept : (k n : ℕ) → k ≤ n → PosesKept n → PosesKept k
  fewer_kept k n h p = record { sizes = λ q i. p.sizes q (omega arith); each = λ q u i. p.each q u (omega arith) }

  pub poses_same : (n q : ℕ) → PosesKept n → q < n → poses m q ≡ poses t q
  poses_same n q p h =
      fill_by_all (λ v. (t.station q v).pose) (poses m q) (t.size q) origin (length_poses m q ∙ p.sizes q h) (λ k i. pose_is_at m q k (omega (arith, p.sizes q h)) ∙ p.each q k h i)

  pub ladder_same : (n k : ℕ) → PosesKept n → k ≤ n → ladder m k ≡ ladder t k
  unfolding ladder
  ladder_same n zero p h = refl
  ladder_same n (suc k) p h = λ j. poses_same n k p h j ∷ ladder_same n k p (omega arith) j

  -- the tracks of rung r lie where they lay
  abbrev pub LiesOn : ℕ → Type 0
  LiesOn r = (v n i : ℕ) → Lies t r v n i → Lies m r v n i

  -- the same of the rung before rung r
  abbrev pub LiesBefore : ℕ → Type 0
  LiesBefore zero = Unit {0}
  LiesBefore (suc p) = LiesOn p

  -- the tracks of rung r stay in its block, but for where they lead
  pub record BlockGrows (r : ℕ) : Type 0 where
    pub used : t.used r ≤ m.used r
    pub tracks : (i : ℕ) → i < t.used r → m.track r i ≡ linked (t.track r i) (m.track r i).after.0

  pub grows_lies : (r : ℕ) → BlockGrows r → LiesOn r
  grows_lies r g v n i h = record {
    in_use = omega (arith, h.in_use, g.used);
    of_pose = ap (λ (e : Ranked C). e.pose.0) (g.tracks i h.in_use) ∙ h.of_pose;
    of_rank = ap (λ (e : Ranked C). e.rank.0) (g.tracks i h.in_use) ∙ h.of_rank;
  }

  -- a block whose tracks all stay
  pub block_same : (w r : ℕ) → t.used r ≤ w → m.used r ≡ t.used r → ((i : ℕ) → i < w → m.track r i ≡ t.track r i) → BlockGrows r
  block_same w r h u e = record { used = omega arith; tracks = λ i k. λ j. linked (e i (omega arith) j) (m.track r i).after.0 }

-- ---- what stays sound

module _ {C P : Type 0} (c : Rules C P) (l : Limits) (t m : Tables C) where
  -- what a track extends, wherever it leads
  pub extends_kept : (r : ℕ) → PosesKept t m (suc r) → LiesBefore t m r → (x : Ranked C) (i : ℕ) → Extends c l t r x → Extends c l m r (linked x i)
  extends_kept zero p below x i h = tt
  extends_kept (suc q) p below x i h =
      let upper : ladder m (suc (suc q)) ≡ ladder t (suc (suc q)) = ladder_same t m (suc (suc q)) (suc (suc q)) p (omega arith) in
      let lower : ladder m (suc q) ≡ ladder t (suc q) = ladder_same t m (suc (suc q)) (suc q) p (omega arith) in
      (below x.back.pose.0 x.back.rank.0 x.front.0 h.0, coe 1 0 (j. get_or (ending c l (upper j) x.pose.0) x.rank.0 [] ≡ x.pose.0 ∷ get_or (ending c l (lower j) x.back.pose.0) x.back.rank.0 []) h.1)

  -- what place i of rung r holds, where nothing changed but where it leads
  pub holds_kept : (r i : ℕ) → PosesKept t m (suc r) → LiesBefore t m r → m.track r i ≡ linked (t.track r i) (m.track r i).after.0 → (t.station r (t.track r i).pose.0).found ≤ (m.station r (t.track r i).pose.0).found → ((t.track r i).rank.0 + 1 < (m.station r (t.track r i).pose.0).found → Lies m r (t.track r i).pose.0 ((t.track r i).rank.0 + 1) (m.track r i).after.0) → Holds c l t r i → Holds c l m r i
  holds_kept r i p below e more after h = record {
    numbered = coe 1 0 (j. (e j).pose.0 < p.sizes r (omega arith) j) h.numbered;
    found = coe 1 0 (j. (e j).rank.0 < (m.station r (e j).pose.0).found) (omega (arith, h.found));
    costs = coe 1 0 (j. (e j).cost ≡ cost c (lad j) (get_or (ending c l (lad j) (e j).pose.0) (e j).rank.0 [])) h.costs;
    extends = coe 1 0 (j. Extends c l m r (e j)) (extends_kept r p below (t.track r i) (m.track r i).after.0 h.extends);
    after = coe 1 0 (j. (e j).rank.0 + 1 < (m.station r (e j).pose.0).found → Lies m r (e j).pose.0 ((e j).rank.0 + 1) (e j).after.0) after;
  }
    where
      lad : ladder m (suc r) ≡ ladder t (suc r)
      lad = ladder_same t m (suc r) (suc r) p (omega arith)

  due_same : (r u : ℕ) → m.station r u ≡ t.station r u → ((t.station r u).pending ≡ true → last_back m r u ≡ last_back t r u) → (b : Bool) → (t.station r u).pending ≡ b → due_at m r u ≡ due_at t r u
  due_same r u s back true e = let k = back e in λ j. cond (s j).pending (only_at (k j).pose.0) nowhere
  due_same r u s back false e =
      ap (λ b. cond b (only_at (last_back m r u).pose.0) nowhere) (ap (λ (z : Station). z.pending) s ∙ e) ∙ sym (ap (λ b. cond b (only_at (last_back t r u).pose.0) nowhere) e)

  candidates_kept : (p u : ℕ) (used : ℕ → ℕ) → PosesKept t m (suc (suc p)) → m.station (suc p) u ≡ t.station (suc p) u → m.slots (suc p) u ≡ t.slots (suc p) u → (0 < (t.station (suc p) u).found → last_back m (suc p) u ≡ last_back t (suc p) u) → LiesOn t m p → CandidatesSound c l t p u used → CandidatesSound c l m p u used
  candidates_kept p u used k s xs back lies h = record {
    so_far = coe 1 0 (j. FoundSoFar c l (upper j) (lower j) (rest j) u (s j).found used (due j) (xs j) (s j).waiting) h.so_far;
    lie = coe 1 0 (j. AllByRecursion (λ x. Lies m p x.back.pose.0 x.back.rank.0 x.place.0) (take (s j).waiting (xs j))) (All-weaker (λ x. Lies t p x.back.pose.0 x.back.rank.0 x.place.0) (λ x. Lies m p x.back.pose.0 x.back.rank.0 x.place.0) (λ x. lies x.back.pose.0 x.back.rank.0 x.place.0) (take (t.station (suc p) u).waiting (t.slots (suc p) u)) h.lie);
    room = coe 1 0 (j. (s j).waiting + cond (s j).pending 1 0 ≤ k.sizes p (omega arith) j) h.room;
    pending = λ e. let h = h.pending (was e) in let b = back h.0 in (coe 1 0 (j. 0 < (s j).found) h.0, coe 1 0 (j. used (b j).pose.0 ≡ (b j).rank.0 + 1) h.1);
    settled = λ e. coe 1 0 (j. length (ending c l (lad j) u) ≤ (s j).found) (h.settled (sym (ap (λ (z : Station). z.pending) s) ∙ e));
  }
    where
      upper : poses m (suc p) ≡ poses t (suc p)
      upper = poses_same t m (suc (suc p)) (suc p) k (omega arith)

      lower : poses m p ≡ poses t p
      lower = poses_same t m (suc (suc p)) p k (omega arith)

      rest : ladder m p ≡ ladder t p
      rest = ladder_same t m (suc (suc p)) p k (omega arith)

      lad : ladder m (suc (suc p)) ≡ ladder t (suc (suc p))
      lad = ladder_same t m (suc (suc p)) (suc (suc p)) k (omega arith)

      was : (m.station (suc p) u).pending ≡ true → (t.station (suc p) u).pending ≡ true
      was e = sym (ap (λ (z : Station). z.pending) s) ∙ e

      due : due_at m (suc p) u ≡ due_at t (suc p) u
      due = due_same (suc p) u s (λ e. back (h.pending e).0) (t.station (suc p) u).pending refl

  -- what the last found track at a pose extends
  back_kept : (r u : ℕ) → m.station r u ≡ t.station r u → BlockGrows t m r → ((n : ℕ) → suc n ≡ (t.station r u).found → Lies t r u n (t.station r u).last.0) → 0 < (t.station r u).found → last_back m r u ≡ last_back t r u
  back_kept r u s g last some =
      let lies = last ((t.station r u).found - 1) (omega arith) in
      ap (λ (z : Station). (m.track r z.last.0).back) s ∙ ap (λ (e : Ranked C). e.back) (g.tracks (t.station r u).last.0 lies.in_use)

  -- a pose of rung r that did not change
  pub pose_kept : (r u : ℕ) → PosesKept t m (suc r) → LiesBefore t m r → BlockGrows t m r → m.station r u ≡ t.station r u → m.slots r u ≡ t.slots r u → PoseSound c l t r u → PoseSound c l m r u
  pose_kept r u k below g s xs h = record {
    some = coe 1 0 (j. (s j).found ≤ length (ending c l (lad j) u)) h.some;
    last = coe 1 0 (j. (n : ℕ) → suc n ≡ (s j).found → Lies m r u n (s j).last.0) (λ n e. grows_lies t m r g u n (t.station r u).last.0 (h.last n e));
    sourced = sourced r k s xs (back_kept r u s g h.last) below h.sourced;
  }
    where
      lad : ladder m (suc r) ≡ ladder t (suc r)
      lad = ladder_same t m (suc r) (suc r) k (omega arith)

      sourced : (r : ℕ) → PosesKept t m (suc r) → m.station r u ≡ t.station r u → m.slots r u ≡ t.slots r u → (0 < (t.station r u).found → last_back m r u ≡ last_back t r u) → LiesBefore t m r → Sourced c l t r u → Sourced c l m r u
      sourced zero k s xs back below h = coe 1 0 (j. ((s j).found ≡ 1) × ((s j).pending ≡ false)) h
      sourced (suc p) k s xs back below h = (h.0, candidates_kept p u h.0 k s xs back below h.1)

module _ {C P : Type 0} (c : Rules C P) (l : Limits) (t : Tables C) where
  -- the block of rung r: the last rank found at each pose lies where it should, and each place in use holds a track, no two the same
  pub record BlockSound (r : ℕ) : Type 0 where
    pub lasts : (v : ℕ) → v < t.size r → (n : ℕ) → suc n ≡ (t.station r v).found → Lies t r v n (t.station r v).last.0
    pub places : (i : ℕ) → i < t.used r → Holds c l t r i
    pub once : (i j : ℕ) → i < t.used r → j < t.used r → (t.track r i).pose.0 ≡ (t.track r j).pose.0 → (t.track r i).rank.0 ≡ (t.track r j).rank.0 → i ≡ j

  pub rung_block : (r : ℕ) → RungSound c l t r → BlockSound r
  rung_block r h = record { lasts = λ v i. (h.poses v i).last; places = h.places; once = h.once }

  pub block_rung : (r : ℕ) → 1 ≤ t.size r → t.size r ≤ 16 → ((v : ℕ) → v < t.size r → PoseSound c l t r v) → BlockSound r → RungSound c l t r
  block_rung r some few poses b = record { some = some; few = few; poses = poses; places = b.places; once = b.once }

module _ {C P : Type 0} (c : Rules C P) (l : Limits) (t m : Tables C) where
  -- a block that did not change
  pub block_kept : (w r : ℕ) → PosesKept t m (suc r) → LiesBefore t m r → ((u : ℕ) → u < t.size r → ((m.station r u).found ≡ (t.station r u).found) × ((m.station r u).last ≡ (t.station r u).last)) → BlockKept w t m r → t.used r ≤ w → BlockSound c l t r → BlockSound c l m r
  block_kept w r k below same kept fits h = record {
    lasts = λ v i. let v< : v < t.size r = omega (arith, k.sizes r (omega arith)) in let f = same v v< in coe 1 0 (j. (n : ℕ) → suc n ≡ f.0 j → Lies m r v n (f.1 j).0) (λ n e. lies v n (t.station r v).last.0 (h.lasts v v< n e));
    places = λ i u. let i< : i < t.used r = omega (arith, kept.used) in place i i< (h.places i i<);
    once = λ i j iu ju. let i< : i < t.used r = omega (arith, kept.used) in let j< : j < t.used r = omega (arith, kept.used) in let e = kept.tracks i (omega arith) in let f = kept.tracks j (omega arith) in coe 1 0 (z. (e z).pose.0 ≡ (f z).pose.0 → (e z).rank.0 ≡ (f z).rank.0 → i ≡ j) (h.once i j i< j<);
  }
    where
      grows : BlockGrows t m r
      grows = block_same t m w r fits kept.used kept.tracks

      lies : LiesOn t m r
      lies = grows_lies t m r grows

      place : (i : ℕ) → i < t.used r → Holds c l t r i → Holds c l m r i
      place i i< h =
          let f = (same (t.track r i).pose.0 h.numbered).0 in
          let e = kept.tracks i (omega arith) in
          holds_kept c l t m r i k below (grows.tracks i i<) (omega (arith, f)) (λ q. coe 1 0 (j. Lies m r (t.track r i).pose.0 ((t.track r i).rank.0 + 1) (e j).after.0) (lies (t.track r i).pose.0 ((t.track r i).rank.0 + 1) (t.track r i).after.0 (h.after (omega (arith, f, q))))) h

  -- a rung that did not change, above rungs that keep their poses and a rung whose tracks lie where they lay
  pub rung_kept : (w r : ℕ) → PosesKept t m (suc r) → LiesBefore t m r → ((u : ℕ) → u < 16 → m.station r u ≡ t.station r u) → ((u : ℕ) → u < 16 → m.slots r u ≡ t.slots r u) → BlockKept w t m r → t.used r ≤ w → RungSound c l t r → RungSound c l m r
  rung_kept w r k below stations slots kept fits h =
      block_rung c l m r (omega (arith, size, h.some)) (omega (arith, size, h.few)) (λ v i. let v< : v < t.size r = omega (arith, size) in let v16 : v < 16 = omega (arith, h.few) in pose_kept c l t m r v k below (block_same t m w r fits kept.used kept.tracks) (stations v v16) (slots v v16) (h.poses v v<)) (block_kept w r k below (λ u i. let s = stations u (omega (arith, h.few)) in (ap (λ (z : Station). z.found) s, ap (λ (z : Station). z.last) s)) kept fits (rung_block c l t r h))
    where
      size : m.size r ≡ t.size r
      size = k.sizes r (omega arith)

-- ---- where nothing changed but one pose, its candidates and its rung's block

pub unchanged_elsewhere : {C : Type 0} (w : ℕ) (t m : Tables C) (r v : ℕ) → Unchanged w t m → Elsewhere w t m r v
unchanged_elsewhere w t m r v u = record {
  sizes = u.sizes;
  stations = λ q x i _. u.stations q x i;
  slots = λ q x i _. u.slots q x i;
  tracks = λ q i h _. u.tracks q i h;
  used = λ q _. u.used q;
}

pub elsewhere_trans : {C : Type 0} (w : ℕ) (t k m : Tables C) (r v : ℕ) → Elsewhere w t k r v → Elsewhere w k m r v → Elsewhere w t m r v
elsewhere_trans w t k m r v e f = record {
  sizes = λ q. f.sizes q ∙ e.sizes q;
  stations = λ q x i no_case. f.stations q x i no_case ∙ e.stations q x i no_case;
  slots = λ q x i no_case. f.slots q x i no_case ∙ e.slots q x i no_case;
  tracks = λ q i h no_case. f.tracks q i h no_case ∙ e.tracks q i h no_case;
  used = λ q no_case. f.used q no_case ∙ e.used q no_case;
}

module _ {C P : Type 0} (c : Rules C P) (l : Limits) (w n : ℕ) (t m : Tables C) (few : (q : ℕ) → q < n → t.size q ≤ 16) (fits : (q : ℕ) → q < n → t.used q ≤ w) (r v : ℕ) (e : Elsewhere w t m r v) (pose : (m.station r v).pose ≡ (t.station r v).pose) where
  pub elsewhere_poses : PosesKept t m n
  elsewhere_poses = record { sizes = λ q h. e.sizes q; each = λ q u h i. each q u (omega (arith, few q h)) (cases_eq q r) (cases_eq u v) }
    where
      each : (q u : ℕ) → u < 16 → (q ≡ r) ⊎ (q ≡ r → ⊥) → (u ≡ v) ⊎ (u ≡ v → ⊥) → (m.station q u).pose ≡ (t.station q u).pose
      each q u i (inl a) (inl b) = coe 1 0 (j. (m.station (a j) (b j)).pose ≡ (t.station (a j) (b j)).pose) pose
      each q u i (inl a) (inr b) = ap (λ (z : Station). z.pose) (e.stations q u i (λ x y. b y))
      each q u i (inr a) b = ap (λ (z : Station). z.pose) (e.stations q u i (λ x y. a x))

  module _ (g : BlockGrows t m r) where
    pub elsewhere_grows : (q : ℕ) → q < n → BlockGrows t m q
    elsewhere_grows q h = at (cases_eq q r)
      where
        at : (q ≡ r) ⊎ (q ≡ r → ⊥) → BlockGrows t m q
        at (inl a) = coe 1 0 (j. BlockGrows t m (a j)) g
        at (inr a) = block_same t m w q (fits q h) (e.used q a) (λ i k. e.tracks q i k a)

    pub elsewhere_before : (q : ℕ) → q ≤ n → LiesBefore t m q
    elsewhere_before zero h = tt
    elsewhere_before (suc q) h = grows_lies t m q (elsewhere_grows q h)

    -- every other rung stays sound, that above rung r too
    pub elsewhere_rung : (q : ℕ) → q < n → (q ≡ r → ⊥) → RungSound c l t q → RungSound c l m q
    elsewhere_rung q h a = rung_kept c l t m w q (fewer_kept t m (suc q) n h elsewhere_poses) (elsewhere_before q (omega arith)) (λ u i. e.stations q u i (λ x y. a x)) (λ u i. e.slots q u i (λ x y. a x)) (record { tracks = λ i k. e.tracks q i k a; used = e.used q a }) (fits q h)

    -- so does every other pose of rung r
    pub elsewhere_pose : r < n → (u : ℕ) → u < t.size r → (u ≡ v → ⊥) → PoseSound c l t r u → PoseSound c l m r u
    elsewhere_pose h u i a =
        let u16 : u < 16 = omega (arith, few r h) in
        pose_kept c l t m r u (fewer_kept t m (suc r) n h elsewhere_poses) (elsewhere_before r (omega arith)) g (e.stations r u u16 (λ x y. a y)) (e.slots r u u16 (λ x y. a y))
