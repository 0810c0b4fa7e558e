-- What stays of a rung that is being filled while one of its poses, where nothing is found yet, changes. Assumes nothing.
use Rattle.std.proofs.Common.{◌≡◌, ℕ, zero, suc, ◌<◌, ◌≤◌, ◌⊎◌, ap, inl, inr, arith}
use Rattle.std.proofs.lemmas.Bool.{cases_eq, cases_lt}
use Rattle.ladder.specs.declared.poses.Limits.{Limits}
use Rattle.ladder.specs.Rules.{Rules}
use Rattle.enumeration.specs.declared.records.Station.{Station}
use Rattle.enumeration.specs.Tables.{Tables}
use Rattle.enumeration.specs.Sound.{Lies, PoseSound}
use Rattle.enumeration.specs.Changes.{Elsewhere}
use Rattle.enumeration.specs.Filling.{blank, Filled, PartFilled, SameLadder}
use Rattle.enumeration.proofs.Frames.{PosesKept, fewer_kept, ladder_same, LiesBefore, grows_lies, block_same, BlockGrows, BlockSound, rung_kept, elsewhere_poses, elsewhere_pose}

-- ---- rungs of which nothing changed

-- nothing of rung r changed
pub record RungSame {C : Type 0} (w : ℕ) (t m : Tables C) (r : ℕ) : Type 0 where
  pub size : m.size r ≡ t.size r
  pub stations : (u : ℕ) → u < 16 → m.station r u ≡ t.station r u
  pub slots : (u : ℕ) → u < 16 → m.slots r u ≡ t.slots r u
  pub tracks : (i : ℕ) → i < w → m.track r i ≡ t.track r i
  pub used : m.used r ≡ t.used r

module _ {C P : Type 0} (c : Rules C P) (l : Limits) (w : ℕ) (wide : 16 ≤ w) (t m : Tables C) (n : ℕ) (before : Filled c l t n) (same : (q : ℕ) → q < n → RungSame w t m q) where
  before_fits : (q : ℕ) → q < n → t.used q ≤ w
  before_fits q h = omega (arith, wide, (before.sound q h).few, (before.fresh q h).block)

  pub before_poses : PosesKept t m n
  before_poses = record { sizes = λ q h. (same q h).size; each = λ q u h i. ap (λ (z : Station). z.pose) ((same q h).stations u (omega (arith, (before.sound q h).few))) }

  lies : (q : ℕ) → q ≤ n → LiesBefore t m q
  lies zero h = tt
  lies (suc q) h = grows_lies t m q (block_same t m w q (before_fits q h) (same q h).used (same q h).tracks)

  -- they stay filled
  pub filled_kept : Filled c l m n
  filled_kept = record {
    sound = λ q h. rung_kept c l t m w q (fewer_kept t m (suc q) n h before_poses) (lies q (omega arith)) (same q h).stations (same q h).slots (record { tracks = (same q h).tracks; used = (same q h).used }) (before_fits q h) (before.sound q h);
    fresh = λ q h. record {
      found = λ v i. let v< : v < t.size q = omega (arith, (same q h).size) in let s = (same q h).stations v (omega (arith, (before.sound q h).few)) in coe 1 0 (j. (s j).found ≤ 1) ((before.fresh q h).found v v<);
      block = omega (arith, (before.fresh q h).block, (same q h).size, (same q h).used);
    };
  }

-- ---- a rung that is being filled

module _ {C P : Type 0} (c : Rules C P) (l : Limits) (w : ℕ) (wide : 16 ≤ w) (t : Tables C) (r v : ℕ) (part : PartFilled c l t r v) where
  pub part_few : (q : ℕ) → q < suc r → t.size q ≤ 16
  part_few q h = at (cases_lt q r)
    where
      at : (q < r) ⊎ (r ≤ q) → t.size q ≤ 16
      at (inl k) = (part.before.sound q k).few
      at (inr k) = let e : q ≡ r = omega arith in coe 1 0 (j. t.size (e j) ≤ 16) part.few

  pub part_fits : (q : ℕ) → q < suc r → t.used q ≤ w
  part_fits q h = at (cases_lt q r)
    where
      at : (q < r) ⊎ (r ≤ q) → t.used q ≤ w
      at (inl k) = omega (arith, wide, (part.before.sound q k).few, (part.before.fresh q k).block)
      at (inr k) = let e : q ≡ r = omega arith in coe 1 0 (j. t.used (e j) ≤ w) (omega (arith, wide, part.block, part.upto, part.few))

  -- its block, where nothing is found at the poses to come
  pub part_block : ((u : ℕ) → v ≤ u → u < t.size r → (t.station r u).found ≡ 0) → BlockSound c l t r
  part_block rest = record { lasts = λ u h. at u h (cases_lt u v); places = part.places; once = part.once }
    where
      at : (u : ℕ) → u < t.size r → (u < v) ⊎ (v ≤ u) → (n : ℕ) → suc n ≡ (t.station r u).found → Lies t r u n (t.station r u).last.0
      at u h (inl k) = (part.poses u k).last
      at u h (inr k) = λ n e. absurd (omega (arith, rest u k h))

-- nothing changed but pose v of rung r, and its block, which stays sound
module _ {C P : Type 0} (c : Rules C P) (l : Limits) (w : ℕ) (wide : 16 ≤ w) (t m : Tables C) (r v : ℕ) (part : PartFilled c l t r v) (there : v < t.size r) (e : Elsewhere w t m r v) (pose : (m.station r v).pose ≡ (t.station r v).pose) where
  few : (q : ℕ) → q < suc r → t.size q ≤ 16
  few = part_few c l w wide t r v part

  fits : (q : ℕ) → q < suc r → t.used q ≤ w
  fits = part_fits c l w wide t r v part

  same : (q : ℕ) → q < r → RungSame w t m q
  same q h =
      let other : q ≡ r → ⊥ = λ z. omega arith in
      record {
        size = e.sizes q;
        stations = λ u i. e.stations q u i (λ x y. other x);
        slots = λ u i. e.slots q u i (λ x y. other x);
        tracks = λ i k. e.tracks q i k other;
        used = e.used q other;
      }

  pub same_ladder : SameLadder t m (suc r)
  same_ladder = record { sizes = λ q h. e.sizes q; rungs = ladder_same t m (suc r) (suc r) (elsewhere_poses c l w (suc r) t m few fits r v e pose) (omega arith) }

  other : (u : ℕ) → u < t.size r → (u ≡ v → ⊥) → m.station r u ≡ t.station r u
  other u h ne = e.stations r u (omega (arith, part.few)) (λ x y. ne y)

  -- the poses after it that were blank are
  pub blank_kept : ((u : ℕ) → v < u → u < t.size r → t.station r u ≡ blank (t.station r u).pose) → (u : ℕ) → v < u → u < m.size r → m.station r u ≡ blank (m.station r u).pose
  blank_kept h u k i =
      let u< : u < t.size r = omega (arith, e.sizes r) in
      let s = other u u< (λ z. omega arith) in coe 1 0 (j. s j ≡ blank (s j).pose) (h u k u<)

  -- what is filled, up to pose v or with it
  pub part_after : BlockGrows t m r → BlockSound c l m r → (k : ℕ) → v ≤ k → k ≤ suc v → (v < k → PoseSound c l m r v × ((m.station r v).found ≤ 1)) → m.used r ≤ k → PartFilled c l m r k
  part_after g b k low high here room = record {
    before = filled_kept c l w wide t m r part.before same;
    some = omega (arith, part.some, e.sizes r);
    few = omega (arith, part.few, e.sizes r);
    upto = omega (arith, e.sizes r);
    poses = λ u h. sound u h (cases_eq u v);
    found = λ u h. found u h (cases_eq u v);
    block = room;
    places = b.places;
    once = b.once;
  }
    where
      sound : (u : ℕ) → u < k → (u ≡ v) ⊎ (u ≡ v → ⊥) → PoseSound c l m r u
      sound u h (inl z) = coe 1 0 (j. PoseSound c l m r (z j)) (here (omega arith)).0
      sound u h (inr z) = let u< : u < v = omega arith in elsewhere_pose c l w (suc r) t m few fits r v e pose g (omega arith) u (omega arith) z (part.poses u u<)

      found : (u : ℕ) → u < k → (u ≡ v) ⊎ (u ≡ v → ⊥) → (m.station r u).found ≤ 1
      found u h (inl z) = coe 1 0 (j. (m.station r (z j)).found ≤ 1) (here (omega arith)).1
      found u h (inr z) = let u< : u < v = omega arith in let s = other u (omega arith) z in coe 1 0 (j. (s j).found ≤ 1) (part.found u u<)
