-- The search goes down to where it can begin and climbs back, one rank on each rung. Assumes nothing.
use Rattle.std.proofs.Common.{◌≡◌, ℕ, zero, suc, ◌+◌, ◌<◌, ◌≤◌, Bool, true, false, cond, ◌⊎◌, length, Some, None, MatchBool, Option, sym, refl, ap, ◌∙◌, subst, inl, inr, ⊎_elim, arith}
use Rattle.std.proofs.lemmas.Bool.{ltb-true, ltb-false, cases_eq}
use Rattle.ladder.specs.declared.poses.PoseNumber.{PoseNumber}
use Rattle.ladder.specs.declared.poses.Limits.{Limits}
use Rattle.ladder.specs.Rules.{Rules, Lawful}
use Rattle.ladder.specs.Tracks.{Bounded}
use Rattle.ladder.specs.Ranking.{ending}
use Rattle.ladder.proofs.Endings.{single}
use Rattle.enumeration.specs.declared.records.Station.{Station}
use Rattle.enumeration.specs.declared.records.Ranked.{Ranked}
use Rattle.enumeration.specs.declared.records.Back.{Back}
use Rattle.enumeration.specs.Tables.{Tables, poses, ladder}
use Rattle.enumeration.specs.Sound.{ends, Lies, Holds, last_back, PoseSound, RungsSound, CandidatesSound}
use Rattle.enumeration.specs.Changes.{Unchanged, Draws}
use Rattle.enumeration.specs.Advancing.{Ready, EntersPending, MovedOn, Advances}
use Rattle.enumeration.specs.Writes.{Readable, Steady, Advanceable, Advanced, successor_found, needed_at}
use Rattle.enumeration.specs.Taking.{LookedFor}
use Rattle.enumeration.proofs.Frames.{PosesKept, elsewhere_poses, ladder_same, unchanged_elsewhere, length_poses, rung_kept, LiesBefore, grows_lies, block_same}

module _ {C P : Type 0} (c : Rules C P) (laws : Lawful c) (l : Limits) (b : Bounded l) (w n : ℕ) (few : n ≤ 128) where
  -- the last found track at a pose with a pending successor, and its front
  module _ (t : Tables C) (sound : RungsSound c l t n) (room : (q : ℕ) → q < n → t.used q ≤ w) (p v : ℕ) (h : suc p < n) (nv : v < t.size (suc p)) (pending : (t.station (suc p) v).pending ≡ true) where
    abbrev i : ℕ
    i = (t.station (suc p) v).last.0

    pose : PoseSound c l t (suc p) v
    pose = (sound (suc p) h).poses v nv

    candidates : CandidatesSound c l t p v pose.sourced.0
    candidates = pose.sourced.1

    some : (k : ℕ) × (suc k ≡ (t.station (suc p) v).found)
    some = at (t.station (suc p) v).found (candidates.pending pending).0
      where
        at : (m : ℕ) → 0 < m → (k : ℕ) × (suc k ≡ m)
        at zero z = absurd (let no_way : ⊥ = omega arith in no_way)
        at (suc k) z = (k, refl)

    last_in_use : i < t.used (suc p)
    last_in_use = (pose.last some.0 some.1).in_use

    front_lies : Lies t p (last_back t (suc p) v).pose.0 (last_back t (suc p) v).rank.0 (t.track (suc p) i).front.0
    front_lies = ((sound (suc p) h).places i last_in_use).extends.0

    front_holds : Holds c l t p (t.track (suc p) i).front.0
    front_holds = (sound p (omega arith)).places (t.track (suc p) i).front.0 front_lies.in_use

    back_there : (last_back t (suc p) v).pose.0 < t.size p
    back_there = subst (λ u. u < t.size p) front_lies.of_pose front_holds.numbered

    back_found : (last_back t (suc p) v).rank.0 < (t.station p (last_back t (suc p) v).pose.0).found
    back_found = subst (λ k. k < (t.station p (last_back t (suc p) v).pose.0).found) front_lies.of_rank (subst (λ u. (t.track p (t.track (suc p) i).front.0).rank.0 < (t.station p u).found) front_lies.of_pose front_holds.found)

    readable : (i < w) × ((last_back t (suc p) v).pose.0 < 16)
    readable = (omega (arith, last_in_use, room (suc p) h), omega (arith, back_there, (sound p (omega arith)).few))

    after_lies : successor_found t p v ≡ true → Lies t p (last_back t (suc p) v).pose.0 ((last_back t (suc p) v).rank.0 + 1) (t.track p (t.track (suc p) i).front.0).after.0
    after_lies e =
        let f = (t.track (suc p) i).front.0 in
        subst (λ k. Lies t p (last_back t (suc p) v).pose.0 (k + 1) (t.track p f).after.0) front_lies.of_rank
        (subst (λ u. Lies t p u ((t.track p f).rank.0 + 1) (t.track p f).after.0) front_lies.of_pose
        (front_holds.after (subst (λ u. (t.track p f).rank.0 + 1 < (t.station p u).found) (sym front_lies.of_pose) (subst (λ k. k + 1 < (t.station p (last_back t (suc p) v).pose.0).found) (sym front_lies.of_rank) (ltb-true _ _ e)))))

    steady : t.used (suc p) < w → (t.station (suc p) v).found < 65535 → Steady w t p v
    steady free small = record {
      room = omega (arith, candidates.room, ap {B = ℕ} (λ x. cond x 1 0) pending, (sound p (omega arith)).few);
      more = record { found = small; free = free; last = λ _. last_in_use };
      front = omega (arith, front_lies.in_use, room p (omega arith));
      after = λ e. omega (arith, (after_lies e).in_use, room p (omega arith));
      posed = λ e. let a = after_lies e in let z : (t.track p (t.track p (t.track (suc p) i).front.0).after.0).pose.0 < t.size p = ((sound p (omega arith)).places (t.track p (t.track (suc p) i).front.0).after.0 a.in_use).numbered in omega (arith, z, (sound p (omega arith)).few);
    }

  -- what the calls need, from soundness
  pub readable_at : (t : Tables C) → RungsSound c l t n → ((q : ℕ) → q < n → t.used q ≤ w) → (r v : ℕ) → r < n → v < t.size r → Readable w t r v
  readable_at t s room zero v h nv = tt
  readable_at t s room (suc p) v h nv = λ e. readable t s room p v h nv e

  pub advanceable_at : (t : Tables C) → RungsSound c l t n → ((q : ℕ) → q < n → t.used q ≤ w) → (r v : ℕ) → r < n → v < t.size r → t.used r < w → (t.station r v).found < 65535 → Advanceable w t r v
  advanceable_at t s room zero v h nv free small = tt
  advanceable_at t s room (suc p) v h nv free small = λ e. steady t s room p v h nv e free small

  unchanged_sound : (t m : Tables C) → ((q : ℕ) → q < n → t.used q ≤ w) → Unchanged w t m → RungsSound c l t n → RungsSound c l m n
  unchanged_sound t m room u s q h =
      rung_kept c l t m w q
      (record { sizes = λ x _. u.sizes x; each = λ x y hx hy. ap (λ (z : Station). z.pose) (u.stations x y (omega (arith, hy, (s x (omega (arith, hx, h))).few))) })
      (before q h)
      (λ x hx. u.stations q x hx) (λ x hx. u.slots q x hx) (record { tracks = λ i hi. u.tracks q i hi; used = u.used q }) (room q h) (s q h)
    where
      before : (q : ℕ) → q < n → LiesBefore t m q
      before zero h = tt
      before (suc p) h = grows_lies t m p (block_same t m w p (room p (omega arith)) (u.used p) (λ i hi. u.tracks p i hi))

  unchanged_moved : (t m : Tables C) (r v : ℕ) → v < 16 → Unchanged w t m → length (ends c l t r v) ≤ (t.station r v).found → MovedOn c l w t m r v
  unchanged_moved t m r v hv u e = record {
    elsewhere = unchanged_elsewhere w t m r v u;
    pose = ap (λ (z : Station). z.pose) (u.stations r v hv);
    block = omega (arith, u.used r);
    found = inr (ap (λ (z : Station). z.found) (u.stations r v hv), e);
  }

  first_ended : (t : Tables C) (v : ℕ) → RungsSound c l t n → 0 < n → v < t.size 0 → length (ends c l t 0 v) ≤ (t.station 0 v).found
  unfolding ladder
  first_ended t v s h nv =
      let one : (t.station 0 v).found ≡ 1 = ((s 0 h).poses v nv).sourced.0 in
      let e = ap length (single c laws l b (poses t 0) v (omega (arith, nv, length_poses t 0))) in
      omega (arith, one, e)

  -- one pose is advanced
  pub advance_one : Advances c → (t m : Tables C) (r v : ℕ) → RungsSound c l t n → ((q : ℕ) → q < n → t.used q ≤ w) → r < n → v < t.size r → t.used r < w → ((t.station r v).pending ≡ true → Ready c l t r v) → Advanced c l w t m r v → RungsSound c l m n × MovedOn c l w t m r v
  advance_one adv t m zero v s room h nv free ready a = (unchanged_sound t m room a s, unchanged_moved t m 0 v (omega (arith, nv, (s 0 h).few)) a (first_ended t v s h nv))
  advance_one adv t m (suc p) v s room h nv free ready a = at (t.station (suc p) v).pending refl a
    where
      at : (x : Bool) → (t.station (suc p) v).pending ≡ x → MatchBool x ((k : Tables C) × EntersPending c l w t k p v × Draws c w k m (suc p) v) (Unchanged w t m) → RungsSound c l m n × MovedOn c l w t m (suc p) v
      at true e d = adv l b n w few t d.0 m s room p v h nv free e (ready e) d.1 d.2
      at false e u = (unchanged_sound t m room u s, unchanged_moved t m (suc p) v (omega (arith, nv, (s (suc p) h).few)) u (((s (suc p) h).poses v nv).sourced.1.settled e))

  -- ---- what the descent answers

  cases_of : {G : Type 0} (x : Bool) → (x ≡ true → G) → (x ≡ false → G) → G
  cases_of true f g = f refl
  cases_of false f g = g refl

  -- a pose is needed: the pending successor extends its next track
  pub record Wants (t : Tables C) (p v u : ℕ) : Type 0 where
    pub pending : (t.station (suc p) v).pending ≡ true
    pub origin : (last_back t (suc p) v).pose.0 ≡ u
    pub rank : (last_back t (suc p) v).rank.0 + 1 ≡ (t.station p u).found
    pub there : u < t.size p

  pub some_needed : (t : Tables C) → RungsSound c l t n → ((q : ℕ) → q < n → t.used q ≤ w) → (p v : ℕ) (u : PoseNumber) → suc p < n → v < t.size (suc p) → needed_at t (suc p) v ≡ Some u → Wants t p v u.0
  some_needed t s room p v u h nv e = cases_of (t.station (suc p) v).pending
      (λ pend. cases_of (successor_found t p v)
      (λ f. absurd (let z : ◌≡◌ {A = Option PoseNumber} None (Some u) = sym (ap (λ x. cond x (cond (successor_found t p v) None (Some (last_back t (suc p) v).pose)) None) pend ∙ ap (λ x. cond x None (Some (last_back t (suc p) v).pose)) f) ∙ e in let y : ◌≡◌ {A = ℕ} 0 1 = cc in let no_way : ⊥ = omega arith in no_way))
      (λ f.
      let z : ◌≡◌ {A = Option PoseNumber} (Some (last_back t (suc p) v).pose) (Some u) = sym (ap (λ x. cond x (cond (successor_found t p v) None (Some (last_back t (suc p) v).pose)) None) pend ∙ ap (λ x. cond x None (Some (last_back t (suc p) v).pose)) f) ∙ e in
      let is : (last_back t (suc p) v).pose ≡ u = cc in
      let num : (last_back t (suc p) v).pose.0 ≡ u.0 = ap (λ (x : PoseNumber). x.0) is in
      let found : (last_back t (suc p) v).rank.0 < (t.station p (last_back t (suc p) v).pose.0).found = back_found t s room p v h nv pend in
      let not : (t.station p (last_back t (suc p) v).pose.0).found ≤ (last_back t (suc p) v).rank.0 + 1 = ltb-false _ _ f in
      record {
        pending = pend;
        origin = num;
        rank = (let k : (last_back t (suc p) v).rank.0 + 1 ≡ (t.station p (last_back t (suc p) v).pose.0).found = omega arith in k) ∙ ap (λ x. (t.station p x).found) num;
        there = subst (λ x. x < t.size p) num (back_there t s room p v h nv pend);
      }))
      (λ pend. absurd (let z : ◌≡◌ {A = Option PoseNumber} None (Some u) = sym (ap (λ x. cond x (cond (successor_found t p v) None (Some (last_back t (suc p) v).pose)) None) pend) ∙ e in let y : ◌≡◌ {A = ℕ} 0 1 = cc in let no_way : ⊥ = omega arith in no_way))

  -- ---- the climb

  -- from the tables t₀ to the tables t: rung by rung up to rung i, one rank at most was found on each; rung i and those after it are as they were, and pose `path i` of rung i can be advanced at once; past rung r the rank looked for is found
  pub record Climb (t₀ t : Tables C) (path : ℕ → ℕ) (r i : ℕ) : Type 0 where
    pub sound : RungsSound c l t n
    pub same : PosesKept t₀ t n
    pub stations : (q u : ℕ) → i ≤ q → u < 16 → t.station q u ≡ t₀.station q u
    pub tracks : (q k : ℕ) → i ≤ q → k < w → t.track q k ≡ t₀.track q k
    pub used_on : (q : ℕ) → i ≤ q → t.used q ≡ t₀.used q
    pub used : (q : ℕ) → q < n → t.used q ≤ t₀.used q + 1
    pub found : (q u : ℕ) → q < n → u < t.size q → (t.station q u).found ≤ (t₀.station q u).found + 1
    pub ready : i ≤ r → (t.station i (path i)).pending ≡ true → Ready c l t i (path i)
    pub done : i ≡ suc r → LookedFor c l t₀ t r (path r)

  module _ (adv : Advances c) (t₀ : Tables C) (sound₀ : RungsSound c l t₀ n) (free : (q : ℕ) → q < n → t₀.used q < w) (path : ℕ → ℕ) (low r : ℕ) (hr : r < n) (inside : (j : ℕ) → low ≤ j → j ≤ r → path j < t₀.size j) (chain : (j : ℕ) → low ≤ j → j < r → Wants t₀ j (path (suc j)) (path j)) where
    module _ (t : Tables C) (i : ℕ) (lo : low ≤ i) (hi : i ≤ r) (h : Climb t₀ t path r i) where
      pub room : (q : ℕ) → q < n → t.used q ≤ w
      room q x = omega (arith, h.used q x, free q x)

      pub on_rung : path i < t.size i
      on_rung = omega (arith, inside i lo hi, h.same.sizes i (omega arith))

      pub free_here : t.used i < w
      free_here = omega (arith, h.used_on i (omega arith), free i (omega arith))

      low_number : path i < 16
      low_number = omega (arith, on_rung, (h.sound i (omega arith)).few)

      here : t.station i (path i) ≡ t₀.station i (path i)
      here = h.stations i (path i) (omega arith) low_number

      pub found_here : (t.station i (path i)).found ≡ (t₀.station i (path i)).found
      found_here = ap (λ (z : Station). z.found) here

      module _ (m : Tables C) (a : Advanced c l w t m i (path i)) where
        both : RungsSound c l m n × MovedOn c l w t m i (path i)
        both = advance_one adv t m i (path i) h.sound room (omega arith) on_rung free_here (h.ready hi) a

        mv : MovedOn c l w t m i (path i)
        mv = both.1

        kept : PosesKept t m n
        kept = elsewhere_poses c l w n t m (λ q x. (h.sound q x).few) room i (path i) mv.elsewhere mv.pose

        ends_kept : (q v : ℕ) → q < n → ends c l m q v ≡ ends c l t q v
        ends_kept q v x = ap (λ rs. ending c l rs v) (ladder_same t m n (suc q) kept x)

        ends_same : (q v : ℕ) → q < n → ends c l t q v ≡ ends c l t₀ q v
        ends_same q v x = ap (λ rs. ending c l rs v) (ladder_same t₀ t n (suc q) h.same x)

        stations_on : (q u : ℕ) → suc i ≤ q → u < 16 → m.station q u ≡ t₀.station q u
        stations_on q u x y = mv.elsewhere.stations q u y (λ e _. let no_way : ⊥ = omega (arith, e, x) in no_way) ∙ h.stations q u (omega arith) y

        tracks_on : (q k : ℕ) → suc i ≤ q → k < w → m.track q k ≡ t₀.track q k
        tracks_on q k x y = mv.elsewhere.tracks q k y (λ e. let no_way : ⊥ = omega (arith, e, x) in no_way) ∙ h.tracks q k (omega arith) y

        found_one : (q u : ℕ) → q < n → u < m.size q → (m.station q u).found ≤ (t₀.station q u).found + 1
        found_one q u x y = at (cases_eq q i) (cases_eq u (path i))
          where
            u16 : u < 16
            u16 = omega (arith, y, mv.elsewhere.sizes q, (h.sound q x).few)

            near : ((m.station i (path i)).found ≡ (t.station i (path i)).found + 1) ⊎ (((m.station i (path i)).found ≡ (t.station i (path i)).found) × (length (ends c l t i (path i)) ≤ (t.station i (path i)).found)) → (m.station i (path i)).found ≤ (t₀.station i (path i)).found + 1
            near (inl e) = omega (arith, e, found_here)
            near (inr e) = omega (arith, e.0, found_here)

            same_as : (q ≡ i → u ≡ path i → ⊥) → (m.station q u).found ≤ (t₀.station q u).found + 1
            same_as d = let e : (m.station q u).found ≡ (t.station q u).found = ap (λ (z : Station). z.found) (mv.elsewhere.stations q u u16 d) in omega (arith, e, h.found q u x (omega (arith, y, mv.elsewhere.sizes q)))

            at : (q ≡ i) ⊎ (q ≡ i → ⊥) → (u ≡ path i) ⊎ (u ≡ path i → ⊥) → (m.station q u).found ≤ (t₀.station q u).found + 1
            at (inl e) (inl f) = subst (λ a. (m.station a u).found ≤ (t₀.station a u).found + 1) (sym e) (subst (λ a. (m.station i a).found ≤ (t₀.station i a).found + 1) (sym f) (near mv.found))
            at (inl e) (inr f) = same_as (λ _ k. f k)
            at (inr e) f = same_as (λ k _. e k)

        used_one : (q : ℕ) → q < n → m.used q ≤ t₀.used q + 1
        used_one q x = at (cases_eq q i)
          where
            at : (q ≡ i) ⊎ (q ≡ i → ⊥) → m.used q ≤ t₀.used q + 1
            at (inl e) = subst (λ a. m.used a ≤ t₀.used a + 1) (sym e) (omega (arith, mv.block, h.used_on i (omega arith)))
            at (inr e) = omega (arith, mv.elsewhere.used q e, h.used q x)

        -- the rung above can be advanced now
        ready_on : suc i ≤ r → (m.station (suc i) (path (suc i))).pending ≡ true → Ready c l m (suc i) (path (suc i))
        ready_on le _ = ⊎_elim (λ e. inl (found_more e)) (λ e. inr (used_up e)) mv.found
          where
            want : Wants t₀ i (path (suc i)) (path i)
            want = chain i lo le

            above : path (suc i) < 16
            above = omega (arith, inside (suc i) (omega arith) le, (sound₀ (suc i) (omega arith)).few)

            station_is : m.station (suc i) (path (suc i)) ≡ t₀.station (suc i) (path (suc i))
            station_is = stations_on (suc i) (path (suc i)) (omega arith) above

            last_low : (t₀.station (suc i) (path (suc i))).last.0 < w
            last_low = (readable t₀ sound₀ (λ q x. omega (arith, free q x)) i (path (suc i)) (omega arith) (inside (suc i) (omega arith) le) want.pending).0

            back_is : last_back m (suc i) (path (suc i)) ≡ last_back t₀ (suc i) (path (suc i))
            back_is = ap (λ (z : Station). (m.track (suc i) z.last.0).back) station_is ∙ ap (λ (e : Ranked C). e.back) (tracks_on (suc i) (t₀.station (suc i) (path (suc i))).last.0 (omega arith) last_low)

            pose_is : (last_back m (suc i) (path (suc i))).pose.0 ≡ path i
            pose_is = ap (λ (x : Back). x.pose.0) back_is ∙ want.origin

            rank_is : (last_back m (suc i) (path (suc i))).rank.0 + 1 ≡ (t₀.station i (path i)).found
            rank_is = ap (λ (x : Back). x.rank.0 + 1) back_is ∙ want.rank

            found_more : (m.station i (path i)).found ≡ (t.station i (path i)).found + 1 → (last_back m (suc i) (path (suc i))).rank.0 + 1 < (m.station i (last_back m (suc i) (path (suc i))).pose.0).found
            found_more e = subst (λ u. (last_back m (suc i) (path (suc i))).rank.0 + 1 < (m.station i u).found) (sym pose_is) (omega (arith, e, rank_is, found_here))

            used_up : ((m.station i (path i)).found ≡ (t.station i (path i)).found) × (length (ends c l t i (path i)) ≤ (t.station i (path i)).found) → length (ends c l m i (last_back m (suc i) (path (suc i))).pose.0) ≤ (last_back m (suc i) (path (suc i))).rank.0 + 1
            used_up e = subst (λ u. length (ends c l m i u) ≤ (last_back m (suc i) (path (suc i))).rank.0 + 1) (sym pose_is) (omega (arith, e.1, rank_is, found_here, ap length (ends_kept i (path i) (omega arith))))

        looked : suc i ≡ suc r → LookedFor c l t₀ m r (path r)
        looked e = subst (λ k. LookedFor c l t₀ m k (path k)) (let same : i ≡ r = omega (arith, e) in same) (record {
          others = λ u x d. mv.elsewhere.stations i u x (λ _ y. d y) ∙ h.stations i u (omega arith) x;
          found = ⊎_elim (λ f. inl (omega (arith, f, found_here))) (λ f. inr ((let z : (m.station i (path i)).found ≡ (t₀.station i (path i)).found = omega (arith, f.0, found_here) in z), (let z : length (ends c l t₀ i (path i)) ≤ (t₀.station i (path i)).found = omega (arith, f.1, found_here, ap length (ends_same i (path i) (omega arith))) in z))) mv.found;
        })

        pub climbs : Climb t₀ m path r (suc i)
        climbs = record {
          sound = both.0;
          same = record { sizes = λ q x. kept.sizes q x ∙ h.same.sizes q x; each = λ q u x y. kept.each q u x (omega (arith, y, h.same.sizes q x)) ∙ h.same.each q u x y };
          stations = stations_on;
          tracks = tracks_on;
          used_on = λ q x. mv.elsewhere.used q (λ e. let no_way : ⊥ = omega (arith, e, x) in no_way) ∙ h.used_on q (omega arith);
          used = used_one;
          found = found_one;
          ready = ready_on;
          done = looked;
        }
