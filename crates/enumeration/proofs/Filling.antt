-- Adding a rung keeps the tables sound. Assumes nothing.
use Rattle.std.proofs.Common.{◌≡◌, ℕ, zero, suc, ◌+◌, ◌<◌, ◌≤◌, ◌⊎◌, ◌∷◌, length, sym, refl, ap, ◌∙◌, subst, inl, inr, arith}
use Rattle.std.proofs.lemmas.List.FromFn.{fill_by_all}
use Rattle.std.proofs.lemmas.Bool.{cases_eq}
use Rattle.ladder.specs.declared.poses.Limits.{Limits}
use Rattle.ladder.specs.Rules.{Rules, Lawful}
use Rattle.ladder.specs.Tracks.{Rung, Bounded, origin}
use Rattle.enumeration.specs.Tables.{Tables, poses, ladder}
use Rattle.enumeration.specs.Sound.{RungSound}
use Rattle.enumeration.specs.Filling.{blank, Placed, EntersFirst, Fresh, Filled, Begun, Entering, SameLadder, InTurn, Settles, Adds, AddingSteps, AddingKeeps}
use Rattle.enumeration.specs.Changes.{Draws}
use Rattle.enumeration.proofs.Frames.{ladder_more, ladder_same}
use Rattle.enumeration.proofs.Partly.{RungSame, before_poses, filled_kept}
use Rattle.enumeration.proofs.Firsts.{entering, entered, drawn, started}

-- ---- the poses of the rung are written

module _ {C P : Type 0} (c : Rules C P) (l : Limits) (w : ℕ) (wide : 16 ≤ w) (n : ℕ) (ps : Rung) (t m : Tables C) (some : 1 ≤ length ps) (few : length ps ≤ 16) (before : Filled c l t n) (h : Placed w t m n ps) where
  same : (q : ℕ) → q < n → RungSame w t m q
  same q k =
      let ne : q ≡ n → ⊥ = λ e. omega arith in
      record {
        size = h.sizes q ne;
        stations = λ u a. h.stations q u a ne;
        slots = λ u a. h.slots q u a ne;
        tracks = λ i a. h.tracks q i a ne;
        used = h.used q ne;
      }

  new_poses : poses m n ≡ ps
  new_poses = sym (fill_by_all (λ v. (m.station n v).pose) ps (m.size n) origin (sym h.size) (λ k lt. sym (ap (λ s. s.pose) (h.new k (omega (arith, lt, h.size))))))

  pub placed : Begun c l m n 0 × (ladder m (suc n) ≡ ps ∷ ladder t n)
  placed = (
    record {
      part = record {
        before = filled_kept c l w wide t m n before same;
        some = omega (arith, some, h.size);
        few = omega (arith, few, h.size);
        upto = omega arith;
        poses = λ u k. absurd (omega arith);
        found = λ u k. absurd (omega arith);
        block = omega (arith, h.empty);
        places = λ i k. absurd (omega (arith, k, h.empty));
        once = λ i j k. absurd (omega (arith, k, h.empty));
      };
      blank_on = λ u _ k. let e = h.new u (omega (arith, k, h.size)) in e ∙ ap blank (sym (ap (λ s. s.pose) e));
    },
    ladder_more m n ∙ (λ j. new_poses j ∷ ladder_same t m n n (before_poses c l w wide t m n before same) (omega arith) j),
  )

-- ---- the rung is filled

pub filled : {C P : Type 0} (c : Rules C P) (l : Limits) (n : ℕ) (t : Tables C) → Begun c l t n (t.size n) → Filled c l t (suc n)
filled c l n t h = record { sound = λ r k. sound r k (cases_eq r n); fresh = λ r k. fresh r k (cases_eq r n) }
  where
    here : RungSound c l t n
    here = record { some = h.part.some; few = h.part.few; poses = h.part.poses; places = h.part.places; once = h.part.once }

    sound : (r : ℕ) → r < suc n → (r ≡ n) ⊎ (r ≡ n → ⊥) → RungSound c l t r
    sound r k (inl e) = subst (RungSound c l t) (sym e) here
    sound r k (inr ne) = h.part.before.sound r (omega arith)

    fresh : (r : ℕ) → r < suc n → (r ≡ n) ⊎ (r ≡ n → ⊥) → Fresh t r
    fresh r k (inl e) = subst (Fresh t) (sym e) (record { found = h.part.found; block = h.part.block })
    fresh r k (inr ne) = h.part.before.fresh r (omega arith)

-- ---- steps in turn

-- what each step keeps is kept to the end
in_turn : {C : Type 0} (step : ℕ → Tables C → Tables C → Type 0) (Kept : ℕ → Tables C → Type 0) (n : ℕ) → ((a : ℕ) (t s : Tables C) → a < n → Kept a t → step a t s → Kept (suc a) s) → (k a : ℕ) → a + k ≡ n → (t m : Tables C) → Kept a t → InTurn step a k t m → Kept n m
in_turn step Kept n f zero a e t m h s = subst (Kept n) s (subst (λ x. Kept x t) (omega (arith, e)) h)
in_turn step Kept n f (suc k) a e t m h s = in_turn step Kept n f k (suc a) (omega (arith, e)) s.0 m (f a t s.0 (omega (arith, e)) h s.1) s.2

-- the ladder stays over two changes, and over none
pub same_through : {C : Type 0} {t s m : Tables C} {n : ℕ} → SameLadder t s n → SameLadder s m n → SameLadder t m n
same_through f g = record { sizes = λ r k. g.sizes r k ∙ f.sizes r k; rungs = g.rungs ∙ f.rungs }

pub same_self : {C : Type 0} (t : Tables C) (n : ℕ) → SameLadder t t n
same_self t n = record { sizes = λ r k. refl; rungs = refl }

module _ {C P : Type 0} (c : Rules C P) (laws : Lawful c) (l : Limits) (b : Bounded l) (w : ℕ) (wide : 16 ≤ w) where
  -- the first track at pose v is found
  pub settled : (n v : ℕ) → n < 128 → (t m : Tables C) → v < t.size n → Begun c l t n v → Settles c l w n v t m → Begun c l m n (suc v) × SameLadder t m (suc n)
  settled zero v few t m k h s = started c laws l b w wide t m v k h s
  settled (suc p) v few t m k h s =
      let all = in_turn (EntersFirst c l w p v) Kept (t.size p) step (t.size p) 0 (omega arith) t s.0 (entering c l t p v k h, same_self t (suc (suc p))) s.1 in
      let end = drawn c laws l b w wide s.0 m p v few (subst (Entering c l s.0 p v) (sym (all.1.sizes p (omega arith))) all.0) s.2 in
      (end.0, same_through all.1 end.1)
    where
      Kept : ℕ → Tables C → Type 0
      Kept u x = Entering c l x p v u × SameLadder t x (suc (suc p))

      step : (u : ℕ) (x y : Tables C) → u < t.size p → Kept u x → EntersFirst c l w p v u x y → Kept (suc u) y
      step u x y a q e = let z = entered c laws l b w wide x y p v u few (omega (arith, a, q.1.sizes p (omega arith))) q.0 e in (z.0, same_through q.1 z.1)

  -- adding a rung
  pub added : (n : ℕ) → n < 128 → (ps : Rung) → 1 ≤ length ps → length ps ≤ 16 → (t m : Tables C) → Filled c l t n → Adds c l w n ps t m → Filled c l m (suc n) × (ladder m (suc n) ≡ ps ∷ ladder t n)
  added n few ps some most t m before a =
      let first = placed c l w wide n ps t a.0 some most before a.1 in
      let all = in_turn (Settles c l w n) Kept (length ps) step (length ps) 0 (omega arith) a.0 m (first.0, same_self a.0 (suc n)) a.2 in
      (filled c l n m (subst (Begun c l m n) (sym (all.1.sizes n (omega arith) ∙ a.1.size)) all.0), all.1.rungs ∙ first.1)
    where
      Kept : ℕ → Tables C → Type 0
      Kept v x = Begun c l x n v × SameLadder a.0 x (suc n)

      step : (v : ℕ) (x y : Tables C) → v < length ps → Kept v x → Settles c l w n v x y → Kept (suc v) y
      step v x y k q s = let z = settled n v few x y (omega (arith, k, q.1.sizes n (omega arith), a.1.size)) q.0 s in (z.0, same_through q.1 z.1)

-- ---- the theorem

pub adding_steps : {C P : Type 0} (c : Rules C P) → Lawful c → (l : Limits) → Bounded l → (w n : ℕ) → 16 ≤ w → n < 128 → AddingSteps c l w n
adding_steps c laws l b w n wide few = record {
  placed = λ ps t m some most before h. placed c l w wide n ps t m some most before h;
  started = λ t m v e k h s. coe 1 0 (j. v < t.size (e j) → Begun c l t (e j) v → Begun c l m (e j) (suc v) × SameLadder t m (suc (e j))) (λ k h. started c laws l b w wide t m v k h s) k h;
  entering = λ t p v e k h. coe 1 0 (j. v < t.size (e j) → Begun c l t (e j) v → Entering c l t p v 0) (entering c l t p v) k h;
  entered = λ t m p v u e k h s. coe 1 0 (j. e j < 128 → Entering c l m p v (suc u) × SameLadder t m (suc (e j))) (λ few. entered c laws l b w wide t m p v u few k h s) few;
  drawn = λ t m p v e h d. coe 1 0 (j. e j < 128 → Draws c w t m (e j) v → Begun c l m (e j) (suc v) × SameLadder t m (suc (e j))) (λ few. drawn c laws l b w wide t m p v few h) few d;
  settled = λ t m v. settled c laws l b w wide n v few t m;
  filled = filled c l n;
}

pub adding_keeps : {C P : Type 0} (c : Rules C P) → Lawful c → AddingKeeps c
adding_keeps c laws = record {
  none = λ l t. record { sound = λ r h. absurd (omega arith); fresh = λ r h. absurd (omega arith) };
  adds = λ l b w n wide few. added c laws l b w wide n few;
  steps = λ l b w n wide few. adding_steps c laws l b w n wide few;
}
