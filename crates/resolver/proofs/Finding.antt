-- Climbing back along the path that the search went down, over the tables of a resolver. Assumes nothing.
use Rattle.std.proofs.Common.{◌≡◌, ℕ, suc, ◌+◌, ◌<◌, ◌≤◌, List, None, refl, subst, arith}
use Rattle.ladder.specs.declared.poses.PoseNumber.{PoseNumber}
use Rattle.ladder.specs.Rules.{Rules, Lawful}
use Rattle.enumeration.specs.Tables.{Tables}
use Rattle.enumeration.specs.Sound.{RungsSound}
use Rattle.enumeration.specs.Writes.{Readable, Advanceable, Advanced, PathDown, needed_at, path_at}
use Rattle.enumeration.specs.Taking.{LookedFor}
use Rattle.enumeration.proofs.Frames.{ladder_same}
use Rattle.enumeration.proofs.Advancing.{advances}
use Rattle.enumeration.proofs.Climbing.{Climb, Wants, climbs, readable_at, advanceable_at, some_needed}
use Rattle.resolver.specs.declared.tables.Core.{Core}
use Rattle.resolver.specs.Kept.{Same}
use Rattle.resolver.specs.Tables.{tables_of, width}
use Rattle.resolver.specs.Effects.{AdvancesPose, Descends}
use Rattle.resolver.specs.Finding.{RoomyTables, FindsNext}
use Rattle.resolver.proofs.Bounded.{bounded}
use Rattle.resolver.proofs.Premises.{sound_backed}

module _ {C P : Type 0} (c : Rules C P) (laws : Lawful c) where
  -- the first n rungs of the resolver k are sound and roomy, and path leads from rung r down to rung low, where nothing has to be found on the rung before
  pub record Begins (k : Core C) (r : ℕ) (path : List PoseNumber) (low n : ℕ) : Type 0 where
    pub few : n ≤ 128
    pub inside : r < n
    pub below : low ≤ r
    pub sound : RungsSound c k.limits (tables_of c k) n
    pub roomy : RoomyTables (width k) n (tables_of c k)
    pub top : PoseNumber
    pub down : PathDown (tables_of c k) r top path low
    pub ready : needed_at (tables_of c k) low (path_at path low).0 ≡ None

  -- from the resolver k to the resolver m the search climbed along path from rung low to rung i
  abbrev pub Climbs : Core C → Core C → ℕ → List PoseNumber → ℕ → ℕ → Type 0
  Climbs k m r path low i =
      (n : ℕ) (h : Begins k r path low n) → Climb c laws k.limits (bounded k) (width k) n h.few (tables_of c k) (tables_of c m) (λ j. (path_at path j).0) r i

  module _ (k : Core C) (r : ℕ) (path : List PoseNumber) (low n : ℕ) (h : Begins k r path low n) where
    abbrev t₀ : Tables C
    t₀ = tables_of c k

    within : (q : ℕ) → q < n → t₀.used q ≤ width k
    within q x = omega (arith, h.roomy.blocks q x)

    chain : (j : ℕ) → low ≤ j → j < r → Wants c laws k.limits (bounded k) (width k) n h.few t₀ j (path_at path (suc j)).0 (path_at path j).0
    chain j lo hi = some_needed c laws k.limits (bounded k) (width k) n h.few t₀ h.sound within j (path_at path (suc j)).0 (path_at path j) (omega (arith, h.inside)) (h.down.numbered (suc j) (omega arith) hi) (h.down.steps j lo hi)

  -- what advancing a pose does, by the limits and the width at entry
  advances_as : (k m a : Core C) → Same k m → (r v : ℕ) → AdvancesPose c m a r v → v < 16 → Readable (width k) (tables_of c m) r v → Advanceable (width k) (tables_of c m) r v → Advanced c k.limits (width k) (tables_of c m) (tables_of c a) r v
  advances_as k m a same r v h =
      let t : Tables C = tables_of c m in
      let u : Tables C = tables_of c a in
      coe 0 1 (j. v < 16 → Readable (16 + same.ration j) t r v → Advanceable (16 + same.ration j) t r v → Advanced c (same.limits j) (16 + same.ration j) t u r v) h

  -- one rung up
  pub climb_goes_on : (k m a : Core C) (r : ℕ) (path : List PoseNumber) (low i : ℕ) → Same k m → low ≤ i → i ≤ r → Climbs k m r path low i → AdvancesPose c m a i (path_at path i).0 → Climbs k a r path low (i + 1)
  climb_goes_on k m a r path low i same lo hi climbing advanced n h =
      subst (λ z. Climb c laws k.limits (bounded k) (width k) n h.few (tables_of c k) (tables_of c a) (λ j. (path_at path j).0) r z) (let next : suc i ≡ i + 1 = omega arith in next)
      (climbs c laws k.limits (bounded k) (width k) n h.few (advances c laws) (tables_of c k) h.sound h.roomy.blocks (λ j. (path_at path j).0) low r h.inside h.down.numbered (chain k r path low n h) t i lo hi at (tables_of c a)
      (advances_as k m a same i (path_at path i).0 advanced number (readable_at c laws k.limits (bounded k) (width k) n h.few t at.sound fits i (path_at path i).0 inside here) (advanceable_at c laws k.limits (bounded k) (width k) n h.few t at.sound fits i (path_at path i).0 inside here free small)))
    where
      t : Tables C
      t = tables_of c m

      at : Climb c laws k.limits (bounded k) (width k) n h.few (tables_of c k) (tables_of c m) (λ j. (path_at path j).0) r i
      at = climbing n h

      inside : i < n
      inside = omega (arith, h.inside)

      fits : (q : ℕ) → q < n → (tables_of c m).used q ≤ width k
      fits q x = omega (arith, at.used q x, h.roomy.blocks q x)

      here : (path_at path i).0 < (tables_of c m).size i
      here = omega (arith, h.down.numbered i lo hi, at.same.sizes i inside)

      number : (path_at path i).0 < 16
      number = omega (arith, here, (at.sound i inside).few)

      free : (tables_of c m).used i < width k
      free = omega (arith, at.used_on i (omega arith), h.roomy.blocks i inside)

      small : ((tables_of c m).station i (path_at path i).0).found < 65535
      small = omega (arith, at.found i (path_at path i).0 inside here, h.roomy.ranks i (path_at path i).0 inside (h.down.numbered i lo hi))

  -- past rung r the rank looked for is found
  pub climb_ends : (k m : Core C) (r : ℕ) (v : PoseNumber) (path : List PoseNumber) (low : ℕ) → low ≤ r → Descends c k r v path low → Climbs k m r path low (suc r) → FindsNext c k m r v.0
  climb_ends k m r v path low below descends climbing n few inside number sound roomy =
      record {
        sound = at.sound;
        same = record { sizes = at.same.sizes; rungs = ladder_same (tables_of c k) (tables_of c m) n n at.same (omega arith) };
        looked = subst (λ (u : PoseNumber). LookedFor c k.limits (tables_of c k) (tables_of c m) r u.0) goes.0.top (at.done refl);
        blocks = at.used;
        ranks = λ q u x y. at.found q u x (omega (arith, y, at.same.sizes q x));
      }
    where
      goes : PathDown (tables_of c k) r v path low × (needed_at (tables_of c k) low (path_at path low).0 ≡ None)
      goes = descends number (sound_backed c k.limits (width k) n (tables_of c k) sound (λ q x. omega (arith, roomy.blocks q x)) r inside)

      at : Climb c laws k.limits (bounded k) (width k) n few (tables_of c k) (tables_of c m) (λ j. (path_at path j).0) r (suc r)
      at = climbing n (record {
        few = few;
        inside = inside;
        below = below;
        sound = sound;
        roomy = roomy;
        top = v;
        down = goes.0;
        ready = goes.1;
      })
