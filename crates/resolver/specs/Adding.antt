-- What adding a rung writes, and what it leads to: from the resolver k to the resolver m. Assumes nothing.
use Rattle.std.specs.Prelude.{◌≡◌, ℕ, suc, ◌+◌, ◌<◌, ◌≤◌, ◌∷◌, length}
use Rattle.ladder.specs.Rules.{Rules}
use Rattle.ladder.specs.Tracks.{Rung}
use Rattle.enumeration.specs.Tables.{ladder}
use Rattle.enumeration.specs.Filling.{Placed, EntersFirst, Filled, Begun, Entering, SameLadder}
use Rattle.resolver.specs.declared.tables.Core.{Core}
use Rattle.resolver.specs.Tables.{tables_of, width}

-- what adding a rung leaves as it was; there is one rung more
pub record GrownByARung {C : Type 0} (k m : Core C) : Type 0 where
  pub limits : m.limits ≡ k.limits
  pub rung_limit : m.rung_limit ≡ k.rung_limit
  pub ration : m.ration ≡ k.ration
  pub rungs : m.rungs ≡ k.rungs + 1
  pub closed : m.closed ≡ k.closed
  pub taken : m.taken ≡ k.taken
  pub counts : m.counts ≡ k.counts
  pub recent : m.recent ≡ k.recent

module _ {C P : Type 0} (c : Rules C P) (k m : Core C) where
  -- the poses ps are written as rung r, with an empty block
  abbrev pub PlacesRung : ℕ → Rung → Type 0
  PlacesRung r ps = Placed (width k) (tables_of c k) (tables_of c m) r ps

  -- the first track at pose u of the rung before, if one is found, is entered as a candidate at pose v of rung r
  abbrev pub EntersFirstOf : ℕ → ℕ → ℕ → Type 0
  EntersFirstOf r v u =
      (p : ℕ) → r ≡ suc p → v < 16 → u < 16 → ((tables_of c k).station r v).waiting < 16 → (0 < ((tables_of c k).station p u).found → (((tables_of c k).station p u).last.0 < width k) × (((tables_of c k).track p ((tables_of c k).station p u).last.0).pose.0 < 16)) → EntersFirst c k.limits (width k) p v u (tables_of c k) (tables_of c m)

  -- at pose v of rung r, where none is entered, the first track of each pose of the rung before is
  abbrev pub EntersEach : ℕ → ℕ → Type 0
  EntersEach r v =
      (p : ℕ) → r ≡ suc p → Entering c k.limits (tables_of c k) p v 0 → Entering c k.limits (tables_of c m) p v ((tables_of c k).size p) × SameLadder (tables_of c k) (tables_of c m) (suc r)

  -- pose v of rung r, whose first v poses are settled, is settled
  abbrev pub SettlesPose : ℕ → ℕ → Type 0
  SettlesPose r v =
      v < (tables_of c k).size r → Begun c k.limits (tables_of c k) r v → Begun c k.limits (tables_of c m) r (suc v) × SameLadder (tables_of c k) (tables_of c m) (suc r)

  -- to filled rungs one of the poses ps is added: they are filled, and the ladder is the one before under that rung
  abbrev pub AddsRung : Rung → Type 0
  AddsRung ps =
      1 ≤ length ps → Filled c k.limits (tables_of c k) k.rungs → Filled c k.limits (tables_of c m) (suc k.rungs) × (ladder (tables_of c m) (suc k.rungs) ≡ ps ∷ ladder (tables_of c k) k.rungs)
