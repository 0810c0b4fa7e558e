-- Writing the poses of a rung, place by place. Assumes nothing.
use Rattle.std.proofs.Common.{◌≡◌, ℕ, ◌+◌, ◌*◌, ◌<◌, List, length, get_or, set, ap, ◌∙◌, get_or-set_other, get_or-set_same}
use Rattle.ladder.specs.Rules.{Rules}
use Rattle.ladder.specs.Tracks.{Rung, origin}
use Rattle.enumeration.specs.declared.records.Station.{Station}
use Rattle.enumeration.specs.declared.records.Extent.{Extent}
use Rattle.enumeration.specs.Filling.{blank}
use Rattle.resolver.specs.declared.tables.Core.{Core}
use Rattle.resolver.specs.Tables.{no_track, no_extent, station_in, part}
use Rattle.resolver.specs.Adding.{PlacesRung}

-- the first j of the poses ps are written as rung r over the table ss, which is now zs; the other rungs stay
pub record Written (ss zs : List Station) (r : ℕ) (ps : Rung) (j : ℕ) : Type 0 where
  pub new : (v : ℕ) → v < j → station_in zs r v ≡ blank (get_or ps v origin)
  pub old : (q u : ℕ) → u < 16 → (q ≡ r → ⊥) → station_in zs q u ≡ station_in ss q u

-- a resolver with other extents
abbrev pub with_extents : {C : Type 0} → Core C → List Extent → Core C
with_extents k es = record k { extents = es }

-- once all are written, from k to a, the extent of the rung is
pub places_rung : {C P : Type 0} (c : Rules C P) (k a : Core C) (r : ℕ) (ps : Rung) → Written k.stations.now a.stations.now r ps (length ps) → a.ranked.now ≡ k.ranked.now → a.ration ≡ k.ration → a.candidates.now ≡ k.candidates.now → a.extents ≡ k.extents → r < length a.extents → PlacesRung c k (with_extents a (set a.extents r (record { poses = length ps; ranked = 0 }))) r ps
places_rung c k a r ps written tracks ration slots extents inside =
    let e : Extent = record { poses = length ps; ranked = 0 } in
    let es = set a.extents r e in
    let other : (q : ℕ) → (q ≡ r → ⊥) → get_or es q no_extent ≡ get_or k.extents q no_extent = λ q ne. get_or-set_other a.extents r q e no_extent ne ∙ ap (λ xs. get_or xs q no_extent) extents in
    let here : get_or es r no_extent ≡ e = get_or-set_same a.extents r e no_extent inside in
    record {
      sizes = λ q ne. ap (λ (x : Extent). x.poses) (other q ne);
      stations = written.old;
      slots = λ q u h ne. ap (part (16 * q + u)) slots;
      tracks = λ q i h ne. ap (λ xs. get_or xs ((16 + a.ration) * q + i) (no_track c)) tracks ∙ ap (λ z. get_or k.ranked.now ((16 + z) * q + i) (no_track c)) ration;
      used = λ q ne. ap (λ (x : Extent). x.ranked) (other q ne);
      size = ap (λ (x : Extent). x.poses) here;
      new = written.new;
      empty = ap (λ (x : Extent). x.ranked) here;
    }
