use Rattle.std.proofs.Common.{◌<◌, length, get_or, refl, ap, ◌∙◌, arith, get_or-set_other, get_or-set_same}
use Rattle.enumeration.specs.declared.records.Extent.{Extent}
use Rattle.resolver.specs.Tables.{no_extent}
use Rattle.resolver.proofs.Blocks.{kept_field}
use Rattle.resolver.proofs.tables.Core.rank.Goals as goal

pub returns-clause-effect : goal.returns-clause-effect
returns-clause-effect g c =
    let k = c.args.self.now in
    let r = c.args.r in
    let es = k.extents in
    let e : Extent = get_or es r no_extent in
    let more : Extent = record { poses = e.poses; ranked = c.saturating_add-extent.result } in
    let inside : r < length es = omega arith in (
      refl,
      λ h.
          let p = c.put_track.ensures.effect h in
          record {
            sizes = λ q. p.sizes q ∙ kept_field (λ (x : Extent). x.poses) es r more no_extent refl q;
            stations = p.stations;
            slots = p.slots;
            tracks = p.tracks;
            used = λ q ne. p.used q ∙ ap (λ (x : Extent). x.ranked) (get_or-set_other es r q more no_extent ne);
            more = p.used r ∙ ap (λ (x : Extent). x.ranked) (get_or-set_same es r more no_extent inside) ∙ omega (arith, c.saturating_add-extent.ensures, h, k.rationed);
            here = p.here;
          },
    )
