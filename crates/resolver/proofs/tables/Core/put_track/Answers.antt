use Rattle.std.proofs.Common.{◌+◌, ◌*◌, get_or, set, sym, refl, ap, ◌∙◌, get_or-set_other, get_or-set_same}
use Rattle.resolver.specs.Tables.{no_track, width}
use Rattle.resolver.proofs.Blocks.{places_apart}
use Rattle.resolver.proofs.tables.Core.put_track.Goals as goal

pub returns-clause-effect : goal.returns-clause-effect
returns-clause-effect g c =
    let k = c.args.self.now in
    let xs = k.ranked.now in
    let e = c.args.e in
    let i = c.ranked_place.result in
    let d = no_track g.C.Cost.rules in
    let w = width k in
    λ h.
    let is = c.ranked_place.ensures.is h in
    record {
      sizes = λ q. refl;
      stations = λ q u. refl;
      slots = λ q u. refl;
      tracks = λ q j lt ne. get_or-set_other xs i (w * q + j) e d (λ same. places_apart w q c.args.r j c.args.at.0 lt h ne (same ∙ is));
      used = λ q. refl;
      here = ap (λ n. get_or (set xs i e) n d) (sym is) ∙ get_or-set_same xs i e d c.ranked_place.ensures.within;
    }
