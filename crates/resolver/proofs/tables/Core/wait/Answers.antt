use Rattle.std.proofs.Common.{◌≡◌, ◌+◌, ◌*◌, List, sym, ap, ◌∙◌, arith}
use Rattle.enumeration.specs.declared.records.Candidate.{Candidate}
use Rattle.enumeration.specs.declared.records.Station.{Station}
use Rattle.enumeration.specs.Waiting.{ReachedBoth, earlier}
use Rattle.enumeration.specs.Changes.{with_waiting}
use Rattle.resolver.specs.Tables.{station_at, part}
use Rattle.resolver.proofs.Slices.{parts_elsewhere}
use Rattle.resolver.proofs.Heaps.{pushed_at}
use Rattle.resolver.proofs.tables.Core.wait.Goals as goal

pub returns-clause-effect : goal.returns-clause-effect
returns-clause-effect g c =
    let rules = g.C.Cost.rules in
    let k = c.args.self.now in
    let r = c.args.r in
    let v = c.args.v.0 in
    let xs = k.candidates.now in
    let ys = c.enter_part-waiting.new.table in
    let n = c.enter_part-waiting.result in
    let e = c.enter_part-waiting.ensures in
    λ few room.
    let S = station_at k r v in
    let i = c.station_place-i.ensures.is few in
    let s = c.station-s.ensures few in
    let p = c.put_station.ensures.effect few in
    let there : (l : List (Candidate g.row.C.Denot)) → part c.station_place-i.result l ≡ part (16 * r + v) l = λ l. ap (λ j. part j l) i in
    let some : c.min-n.result ≡ S.waiting = omega (arith, c.min-n.ensures, ap (λ t. t.waiting) s, room) in
    record {
      elsewhere = record {
        sizes = p.elsewhere.sizes;
        stations = p.elsewhere.stations;
        slots = λ q u h ne. p.elsewhere.slots q u h ne ∙ parts_elsewhere xs ys q u r v c.station_place-i.result i h few ne e.below e.above;
        tracks = p.elsewhere.tracks;
        used = p.elsewhere.used;
      };
      block = record { tracks = p.block.tracks; used = p.block.used };
      station = p.here ∙ ap (λ (t : Station). with_waiting t n) s ∙ ap (λ z. with_waiting S z) (sym (ap (λ t. t.waiting) p.here));
      pushed = pushed_at (ReachedBoth rules) (earlier rules) c.args.x (there xs) some (there ys ∙ sym p.slots) (sym (ap (λ t. t.waiting) p.here)) (e.inside (omega (arith, some, room)));
    }
