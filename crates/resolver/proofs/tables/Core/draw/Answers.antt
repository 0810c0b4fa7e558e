use Rattle.std.proofs.Common.{◌≡◌, ℕ, ◌+◌, ◌-◌, ◌*◌, false, List, Some, None, sym, ap, ◌∙◌, arith}
use Rattle.enumeration.specs.declared.records.Candidate.{Candidate}
use Rattle.enumeration.specs.declared.records.Station.{Station}
use Rattle.enumeration.specs.Waiting.{ReachedBoth, earlier}
use Rattle.enumeration.specs.Changes.{drained}
use Rattle.resolver.specs.Tables.{tables_of, width, station_at, part}
use Rattle.resolver.proofs.Slices.{parts_elsewhere}
use Rattle.resolver.proofs.Heaps.{popped_at}
use Rattle.resolver.proofs.Drawing.{settles, fits, draws}
use Rattle.resolver.proofs.tables.Core.draw.Goals as goal

-- the station that is written
drained_read : (s S : Station) (n : ℕ) → s ≡ S → n ≡ S.waiting - 1 → ◌≡◌ {A = Station} (record { pose = s.pose; waiting = n; found = s.found; last = s.last; pending = false }) (drained S)
drained_read s S n e h = ap (λ (t : Station). record { pose = t.pose; waiting = n; found = t.found; last = t.last; pending = false }) e ∙ ap (λ (z : ℕ). record { pose = S.pose; waiting = z; found = S.found; last = S.last; pending = false }) h

pub returns-in-Some-clause-effect : goal.returns-in-Some-clause-effect
returns-in-Some-clause-effect g c =
    let rules = g.C.Cost.rules in
    let k = c.args.self.now in
    let m = c.append.new.self in
    let r = c.args.r in
    let v = c.args.v.0 in
    let xs = k.candidates.now in
    let ys = c.draw_part.new.table in
    let x = c.in-Some.x in
    let e = c.in-Some.ensures in
    let s = c.station-s.result in
    λ few all more.
    let S = station_at k r v in
    let i = c.station_place-i.ensures.is few in
    let same = c.station-s.ensures few in
    let there : (l : List (Candidate g.row.C.Denot)) → part c.station_place-i.result l ≡ part (16 * r + v) l = λ l. ap (λ j. part j l) i in
    let held : c.min-n.result ≡ S.waiting = omega (arith, c.min-n.ensures, ap (λ t. t.waiting) same, all) in
    let less : c.saturating_sub.result ≡ S.waiting - 1 = omega (arith, c.saturating_sub.ensures, held) in
    let is = drained_read s S c.saturating_sub.result same less in
    let sl : ℕ → ℕ → List (Candidate g.row.C.Denot) = λ q u. part (16 * q + u) ys in (
      Some x,
      draws rules (width k) (tables_of rules k) (tables_of rules m) r v few sl _ is x
          (λ q u h ne. parts_elsewhere xs ys q u r v c.station_place-i.result i h few ne e.below e.above)
          (λ z. popped_at (ReachedBoth rules) (earlier rules) x (there xs) held (there ys ∙ sym z) (ap (λ n. n - 1) held) e.inside)
          (c.append.ensures.effect few (fits rules (width k) (tables_of rules k) (tables_of rules m) r v few sl _ is more)),
    )

pub returns-in-None-clause-effect : goal.returns-in-None-clause-effect
returns-in-None-clause-effect g c =
    let rules = g.C.Cost.rules in
    let k = c.args.self.now in
    let m = c.put_station.new.self in
    let r = c.args.r in
    let v = c.args.v.0 in
    let ys = c.draw_part.new.table in
    let e = c.in-None.ensures.inside in
    let s = c.station-s.result in
    λ few all more.
    let S = station_at k r v in
    let same = c.station-s.ensures few in
    let held : c.min-n.result ≡ S.waiting = omega (arith, c.min-n.ensures, ap (λ t. t.waiting) same, all) in
    let less : c.saturating_sub.result ≡ S.waiting - 1 = omega (arith, c.saturating_sub.ensures, held) in
    let sl : ℕ → ℕ → List (Candidate g.row.C.Denot) = λ q u. part (16 * q + u) ys in (
      None,
      settles rules (width k) (tables_of rules k) (tables_of rules m) r v few sl _ (drained_read s S c.saturating_sub.result same less)
          (λ q u. ap (part (16 * q + u)) e.1)
          (sym held ∙ e.0)
          (c.put_station.ensures.effect few),
    )
