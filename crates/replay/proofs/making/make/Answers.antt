use Rattle.std.proofs.Common.{◌≡◌, ◌≤◌, map, length, get_or, ap, ◌∙◌, arith}
use Rattle.std.proofs.Math.Seq.{map-set_same}
use Rattle.std.proofs.lemmas.List.{length-take-le}
use Rattle.replay.specs.Calls.{places}
use Rattle.replay.proofs.OneCall.{nth_map, nth_past, track_told, made_add, made_close, made_next, made_seek, unmade_add, unmade_seek}
use Rattle.replay.proofs.making.make.Goals as goal
use Rattle.replay.proofs.making.make.Goals.{in_default-via-in-Add+else-source-sources, in_default-via-in-Seek+else-filter-filters}

pub returns-in-Add-clause-sources : goal.returns-in-Add-clause-sources
returns-in-Add-clause-sources g c = map-set_same g.S.Source.meaning c.args.sources.now c.in-Add.source c.add.new.source c.index-sources-source.result c.add.ensures.same

pub returns-in-Add-clause-made : goal.returns-in-Add-clause-made
returns-in-Add-clause-made g c =
    let mean = g.S.Source.meaning in
    let fs = map g.F.Filter.passes c.args.filters.now in
    let xs = c.args.sources.now in
    let i = c.in-Add.source in
    let d = c.index-sources-source.result in
    rw c.in-Add.is (made_add g.C.Cost.rules (map mean xs) fs c.args.resolver.now.core c.add.new.self.core _ _ i _ (mean (get_or xs i d)) c.add.result (nth_map mean xs i d c.if-source-sources.true) c.counted.ensures c.add.ensures.outcome)

pub returns-in-Close-clause-made : goal.returns-in-Close-clause-made
returns-in-Close-clause-made g c =
    let ms = map g.S.Source.meaning c.args.sources.now in
    let fs = map g.F.Filter.passes c.args.filters.now in
    rw c.in-Close.is (made_close g.C.Cost.rules ms fs c.args.resolver.now.core c.close.new.self.core _ _ c.close.result c.counted-in-Close.ensures c.close.ensures.outcome)

pub returns-in-Next-clause-made : goal.returns-in-Next-clause-made
returns-in-Next-clause-made g c =
    let ms = map g.S.Source.meaning c.args.sources.now in
    let fs = map g.F.Filter.passes c.args.filters.now in
    let n = c.in-Next.places in
    let out = c.args.outputs.now in
    let room : n ≤ length out = omega (arith, ap places c.in-Next.is) in
    let long : length c.next.new.out ≡ n = c.next.auto.out ∙ length-take-le n out room in
    rw c.in-Next.is (made_next g.C.Cost.rules ms fs c.args.resolver.now.core c.next.new.self.core out _ n room c.next.new.out long c.next.result (track_told _ _ c.map.ensures.cases) c.next.ensures.outcome)

pub returns-in-Seek-clause-filters : goal.returns-in-Seek-clause-filters
returns-in-Seek-clause-filters g c = map-set_same g.F.Filter.passes c.args.filters.now c.in-Seek.filter c.seek-sought.new.filter c.index-filters-filter.result c.seek-sought.ensures.same

pub returns-in-Seek-clause-made : goal.returns-in-Seek-clause-made
returns-in-Seek-clause-made g c =
    let passes = g.F.Filter.passes in
    let ms = map g.S.Source.meaning c.args.sources.now in
    let xs = c.args.filters.now in
    let j = c.in-Seek.filter in
    let d = c.index-filters-filter.result in
    let n = c.in-Seek.places in
    let out = c.args.outputs.now in
    let room : n ≤ length out = omega (arith, ap places c.in-Seek.is) in
    let long : length c.seek-sought.new.out ≡ n = c.seek-sought.auto.out ∙ length-take-le n out room in
    rw c.in-Seek.is (made_seek g.C.Cost.rules ms (map passes xs) c.args.resolver.now.core c.seek-sought.new.self.core out _ n room c.seek-sought.new.out long c.seek-sought.result (track_told _ _ c.map-in-Seek.ensures.cases) j (passes (get_or xs j d)) (nth_map passes xs j d c.if-filter-filters.true) c.seek-sought.ensures.outcome)

pub returns-in_default-clause-made : goal.returns-in_default-clause-made
returns-in_default-clause-made g c =
    let ms = map g.S.Source.meaning c.args.sources.now in
    let fs = map g.F.Filter.passes c.args.filters.now in
    let k = c.args.resolver.now.core in
    let out = c.args.outputs.now in
    elim c.in_default.branch [
      | in_default-via-in-Add+else-source-sources w ↦ rw w.in-Add.is (unmade_add g.C.Cost.rules ms fs k k out w.in-Add.source w.in-Add.waypoint (nth_past g.S.Source.meaning c.args.sources.now w.in-Add.source w.if-source-sources.false))
      | in_default-via-in-Seek+else-filter-filters w ↦ rw w.in-Seek.is (unmade_seek g.C.Cost.rules ms fs k k out w.in-Seek.filter w.in-Seek.places (nth_past g.F.Filter.passes c.args.filters.now w.in-Seek.filter w.if-filter-filters.false))
    ]
