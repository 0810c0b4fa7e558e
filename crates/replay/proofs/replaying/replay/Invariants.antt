use Rattle.std.proofs.Common.{◌≡◌, map}
use Rattle.replay.proofs.Runs.{SoFar}
use Rattle.replay.proofs.replaying.replay.Given as goal

-- k calls are made and recorded, and the sources and the filters mean what they did
abbrev pub invariant-loop-k : goal.invariant-loop-k
invariant-loop-k g l =
    let ms = map g.S.Source.meaning l.initial.sources in
    let fs = map g.F.Filter.passes l.initial.filters in record {
      so_far : SoFar g.C.Cost.rules ms fs l.calls l.initial.resolver.core l.initial.answers l.initial.outputs l.k l.used l.resolver.core l.answers l.outputs;
      sources : map g.S.Source.meaning l.sources ≡ ms;
      filters : map g.F.Filter.passes l.filters ≡ fs;
    }
