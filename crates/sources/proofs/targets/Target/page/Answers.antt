use Rattle.std.proofs.Common.{◌≡◌, cond, fold, sym, ap, ◌∙◌, subst, arith, rules}
use Rattle.sources.specs.Reach.{reaching_pose, pose, rows, reaching}
use Rattle.sources.specs.Pages.{blank, with_pose, page_of, Shows}
use Rattle.sources.proofs.Scans.{row_none, rows_none, row_more, rows_more, count_more}
use Rattle.sources.proofs.Shown.{page_from, page_shows}
use Rattle.sources.proofs.targets.Target.page.Goals as goal
use Rattle.sources.proofs.targets.Target.page.Goals.{then-reaches, else-reaches}

pub loop-s-init : goal.loop-s-init
loop-s-init c = record {
  found = c.new-found.ensures ∙ sym (ap (page_of c.args.from) (rows_none c.args.self.arm c.args.self.at));
  few = omega (arith, ap (λ g. g.count) c.new-found.ensures);
}

pub loop-e-init : goal.loop-e-init
loop-e-init c = record {
  found = sym (ap (fold with_pose c.loop-s.found) (row_none c.args.self.arm c.args.self.at c.loop-s.s));
  few = omega arith;
}

pub loop-e-preserved : goal.loop-e-preserved
loop-e-preserved c =
    let a = c.args.self.arm in
    let at = c.args.self.at in
    let h = c.loop-e.found in
    let k = c.if-reaches.found in
    let p = pose c.loop-s.s c.loop-e.e in
    let b = reaching_pose a at c.loop-s.s c.loop-e.e in
    let put : k ≡ cond b (with_pose h p) h = elim c.if-reaches.branch [
      | then-reaches w ↦ let one : w.put.new.self ≡ with_pose h p = search rules in w.found-is ∙ one ∙ ap (λ t. cond t (with_pose h p) h) (sym w.if-reaches.true ∙ c.reaches.ensures)
      | else-reaches w ↦ w.found-is ∙ ap (λ t. cond t (with_pose h p) h) (sym w.if-reaches.false ∙ c.reaches.ensures)
    ] in
    record {
      found = row_more a at c.loop-s.found h k c.loop-s.s c.loop-e.e put c.loop-e.invariant.found;
      few = omega (arith, count_more h k p b put);
    }

pub loop-s-preserved : goal.loop-s-preserved
loop-s-preserved c =
    let all : c.loop-e.e ≡ 64 = omega arith in
    record {
      found = rows_more c.args.self.arm c.args.self.at (blank c.args.from) c.loop-s.found c.loop-e.found c.loop-s.s c.loop-s.invariant.found (rw (sym all) c.loop-e.invariant.found);
      few = omega arith;
    }

pub returns-clause-shows : goal.returns-clause-shows
returns-clause-shows c =
    let all : c.loop-s.s ≡ 64 = omega arith in
    let e : c.loop-s.found ≡ page_of c.args.from (reaching c.args.self.arm c.args.self.at) = rw (sym all) c.loop-s.invariant.found in
    subst (λ g. Shows g (reaching c.args.self.arm c.args.self.at)) (sym e) (page_shows c.args.from (reaching c.args.self.arm c.args.self.at))

pub returns-clause-from : goal.returns-clause-from
returns-clause-from c = ap (λ g. g.from) c.loop-s.invariant.found ∙ page_from c.args.from (rows c.args.self.arm c.args.self.at c.loop-s.s)
