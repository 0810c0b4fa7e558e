use Rattle.std.proofs.Common.{◌≡◌, suc, ◌-◌, ◌<◌, [], ◌∷◌, ◌++◌, map, length, Ok, sym, ap, ◌∙◌, subst, arith}
use Rattle.std.specs.Option.{option_map}
use Rattle.std.proofs.lemmas.List.{map_push, length-append}
use Rattle.std.proofs.lemmas.Result.{err_from_is_err_and}
use Rattle.std.proofs.lemmas.Bool.{ltb-true}
use Rattle.job.specs.Reading.{got, entry}
use Rattle.job.specs.Resolved.{placed}
use Rattle.job.specs.Rows.{row_v, in_use}
use Rattle.job.specs.Views.{record_v, taken}
use Rattle.job.proofs.Many.{prepend, rest, opt_some, opt_fault, turn, stopped}
use Rattle.job.proofs.table.read_rows.Goals as goal

pub returns-in_err-fields : goal.returns-in_err-fields
returns-in_err-fields c =
    let p = err_from_is_err_and c.from_residual.result c.from_residual.ensures.1 in
    let l = c.loop-fields in
    let at = l.records.cursor.at in
    let r = c.in_err-fields.ensures.reads in
    let same = ap (λ f. f.now) l.invariant.1 in
    let o = opt_fault _ entry l.records.cursor.file.now at _ _ r.said in
    let more : 0 < l.records.left = ltb-true 0 l.records.left o.0 in
    let n : l.records.left ≡ suc (l.records.left - 1) = omega arith in
    let e = stopped _ l.before l.records.left (l.records.left - 1) c.args.records.now.cursor.file.now at _ _ _ n (ap (λ t. entry t at) (sym same) ∙ o.1) l.invariant.0 in
    rw (p.1, p.2) (record { said = sym e; file = r.file ∙ l.invariant.1 })

pub loop-fields-preserved : goal.loop-fields-preserved
loop-fields-preserved c =
    let l = c.loop-fields in
    let s = c.args.records.now.cursor.file.now in
    let z = c.next_record.new.self in
    let at = l.records.cursor.at in
    let q = z.cursor.at in
    let e = record_v c.in-Some.fields in
    let row = c.row_of-row.result in
    let r = c.in_ok-fields.ensures.reads in
    let o = opt_some _ entry l.records.cursor.file.now at _ e q r.said (ap (option_map record_v) c.in-Some.is) in
    let read = subst (λ t. entry t at ≡ got e q) (ap (λ f. f.now) l.invariant.1) o.1 in
    let acc = map row_v (in_use l.table) in
    let one : taken (Ok c.in_ok-fields.field-0) ≡ 1 = ap (λ t. taken (Ok t)) c.in-Some.is in
    let n : l.records.left ≡ suc z.left = omega (arith, c.in_ok-fields.ensures.left, one) in
    let means = c.row_of-row.ensures in
    let more : map row_v (in_use c.push.new.self) ≡ acc ++ row_v row ∷ [] = ap (map row_v) c.push.ensures ∙ map_push row_v (in_use l.table) row in
    let t = turn _ l.before l.records.left z.left s at acc e q n read l.invariant.0 in (
      t ∙ ap (λ w. prepend (acc ++ w ∷ []) (rest (placed l.before e) z.left s q)) (sym means)
          ∙ ap (λ a. prepend a (rest (placed l.before e) z.left s q)) (sym more)
          ∙ ap (λ b. prepend (map row_v (in_use c.push.new.self)) (rest b z.left s q)) (sym (ap (λ w. w.position) means)),
      r.file ∙ l.invariant.1,
      omega (arith, n, l.invariant.2, ap length c.push.ensures, length-append (in_use l.table) (row ∷ [])),
    )
