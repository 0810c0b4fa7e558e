use Rattle.std.proofs.Common.{◌≡◌, [], ◌∷◌, refl, sym, ap, ◌∙◌, rules}
use Rattle.std.specs.List.{fold}
use Rattle.std.specs.Iterator.{YieldsFirstBy}
use Rattle.std.proofs.lemmas.Fn.{fold_over}
use Rattle.std.proofs.lemmas.Iterator.Consumers.{YieldsList-from_first}
use Rattle.std.proofs.lemmas.List.Sums.{fold-append}
use Rattle.job.specs.Rows.{row_v, entered}
use Rattle.job.specs.Views.{unhanded, field_v}
use Rattle.job.proofs.Entering.{bare, all_entered}
use Rattle.job.proofs.table.row_of.Goals as goal

pub returns : goal.returns
returns c =
    let f = c.args.fields in
    let p = c.args.before in
    fold_over (YieldsFirstBy field_v unhanded) field_v _ (λ ys r. row_v r ≡ fold entered (bare p) ys) _
    (λ ys a x b k i h.
    let e : row_v b ≡ entered (row_v a) (field_v x) = search rules in
    (e ∙ ap (λ v. entered v (field_v x)) i ∙ sym (fold-append entered (bare p) ys (field_v x ∷ [])), search rules))
    f (unhanded f) c.bare.result c.fold.result (YieldsList-from_first field_v unhanded (unhanded f) refl).runs (search rules) c.fold.ensures.ran
    ∙ all_entered p f
