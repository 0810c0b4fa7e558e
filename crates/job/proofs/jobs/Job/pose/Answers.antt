use Rattle.std.proofs.Common.{◌/◌, ◌<◌, get_or, [], length, Some, sym, ap, ◌∙◌, w16, to_z, of_z, arith}
use Rattle.std.specs.List.{slice_get}
use Rattle.std.proofs.lemmas.Int.{to_z-of_z}
use Rattle.job.specs.Bytes.{signed_word_at}
use Rattle.job.proofs.Tabled.{pose_is_at, pose_past, chunk_pose}
use Rattle.job.proofs.jobs.Job.pose.Goals as goal

pub returns-in_err-a : goal.returns-in_err-a
returns-in_err-a c =
    let past = pose_past c.list.result.now c.args.j (omega (arith, c.in_err-a.ensures.lookup.3, c.as_chunks.ensures.front_len)) in
    c.from_residual.ensures ∙ sym (ap (λ l. slice_get l c.args.j) (sym c.list.ensures) ∙ past)

pub returns : goal.returns
returns c =
    let l = c.list.result.now in
    let j = c.args.j in
    let n = length l / 4 in
    let in_list : j < n = omega (arith, c.in_ok-a.ensures.lookup.3.0, c.as_chunks.ensures.front_len) in
    let t = c.in_ok-a.field-0.now in
    let a = to_z-of_z w16 c.from_le_bytes.result (record { sfits = c.from_le_bytes.type_inv }) ∙ c.from_le_bytes.ensures in
    let b = to_z-of_z w16 c.from_le_bytes-2.result (record { sfits = c.from_le_bytes-2.type_inv }) ∙ c.from_le_bytes-2.ensures in
    let e = chunk_pose l t n j in_list (c.in_ok-a.ensures.lookup.3.1 [] ∙ ap (λ t. get_or t j []) c.as_chunks.ensures.front) in
    ap (λ z. Some (record { shoulder = z; elbow = to_z w16 (of_z w16 c.from_le_bytes-2.result) })) a
    ∙ ap (λ z. Some (record { shoulder = signed_word_at t 0; elbow = z })) b
    ∙ ap Some e ∙ sym (ap (λ m. slice_get m j) (sym c.list.ensures) ∙ pose_is_at l j in_list)
