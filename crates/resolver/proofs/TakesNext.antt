-- Looking for what is due, choosing the best pose, writing its track and counting it takes the next track of the list. Assumes nothing.
use Rattle.std.proofs.Common.{◌≡◌, ℕ, suc, ◌+◌, ◌<◌, ◌≤◌, true, List, [], ◌++◌, length, get_or, drop, Some, None, sym, refl, ap, ◌∙◌, subst, arith}
use Rattle.ladder.specs.declared.poses.PoseNumber.{PoseNumber}
use Rattle.ladder.specs.declared.poses.Step.{Step}
use Rattle.ladder.specs.Rules.{Rules, Lawful}
use Rattle.ladder.specs.Tracks.{steps, cost}
use Rattle.ladder.specs.Listed.{tracks_of}
use Rattle.enumeration.specs.Tables.{ladder}
use Rattle.enumeration.specs.Taking.{last_cost}
use Rattle.resolver.specs.declared.tables.Core.{Core}
use Rattle.resolver.specs.declared.answers.Taken.{Taken}
use Rattle.resolver.specs.Kept.{Same, settled}
use Rattle.resolver.specs.Tables.{tables_of, width}
use Rattle.resolver.specs.Sound.{Sound, IsBest, WritesSteps, Renews, Takes, SetupKept, Counted, taken_at, ladder_of, list_of}
use Rattle.resolver.proofs.Next.{at_rest, at_end, low_number, exists, last_low, small, costs, output, counted_sound}

-- a ladder without rungs has no track
pub takes_nothing : {C P : Type 0} (c : Rules C P) (k : Core C) (out : List Step) → k.rungs ≡ 0 → Takes c k k out out None
unfolding ladder
takes_nothing c k out e s closed = (s, refl, record { all = subst (λ n. length (tracks_of c k.limits (ladder (tables_of c k) n)) ≤ k.taken) (sym e) (omega arith); output = refl; counts = refl })

-- k before and m after what was due is looked for
module _ {C P : Type 0} (c : Rules C P) (laws : Lawful c) (k m : Core C) (same : Same (settled k) m) (lt : k.taken < k.ration) (r : ℕ) (e : k.rungs ≡ suc r) (renews : Renews c k m r) where
  module _ (s : Sound c k) (closed : k.closed ≡ true) where
    now_sound : Sound c m
    now_sound = (renews s closed e lt).0

    now_closed : m.closed ≡ true
    now_closed = same.closed ∙ closed

    now_rungs : m.rungs ≡ suc r
    now_rungs = same.rungs ∙ e

    ladder_same : ladder_of c m ≡ ladder_of c k
    ladder_same = ap (ladder (tables_of c m)) same.rungs ∙ (renews s closed e lt).1.rungs

    list_same : list_of c m ≡ list_of c k
    list_same = ap (λ l. tracks_of c l (ladder_of c m)) same.limits ∙ ap (tracks_of c k.limits) ladder_same

  pub takes_none : (out : List Step) → IsBest c m r None → Takes c k m out out None
  takes_none out best s closed =
      let end = at_end c laws m (now_sound s closed) (now_closed s closed) same.recent r (now_rungs s closed) (best m.taken (at_rest c laws m (now_sound s closed) (now_closed s closed) same.recent r (now_rungs s closed))) in
      (now_sound s closed, ladder_same s closed, record { all = omega (arith, end, ap length (list_same s closed), same.taken); output = refl; counts = same.taken })

  -- pose v is chosen: its last track is written, and counted
  pub takes_one : (v : PoseNumber) (n : Core C) (before after : List Step) (x : Taken C) → IsBest c m r (Some v) → (v.0 < 16 → WritesSteps c m r ((tables_of c m).station r v.0).last.0 before after) → (v.0 < 16 → ((tables_of c m).station r v.0).last.0 < width m → x.cost ≡ last_cost c m.limits (tables_of c m) r (taken_at m) v.0) → x.number ≡ m.taken + 1 → (v.0 < 16 → taken_at m v.0 < 65535 → Counted c m n v) → SetupKept m n → Takes c k n before after (Some x)
  takes_one v n before after x best writes is number counts kept s closed =
      let s' = now_sound s closed in
      let c' = now_closed s closed in
      let e' = now_rungs s closed in
      let chosen = best m.taken (at_rest c laws m s' c' same.recent r e') in
      let low = low_number c laws m s' c' same.recent r e' v chosen in
      let lad = ladder_same s closed in
      let lst = list_same s closed in
      let tk = same.taken in
      let one = counts low (small c laws m s' c' same.recent r e' v chosen) in (
        counted_sound c laws m s' c' same.recent r e' v chosen n kept one,
        (λ i. ladder (one.tables i) (kept.rungs i)) ∙ lad,
        record {
          exists = omega (arith, exists c laws m s' c' same.recent r e' v chosen, ap length lst, tk);
          number = number ∙ ap (λ i. i + 1) tk;
          costs = is low (last_low c laws m s' c' same.recent r e' v chosen) ∙ costs c laws m s' c' same.recent r e' v chosen ∙ ap (λ rs. cost c rs (get_or (list_of c m) m.taken [])) lad ∙ ap (λ ts. cost c (ladder_of c k) (get_or ts m.taken [])) lst ∙ ap (λ i. cost c (ladder_of c k) (get_or (list_of c k) i [])) tk;
          output = output c laws m s' c' same.recent r e' v chosen before after (writes low) ∙ ap (λ rs. steps rs (get_or (list_of c m) m.taken []) ++ drop m.rungs before) lad ∙ ap (λ ts. steps (ladder_of c k) (get_or ts m.taken []) ++ drop m.rungs before) lst ∙ ap (λ i. steps (ladder_of c k) (get_or (list_of c k) i []) ++ drop m.rungs before) tk ∙ ap (λ i. steps (ladder_of c k) (get_or (list_of c k) k.taken []) ++ drop i before) same.rungs;
          counts = one.taken ∙ ap (λ i. i + 1) tk;
        },
      )
