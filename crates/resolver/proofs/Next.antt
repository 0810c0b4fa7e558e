-- The next track of the list is taken. Assumes nothing.
use Rattle.std.proofs.Common.{◌≡◌, ℕ, suc, ◌+◌, ◌<◌, ◌≤◌, true, cond, List, [], ◌++◌, length, get_or, drop, set, Some, None, Option, sym, ap, ◌∙◌, subst, ⊎_elim, arith, get_or-set_other, get_or-set_same}
use Rattle.std.proofs.lemmas.Bool.{false≢true}
use Rattle.std.proofs.lemmas.Bool.Decides.{eqb_tells}
use Rattle.ladder.specs.declared.poses.PoseNumber.{PoseNumber}
use Rattle.ladder.specs.declared.poses.Step.{Step}
use Rattle.ladder.specs.Rules.{Rules, Lawful}
use Rattle.ladder.specs.Tracks.{steps, cost}
use Rattle.ladder.specs.Listed.{tracks_of}
use Rattle.ladder.specs.Ranking.{GivenOut, bumped}
use Rattle.enumeration.specs.Tables.{poses, ladder}
use Rattle.enumeration.specs.Sound.{ends, Lies, RungsSound}
use Rattle.enumeration.specs.Taking.{Heads, Offers, BestBelow, last_cost}
use Rattle.enumeration.proofs.Heads.{counted_heads}
use Rattle.enumeration.proofs.Taking.{next_of_list, end_of_list, cost_is}
use Rattle.resolver.specs.declared.tables.Core.{Core}
use Rattle.resolver.specs.Tables.{tables_of, width}
use Rattle.resolver.specs.Sound.{Sound, HeadsSound, AtRest, WritesSteps, taken_at, plainly, due, SetupKept, Counted, ladder_of, list_of}
use Rattle.resolver.proofs.Bounded.{bounded}

-- a sound resolver with nothing due, whose last rung is r
module _ {C P : Type 0} (c : Rules C P) (laws : Lawful c) (k : Core C) (s : Sound c k) (closed : k.closed ≡ true) (settled : k.recent ≡ None) (r : ℕ) (e : k.rungs ≡ suc r) where
  free : due k.recent ≡ 0
  free = ap due settled

  hr : r < k.rungs
  hr = omega (arith, e)

  heads : Heads c k.limits (tables_of c k) r (taken_at k) k.taken None
  heads = subst (λ (o : Option PoseNumber). Heads c k.limits (tables_of c k) r (taken_at k) k.taken (plainly o)) settled (subst (HeadsSound c k) e s.heads)

  fits : (q : ℕ) → q < k.rungs → (tables_of c k).used q ≤ width k
  fits q h = omega (arith, s.blocks q h, (s.rungs q h).few, k.drawn)

  pub at_rest : AtRest c k r k.taken
  at_rest = record { short = omega (arith, e, k.held, k.limited); rung = s.rungs r hr; fits = fits r hr; heads = heads }

  -- no pose offers a track
  pub at_end : BestBelow c k.limits (tables_of c k) r (taken_at k) ((tables_of c k).size r) None → length (list_of c k) ≤ k.taken
  at_end h = subst (λ n. length (tracks_of c k.limits (ladder (tables_of c k) n)) ≤ k.taken) (sym e) (end_of_list c laws k.limits (bounded k) (tables_of c k) r at_rest.short (s.rungs r hr) (taken_at k) k.taken heads h)

  -- pose v offers the next track
  module _ (v : PoseNumber) (best : BestBelow c k.limits (tables_of c k) r (taken_at k) ((tables_of c k).size r) (Some v.0)) where
    o : Offers c k.limits (tables_of c k) r (taken_at k) v.0
    o = best.1

    pub low_number : v.0 < 16
    low_number = omega (arith, o.numbered, (s.rungs r hr).few)

    next : (k.taken < length (tracks_of c k.limits (ladder (tables_of c k) (suc r)))) × (get_or (tracks_of c k.limits (ladder (tables_of c k) (suc r))) k.taken [] ≡ get_or (ends c k.limits (tables_of c k) r v.0) (taken_at k v.0) []) × GivenOut c k.limits (poses (tables_of c k) r) (ladder (tables_of c k) r) (suc k.taken) (bumped (taken_at k) v.0)
    next = next_of_list c laws k.limits (bounded k) (tables_of c k) r at_rest.short (s.rungs r hr) (taken_at k) k.taken heads v.0 best

    pub exists : k.taken < length (list_of c k)
    exists = subst (λ n. k.taken < length (tracks_of c k.limits (ladder (tables_of c k) n))) (sym e) next.0

    found_is : ((tables_of c k).station r v.0).found ≡ suc (taken_at k v.0)
    found_is = omega (arith, o.some, (heads.each v.0 o.numbered).high)

    lies : Lies (tables_of c k) r v.0 (taken_at k v.0) ((tables_of c k).station r v.0).last.0
    lies = ((s.rungs r hr).poses v.0 o.numbered).last (taken_at k v.0) (sym found_is)

    pub last_low : ((tables_of c k).station r v.0).last.0 < width k
    last_low = omega (arith, lies.in_use, fits r hr)

    pub small : taken_at k v.0 < 65535
    small = omega (arith, found_is, s.ranks r v.0 hr o.numbered, free, k.drawn, k.rationed)

    pub costs : last_cost c k.limits (tables_of c k) r (taken_at k) v.0 ≡ cost c (ladder_of c k) (get_or (list_of c k) k.taken [])
    costs =
        cost_is c laws k.limits (bounded k) (tables_of c k) r at_rest.short (s.rungs r hr) (taken_at k) k.taken heads v.0 o
        ∙ ap (cost c (ladder (tables_of c k) (suc r))) (sym next.1)
        ∙ ap (λ n. cost c (ladder (tables_of c k) n) (get_or (tracks_of c k.limits (ladder (tables_of c k) n)) k.taken [])) (sym e)

    -- what is written is the track's steps
    pub output : (before after : List Step) → WritesSteps c k r ((tables_of c k).station r v.0).last.0 before after → after ≡ steps (ladder_of c k) (get_or (list_of c k) k.taken []) ++ drop k.rungs before
    output before after w =
        let i = ((tables_of c k).station r v.0).last.0 in
        w k.rungs hr s.rungs fits lies.in_use
        ∙ ap (λ p. steps (ladder (tables_of c k) (suc r)) (get_or (ends c k.limits (tables_of c k) r p) ((tables_of c k).track r i).rank.0 []) ++ drop (suc r) before) lies.of_pose
        ∙ ap (λ n. steps (ladder (tables_of c k) (suc r)) (get_or (ends c k.limits (tables_of c k) r v.0) n []) ++ drop (suc r) before) lies.of_rank
        ∙ ap (λ t. steps (ladder (tables_of c k) (suc r)) t ++ drop (suc r) before) (sym next.1)
        ∙ ap (λ n. steps (ladder (tables_of c k) n) (get_or (tracks_of c k.limits (ladder (tables_of c k) n)) k.taken []) ++ drop n before) (sym e)

    counts_are : (m : Core C) → Counted c k m v → (u : ℕ) → u < (tables_of c k).size r → taken_at m u ≡ bumped (taken_at k) v.0 u
    counts_are m h u nu = ap (λ xs. get_or xs u 0) h.counts ∙ ⊎_elim
        (λ q. ap (λ x. get_or (set k.counts v.0 (taken_at k v.0 + 1)) x 0) q.1 ∙ get_or-set_same k.counts v.0 (taken_at k v.0 + 1) 0 (omega (arith, k.wide, low_number)) ∙ sym (ap (λ x. cond x (suc (taken_at k u)) (taken_at k u)) q.0 ∙ ap (λ x. suc (taken_at k x)) q.1 ∙ omega arith))
        (λ q. get_or-set_other k.counts v.0 u (taken_at k v.0 + 1) 0 q.1 ∙ sym (ap (λ x. cond x (suc (taken_at k u)) (taken_at k u)) q.0))
        (eqb_tells u v.0)

    -- counting it as taken keeps the resolver sound
    pub counted_sound : (m : Core C) → SetupKept k m → Counted c k m v → Sound c m
    counted_sound m kept h =
        let inside : (q : ℕ) → q < m.rungs → q < k.rungs = λ q x. omega (arith, x, kept.rungs) in
        let one : due m.recent ≡ 1 = ap due h.recent in
        let used : (q : ℕ) → (tables_of c m).used q ≡ (tables_of c k).used q = λ q. ap (λ t. t.used q) h.tables in
        let sizes : (q : ℕ) → (tables_of c m).size q ≡ (tables_of c k).size q = λ q. ap (λ t. t.size q) h.tables in
        let more : m.taken ≡ suc k.taken = omega (arith, h.taken) in
        record {
          rungs = coe 1 0 (i. RungsSound c (kept.limits i) (h.tables i) (kept.rungs i)) s.rungs;
          blocks = λ q x. omega (arith, s.blocks q (inside q x), free, one, used q, sizes q, h.taken);
          ranks = λ q u x y. omega (arith, s.ranks q u (inside q x) (omega (arith, y, sizes q)), free, one, ap (λ t. (t.station q u).found) h.tables, h.taken);
          untaken = λ x. absurd (false≢true (sym x ∙ kept.closed ∙ closed));
          heads =
              subst (HeadsSound c m) (sym (kept.rungs ∙ e))
              (coe 1 0 (i. Heads c (kept.limits i) (h.tables i) r (taken_at m) (more i) (plainly (h.recent i))) (counted_heads c k.limits (tables_of c k) r (taken_at k) (taken_at m) k.taken v.0 heads best next.2 (counts_are m h)));
        }
