-- Looking for the track after the one taken last keeps a resolver sound. Assumes nothing.
use Rattle.std.proofs.Common.{◌≡◌, ℕ, suc, ◌<◌, List, [], ◌∷◌, get_or, Some, None, Option, sym, ap, ◌∙◌, subst, arith}
use Rattle.std.proofs.lemmas.Bool.{false≢true}
use Rattle.ladder.specs.declared.poses.PoseNumber.{PoseNumber}
use Rattle.ladder.specs.Rules.{Rules}
use Rattle.enumeration.specs.Tables.{poses, ladder}
use Rattle.enumeration.specs.Sound.{RungsSound}
use Rattle.enumeration.specs.Filling.{SameLadder}
use Rattle.enumeration.specs.Taking.{Heads}
use Rattle.enumeration.proofs.Heads.{renewed_heads}
use Rattle.resolver.specs.declared.tables.Core.{Core}
use Rattle.resolver.specs.Kept.{Same, settled}
use Rattle.resolver.specs.Tables.{tables_of, width}
use Rattle.resolver.specs.Finding.{FoundNext, RoomyTables, FindsNext}
use Rattle.resolver.specs.Sound.{Sound, HeadsSound, taken_at, plainly, due, Renews}

-- the tail of a list
abbrev rest : {X : Type 0} → List X → List X
rest [] = []
rest (x ∷ xs) = xs

abbrev first : {X : Type 0} → X → List X → X
first d [] = d
first d (x ∷ xs) = x

module _ {C P : Type 0} (c : Rules C P) (k m : Core C) (same : Same (settled k) m) where
  -- what is due leaves a place free in every block
  roomy : (v : PoseNumber) → k.recent ≡ Some v → Sound c k → k.taken < k.ration → RoomyTables (width k) k.rungs (tables_of c k)
  roomy v e s lt =
      let one : due k.recent ≡ 1 = ap due e in
      record {
        blocks = λ q h. omega (arith, s.blocks q h, one, (s.rungs q h).few, lt);
        ranks = λ q u h i. omega (arith, s.ranks q u h i, one, lt, k.rationed);
      }

  -- the last rung and those before it
  same_rung : (r : ℕ) → k.rungs ≡ suc r → SameLadder (tables_of c k) (tables_of c m) k.rungs → poses (tables_of c m) r ≡ poses (tables_of c k) r
  unfolding ladder
  same_rung r e h = ap (first []) (subst (λ n. ladder (tables_of c m) n ≡ ladder (tables_of c k) n) e h.rungs)

  same_before : (r : ℕ) → k.rungs ≡ suc r → SameLadder (tables_of c k) (tables_of c m) k.rungs → ladder (tables_of c m) r ≡ ladder (tables_of c k) r
  unfolding ladder
  same_before r e h = ap rest (subst (λ n. ladder (tables_of c m) n ≡ ladder (tables_of c k) n) e h.rungs)

  heads_on : (r : ℕ) (v : PoseNumber) → k.rungs ≡ suc r → k.recent ≡ Some v → Sound c k → FoundNext c k.limits k.rungs (tables_of c k) (tables_of c m) r v.0 → Heads c k.limits (tables_of c m) r (taken_at k) k.taken None
  heads_on r v e q s f =
      let h : Heads c k.limits (tables_of c k) r (taken_at k) k.taken (plainly k.recent) = subst (HeadsSound c k) e s.heads in
      let h' : Heads c k.limits (tables_of c k) r (taken_at k) k.taken (Some v.0) = subst (λ (o : Option PoseNumber). Heads c k.limits (tables_of c k) r (taken_at k) k.taken (plainly o)) q h in
      renewed_heads c k.limits (tables_of c k) (tables_of c m) r (same_rung r e f.same) (same_before r e f.same) (f.same.sizes r (omega (arith, e))) (s.rungs r (omega (arith, e))).few (taken_at k) k.taken v.0 h' f.looked

  pub renewed : (r : ℕ) (v : PoseNumber) → k.recent ≡ Some v → FindsNext c (settled k) m r v.0 → Renews c k m r
  renewed r v q finds s closed e lt =
      let one : due k.recent ≡ 1 = ap due q in
      let hr : r < k.rungs = omega (arith, e) in
      let inside : v.0 < (tables_of c k).size r = (subst (λ (o : Option PoseNumber). Heads c k.limits (tables_of c k) r (taken_at k) k.taken (plainly o)) q (subst (HeadsSound c k) e s.heads)).inside in
      let f = finds k.rungs (omega (arith, k.held, k.limited)) hr inside s.rungs (roomy v q s lt) in
      let none : due m.recent ≡ 0 = ap due same.recent in (
        record {
          rungs = subst (λ l. RungsSound c l (tables_of c m) m.rungs) (sym same.limits) (subst (λ n. RungsSound c k.limits (tables_of c m) n) (sym same.rungs) f.sound);
          blocks = λ q h. let h' : q < k.rungs = omega (arith, h, same.rungs) in omega (arith, f.blocks q h', s.blocks q h', one, none, same.taken, f.same.sizes q h');
          ranks = λ q u h i. let h' : q < k.rungs = omega (arith, h, same.rungs) in let i' : u < (tables_of c k).size q = omega (arith, i, f.same.sizes q h') in omega (arith, f.ranks q u h' i', s.ranks q u h' i', one, none, same.taken);
          untaken = λ o. absurd (false≢true (sym o ∙ same.closed ∙ closed));
          heads =
              subst (HeadsSound c m) (sym (same.rungs ∙ e))
              (subst (λ l. Heads c l (tables_of c m) r (taken_at m) m.taken (plainly m.recent)) (sym same.limits)
              (subst (λ cs. Heads c k.limits (tables_of c m) r (λ v. get_or cs v 0) m.taken (plainly m.recent)) (sym same.counts)
              (subst (λ n. Heads c k.limits (tables_of c m) r (taken_at k) n (plainly m.recent)) (sym same.taken)
              (subst (λ (o : Option PoseNumber). Heads c k.limits (tables_of c m) r (taken_at k) k.taken (plainly o)) (sym same.recent) (heads_on r v e q s f)))));
        },
        f.same,
      )
