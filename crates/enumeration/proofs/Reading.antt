-- Reading a track back along its fronts gives its steps. Assumes nothing.
use Rattle.std.proofs.Common.{◌≡◌, ℕ, zero, suc, ◌<◌, List, [], ◌∷◌, ◌++◌, length, get_or, drop, set, sym, refl, ap, ◌∙◌, subst, append_assoc, arith, length-set, drop-cons}
use Rattle.std.proofs.lemmas.List.{drop-set-lt, get_or-set_same}
use Rattle.ladder.specs.declared.poses.Step.{Step}
use Rattle.ladder.specs.declared.poses.Pose.{Pose}
use Rattle.ladder.specs.declared.poses.Limits.{Limits}
use Rattle.ladder.specs.Rules.{Rules, Lawful}
use Rattle.ladder.specs.Tracks.{Track, Bounded, step_at, steps}
use Rattle.ladder.proofs.Endings.{single}
use Rattle.ladder.proofs.Forward.{steps_more}
use Rattle.enumeration.specs.Tables.{Tables, poses, ladder}
use Rattle.enumeration.specs.Sound.{ends, RungsSound}
use Rattle.enumeration.proofs.Frames.{pose_is_at, length_poses}

module _ {C : Type 0} (t : Tables C) where
  -- the step at place i of rung r
  abbrev pub step_in : ℕ → ℕ → Step
  step_in r i = record { number = (t.track r i).pose; pose = (t.station r (t.track r i).pose.0).pose }

  -- the steps of the track at place i of rung r - 1, written from the last to the first
  pub read_onto : ℕ → ℕ → List Step → List Step
  read_onto zero i out = out
  read_onto (suc r) i out = read_onto r (t.track r i).front.0 (set out r (step_in r i))

  pub read_none : (i : ℕ) (out : List Step) → read_onto zero i out ≡ out
  unfolding read_onto
  read_none i out = refl

  pub read_one : (r i : ℕ) (out : List Step) → read_onto (suc r) i out ≡ read_onto r (t.track r i).front.0 (set out r (step_in r i))
  unfolding read_onto
  read_one r i out = refl

  -- a step written at place r stands before what comes after it
  drop_written : (r : ℕ) (out : List Step) (s : Step) → r < length out → drop r (set out r s) ≡ s ∷ drop (suc r) out
  drop_written r out s h =
      drop-cons (set out r s) r s (subst (λ k. r < k) (sym (length-set out r s)) h) ∙ ap (λ x. x ∷ drop (suc r) (set out r s)) (get_or-set_same out r s s h) ∙ ap (λ xs. s ∷ xs) (drop-set-lt (suc r) out r s (omega arith))

module _ {C P : Type 0} (c : Rules C P) (laws : Lawful c) (l : Limits) (b : Bounded l) (t : Tables C) (n : ℕ) (sound : RungsSound c l t n) where
  -- the track at a place
  abbrev pub held : ℕ → ℕ → Track
  held r i = get_or (ends c l t r (t.track r i).pose.0) (t.track r i).rank.0 []

  step_is : (r i : ℕ) → r < n → i < t.used r → step_at (poses t r) (t.track r i).pose.0 ≡ step_in t r i
  step_is r i h u = ap (λ (p : Pose). record { number = (t.track r i).pose; pose = p }) (pose_is_at t r (t.track r i).pose.0 ((sound r h).places i u).numbered)

  -- the place of the front is in use, and the track is the front's with one pose number more
  pub front_used : (p i : ℕ) → suc p < n → i < t.used (suc p) → (t.track (suc p) i).front.0 < t.used p
  front_used p i h u = ((sound (suc p) h).places i u).extends.0.in_use

  front_held : (p i : ℕ) → suc p < n → i < t.used (suc p) → held (suc p) i ≡ (t.track (suc p) i).pose.0 ∷ held p (t.track (suc p) i).front.0
  front_held p i h u =
      let e = ((sound (suc p) h).places i u).extends in
      e.1 ∙ ap (λ v. (t.track (suc p) i).pose.0 ∷ get_or (ends c l t p v) (t.track (suc p) i).back.rank.0 []) (sym e.0.of_pose) ∙ ap (λ k. (t.track (suc p) i).pose.0 ∷ get_or (ends c l t p (t.track p (t.track (suc p) i).front.0).pose.0) k []) (sym e.0.of_rank)

  first_held : (i : ℕ) → 0 < n → i < t.used 0 → held 0 i ≡ (t.track 0 i).pose.0 ∷ []
  unfolding ladder
  first_held i h u =
      let s = sound 0 h in
      let p = s.places i u in
      let v = (t.track 0 i).pose.0 in
      let one : (t.station 0 v).found ≡ 1 = (s.poses v p.numbered).sourced.0 in
      let z : (t.track 0 i).rank.0 ≡ 0 = omega (arith, p.found, one) in
      ap (λ k. get_or (ends c l t 0 v) k []) z ∙ ap (λ xs. get_or xs 0 []) (single c laws l b (poses t 0) v (omega (arith, p.numbered, length_poses t 0)))

  -- what is read back is the track's steps
  pub read_is : (r i : ℕ) (out : List Step) → r < n → i < t.used r → r < length out → read_onto t (suc r) i out ≡ steps (ladder t (suc r)) (held r i) ++ drop (suc r) out
  unfolding ladder read_onto
  read_is zero i out h u o =
      drop_written t 0 out (step_in t 0 i) o
      ∙ ap (λ s. s ∷ drop 1 out) (sym (step_is 0 i h u))
      ∙ ap (λ tr. steps (poses t 0 ∷ []) tr ++ drop 1 out) (sym (first_held i h u))
  read_is (suc p) i out h u o =
      let s = step_in t (suc p) i in
      let f = (t.track (suc p) i).front.0 in
      read_is p f (set out (suc p) s) (omega arith) (front_used p i h u) (subst (λ k. p < k) (sym (length-set out (suc p) s)) (omega arith))
      ∙ ap (λ xs. steps (ladder t (suc p)) (held p f) ++ xs) (drop_written t (suc p) out s o ∙ ap (λ x. x ∷ drop (suc (suc p)) out) (sym (step_is (suc p) i h u)))
      ∙ sym (append_assoc (steps (ladder t (suc p)) (held p f)) (step_at (poses t (suc p)) (t.track (suc p) i).pose.0 ∷ []) (drop (suc (suc p)) out))
      ∙ ap (λ xs. xs ++ drop (suc (suc p)) out) (sym (steps_more (poses t (suc p)) (ladder t (suc p)) (t.track (suc p) i).pose.0 (held p f)))
      ∙ ap (λ tr. steps (ladder t (suc (suc p))) tr ++ drop (suc (suc p)) out) (sym (front_held p i h u))
