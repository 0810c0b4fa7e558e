-- The list of a ladder is the merge of the tracks that end at each pose of its last rung. Assumes nothing.
use Rattle.std.proofs.Common.{◌≡◌, ℕ, ◌<◌, ◌≤◌, true, ◌⊎◌, [], ◌∷◌, length, get_or, Ordering, Less, Equal, Greater, sym, refl, ap, ◌∙◌, subst, inl, inr, arith}
use Rattle.std.specs.Ordering.{is_le, ordering_then, nat_cmp}
use Rattle.std.proofs.lemmas.Bool.{false≢true, cases_eq}
use Rattle.ladder.specs.declared.poses.Limits.{Limits}
use Rattle.ladder.specs.Rules.{Rules, Lawful}
use Rattle.ladder.specs.Tracks.{Rung, Ladder, Track, Bounded}
use Rattle.ladder.specs.Listed.{peel, In, tracks_of}
use Rattle.ladder.specs.Ranking.{ending, GivenOut, first_cost, EndsMerge, ListMerges}
use Rattle.ladder.specs.Numbers.{rank_same}
use Rattle.ladder.proofs.Sorting.{in_get_or}
use Rattle.ladder.proofs.Merging.{goes_on}
use Rattle.ladder.proofs.Endings.{R, same, list, list_sound, at_ending, ending_listed, rank_once, rank_rises, listed_rank}
use Rattle.ladder.proofs.Merged.{ends_compare}

le_then : (o p x : Ordering) → (p ≡ Equal → ⊥) → is_le (ordering_then o p) ≡ true → is_le (ordering_then o (ordering_then p x)) ≡ true
le_then Less p x h e = refl
le_then Equal Less x h e = refl
le_then Equal Equal x h e = absurd (h refl)
le_then Equal Greater x h e = absurd (false≢true e)
le_then Greater p x h e = absurd (false≢true e)

module _ {V P : Type 0} (c : Rules V P) (laws : Lawful c) (l : Limits) (b : Bounded l) (r : Rung) (rs : Ladder) (n128 : length (r ∷ rs) ≤ 128) where
  abbrev long : ℕ → ℕ
  long v = length (ending c l (r ∷ rs) v)

  -- the track of rank i at pose v
  abbrev ranked : ℕ → ℕ → Track
  ranked v i = get_or (ending c l (r ∷ rs) v) i []

  there : (v i : ℕ) → v < length r → i < long v → In (ranked v i) (tracks_of c l (r ∷ rs))
  there v i hv h =
      ending_listed c laws l b (r ∷ rs) n128 v (ranked v i) (in_get_or (ending c l (r ∷ rs) v) i [] h)

  -- a track has one rank at one pose
  one : (v w i k : ℕ) → v < length r → w < length r → i < long v → k < long w → ranked v i ≡ ranked w k → (v ≡ w) × (i ≡ k)
  one v w i k hv hw hi hk e =
      (alike, rank_once c laws l b (r ∷ rs) n128 w i k (subst (λ z. i < long z) alike hi) hk (sym (ap (λ z. ranked z i) alike) ∙ e))
    where
      alike : v ≡ w
      alike =
          sym (at_ending c laws l b (r ∷ rs) n128 v i hi).1 ∙ ap (λ t. get_or t 0 0) e ∙ (at_ending c laws l b (r ∷ rs) n128 w k hk).1

  -- by cost and then by pose number is by peel order, between the tracks of different poses
  best_peel : (used : ℕ → ℕ) (w v : ℕ) → used w < long w → used v < long v → is_le (ordering_then (c.compare (first_cost c l r rs used w) (first_cost c l r rs used v)) (nat_cmp w v)) ≡ true → is_le (peel c (r ∷ rs) (ranked w (used w)) (ranked v (used v))) ≡ true
  best_peel used w v hw hv best = step (cases_eq w v)
    where
      step : (w ≡ v) ⊎ (w ≡ v → ⊥) → is_le (peel c (r ∷ rs) (ranked w (used w)) (ranked v (used v))) ≡ true
      step (inl e) = subst (λ z. is_le (peel c (r ∷ rs) (ranked w (used w)) (ranked z (used z))) ≡ true) e (rank_rises c laws l b (r ∷ rs) n128 w (used w) (used w) (omega arith) hw)
      step (inr ne) =
          subst (λ o. is_le o ≡ true) (ends_compare c laws l b r rs n128 w v (used w) (used v) hw hv) (le_then (c.compare (first_cost c l r rs used w) (first_cost c l r rs used v)) (nat_cmp w v) (nat_cmp (used w) (used v)) (λ e. ne (rank_same w v e)) best)

  ends_merge : (n : ℕ) (used : ℕ → ℕ) → GivenOut c l r rs n used → EndsMerge c l r rs n used
  ends_merge n used em =
      let on = goes_on (R c laws l b (r ∷ rs) n128) (same c laws l b (r ∷ rs) n128) (tracks_of c l (r ∷ rs)) [] (list_sound c laws l b (r ∷ rs) n128) (list c laws l b (r ∷ rs) n128).ordered (λ v. v < length r) long ranked there (listed_rank c laws l b r rs n128) (λ v i j hv. rank_rises c laws l b (r ∷ rs) n128 v i j) one n used em.exactly in
      record {
        next = λ w o best. let p = on.next w o.numbered o.more (λ v hv h. best_peel used w v o.more h (best v (record { numbered = hv; more = h }))) in (p.0, p.1, record { exactly = p.2 });
        done = λ none. on.done (λ v hv h. none v (record { numbered = hv; more = h }));
      }

-- before the first track nothing is given out
pub none_given : {V P : Type 0} (c : Rules V P) (l : Limits) (r : Rung) (rs : Ladder) → GivenOut c l r rs 0 (λ v. 0)
none_given c l r rs = record { exactly = λ v i hv hi. (λ h. absurd (omega arith), λ x. let h : x.0 < 0 = x.1 in absurd (omega arith)) }

pub list_merges : {V P : Type 0} (c : Rules V P) → Lawful c → ListMerges c
list_merges c laws l b r rs n128 n used em = ends_merge c laws l b r rs n128 n used em
