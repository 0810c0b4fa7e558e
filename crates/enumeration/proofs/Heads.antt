-- What is taken and offered at the poses of the last rung, over the calls. Assumes nothing.
use Rattle.std.proofs.Common.{◌≡◌, ℕ, zero, suc, ◌+◌, ◌<◌, ◌≤◌, Bool, true, false, cond, eqb, ◌⊎◌, ◌∷◌, length, Some, None, sym, refl, ap, ◌∙◌, subst, inl, inr, ⊎_elim, arith}
use Rattle.std.proofs.lemmas.Bool.Decides.{eqb_tells}
use Rattle.std.proofs.lemmas.Bool.{eq-eqb}
use Rattle.ladder.specs.declared.poses.Limits.{Limits}
use Rattle.ladder.specs.Rules.{Rules}
use Rattle.ladder.specs.Tracks.{Rung, Ladder}
use Rattle.ladder.specs.Ranking.{ending, GivenOut, bumped}
use Rattle.ladder.proofs.Ends.{none_given}
use Rattle.enumeration.specs.declared.records.Station.{Station}
use Rattle.enumeration.specs.Tables.{Tables, poses, ladder}
use Rattle.enumeration.specs.Sound.{ends, RungSound, PoseSound}
use Rattle.enumeration.specs.Filling.{Fresh}
use Rattle.enumeration.specs.Taking.{Head, Heads, Offers, BestBelow, LookedFor}
use Rattle.enumeration.proofs.Frames.{length_poses}

-- only the counts of the poses that there are matter
given_like : {C P : Type 0} (c : Rules C P) (l : Limits) (r : Rung) (rs : Ladder) (n : ℕ) (used used' : ℕ → ℕ) → ((v : ℕ) → v < length r → used v ≡ used' v) → GivenOut c l r rs n used → GivenOut c l r rs n used'
given_like c l r rs n used used' e g = record { exactly = λ v i nv ni. (λ h. (g.exactly v i nv ni).0 (subst (λ k. i < k) (sym (e v nv)) h), λ h. subst (λ k. i < k) (e v nv) ((g.exactly v i nv ni).1 h)) }

module _ {C P : Type 0} (c : Rules C P) (l : Limits) (t : Tables C) (r : ℕ) where
  -- the best track is counted as taken
  pub counted_heads : (taken taken' : ℕ → ℕ) (n v : ℕ) → Heads c l t r taken n None → BestBelow c l t r taken (t.size r) (Some v) → GivenOut c l (poses t r) (ladder t r) (suc n) (bumped taken v) → ((u : ℕ) → u < t.size r → taken' u ≡ bumped taken v u) → Heads c l t r taken' (suc n) (Some v)
  counted_heads taken taken' n v h best g e = record {
    given = given_like c l (poses t r) (ladder t r) (suc n) (bumped taken v) taken' (λ u nu. sym (e u (omega (arith, nu, length_poses t r)))) g;
    each = λ u nu. ⊎_elim (λ q. subst (Head c l t r taken' (Some v)) (sym q.1) one_more) (λ q. other u nu q.0 q.1) (eqb_tells u v);
    inside = best.0;
  }
    where
      o : Offers c l t r taken v
      o = best.1

      now_taken : taken' v ≡ suc (taken v)
      now_taken = e v o.numbered ∙ ap (λ b. cond b (suc (taken v)) (taken v)) (eq-eqb v v refl)

      one_more : Head c l t r taken' (Some v) v
      one_more = record {
        low = omega (arith, now_taken, o.some);
        high = omega (arith, now_taken, (h.each v o.numbered).high);
        spent = λ _. omega (arith, now_taken, o.some, (h.each v o.numbered).high);
        ended = λ _ q. absurd (q refl);
      }

      other : (u : ℕ) → u < t.size r → eqb u v ≡ false → (u ≡ v → ⊥) → Head c l t r taken' (Some v) u
      other u nu q d =
          let k : taken' u ≡ taken u = e u nu ∙ ap (λ b. cond b (suc (taken u)) (taken u)) q in
          let hd = h.each u nu in
          record { low = omega (arith, hd.low, k); high = omega (arith, hd.high, k); spent = λ z. absurd (d (sym z)); ended = λ z _. hd.ended (sym k ∙ z) (λ f. f) }

module _ {C P : Type 0} (c : Rules C P) (l : Limits) (t m : Tables C) (r : ℕ) (rung : poses m r ≡ poses t r) (before : ladder m r ≡ ladder t r) (sizes : m.size r ≡ t.size r) (few : t.size r ≤ 16) (taken : ℕ → ℕ) where
  ends_same : (v : ℕ) → ends c l m r v ≡ ends c l t r v
  unfolding ladder
  ends_same v = ap (λ p. ending c l (p ∷ ladder m r) v) rung ∙ ap (λ rs. ending c l (poses t r ∷ rs) v) before

  moved_given : (n : ℕ) → GivenOut c l (poses t r) (ladder t r) n taken → GivenOut c l (poses m r) (ladder m r) n taken
  moved_given n g = subst (λ p. GivenOut c l p (ladder m r) n taken) (sym rung) (subst (λ rs. GivenOut c l (poses t r) rs n taken) (sym before) g)

  -- the next track at the pose that was taken last is looked for
  pub renewed_heads : (n v : ℕ) → Heads c l t r taken n (Some v) → LookedFor c l t m r v → Heads c l m r taken n None
  renewed_heads n v h k = record {
    given = moved_given n h.given;
    each = λ u nu. ⊎_elim (λ e. subst (Head c l m r taken None) (sym e.1) (renewed k.found)) (λ e. other u (omega (arith, nu, sizes)) e.1) (eqb_tells u v);
    inside = tt;
  }
    where
      hd : Head c l t r taken (Some v) v
      hd = h.each v h.inside

      other : (u : ℕ) → u < t.size r → (u ≡ v → ⊥) → Head c l m r taken None u
      other u nu d =
          let f : (m.station r u).found ≡ (t.station r u).found = ap (λ (s : Station). s.found) (k.others u (omega (arith, nu, few)) d) in
          let z = ap length (ends_same u) in
          let x = h.each u nu in
          record { low = omega (arith, x.low, f); high = omega (arith, x.high, f); spent = λ i. absurd i; ended = λ q _. omega (arith, x.ended (q ∙ f) (λ y. d (sym y)), f, z) }

      renewed : ((m.station r v).found ≡ (t.station r v).found + 1) ⊎ (((m.station r v).found ≡ (t.station r v).found) × (length (ends c l t r v) ≤ (t.station r v).found)) → Head c l m r taken None v
      renewed (inl more) = record {
        low = omega (arith, more, hd.spent refl);
        high = omega (arith, more, hd.spent refl);
        spent = λ z. absurd z;
        ended = λ q _. absurd (let no_way : ⊥ = omega (arith, q, more, hd.spent refl) in no_way);
      }
      renewed (inr done) = record {
        low = omega (arith, done.0, hd.spent refl);
        high = omega (arith, done.0, hd.spent refl);
        spent = λ z. absurd z;
        ended = λ q _. omega (arith, done.0, done.1, ap length (ends_same v));
      }

-- before a track is taken
module _ {C P : Type 0} (c : Rules C P) (l : Limits) (t : Tables C) where
  bare : (r v : ℕ) → PoseSound c l t r v → (t.station r v).found ≡ 0 → length (ends c l t r v) ≤ 0
  bare zero v p e = absurd (let no_way : ⊥ = omega (arith, e, p.sourced.0) in no_way)
  bare (suc q) v p e = at (t.station (suc q) v).pending refl
    where
      at : (b : Bool) → (t.station (suc q) v).pending ≡ b → length (ends c l t (suc q) v) ≤ 0
      at true h = absurd (let no_way : ⊥ = omega (arith, e, (p.sourced.1.pending h).0) in no_way)
      at false h = omega (arith, e, p.sourced.1.settled h)

  pub fresh_heads : (r : ℕ) (taken : ℕ → ℕ) → RungSound c l t r → Fresh t r → ((v : ℕ) → v < t.size r → taken v ≡ 0) → Heads c l t r taken 0 None
  fresh_heads r taken s f none = record {
    given = given_like c l (poses t r) (ladder t r) 0 (λ v. 0) taken (λ v nv. sym (none v (omega (arith, nv, length_poses t r)))) (none_given c l (poses t r) (ladder t r));
    each = λ v nv. record {
      low = omega (arith, none v nv);
      high = omega (arith, f.found v nv);
      spent = λ z. absurd z;
      ended = λ q _. let z : (t.station r v).found ≡ 0 = omega (arith, q, none v nv) in omega (arith, bare r v (s.poses v nv) z);
    };
    inside = tt;
  }
