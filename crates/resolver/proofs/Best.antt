-- The best of what the poses of the last rung offer. Assumes nothing.
use Rattle.std.proofs.Common.{◌≡◌, ℕ, zero, suc, ◌<◌, ◌≤◌, Bool, true, false, Some, None, MatchBool, Option, Ordering, sym, refl, ap, ◌∙◌, arith}
use Rattle.std.specs.Ordering.{is_lt}
use Rattle.ladder.specs.Rules.{Rules, Lawful}
use Rattle.enumeration.specs.declared.records.Station.{Station}
use Rattle.enumeration.specs.Taking.{Offers, BestBelow, last_cost}
use Rattle.enumeration.proofs.Taking.{best_passes, best_begins, best_stays, best_changes}
use Rattle.resolver.specs.declared.tables.Core.{Core}
use Rattle.resolver.specs.Tables.{tables_of, width, station_at}
use Rattle.resolver.specs.Sound.{AtRest, taken_at}
use Rattle.resolver.proofs.Bounded.{bounded}

module _ {C P : Type 0} (c : Rules C P) (laws : Lawful c) (k : Core C) (r n : ℕ) (h : AtRest c k r n) where
  abbrev Best : ℕ → Option ℕ → Type 0
  Best i o = BestBelow c k.limits (tables_of c k) r (taken_at k) i o

  -- the last found track lies in the block
  pub last_low : (v : ℕ) → Offers c k.limits (tables_of c k) r (taken_at k) v → ((tables_of c k).station r v).last.0 < width k
  last_low v o = at ((tables_of c k).station r v).found refl
    where
      at : (m : ℕ) → m ≡ ((tables_of c k).station r v).found → ((tables_of c k).station r v).last.0 < width k
      at zero e = absurd (let no_way : ⊥ = omega (arith, e, o.some) in no_way)
      at (suc m) e = omega (arith, ((h.rung.poses v o.numbered).last m e).in_use, h.fits)

  pub low_number : (v : ℕ) → v < (tables_of c k).size r → v < 16
  low_number v nv = omega (arith, nv, h.rung.few)

  pub passes : (v : ℕ) (best : Option ℕ) → ((tables_of c k).station r v).found ≤ taken_at k v → Best v best → Best (suc v) best
  passes v best le = best_passes c laws k.limits (bounded k) (tables_of c k) r h.short h.rung (taken_at k) n h.heads v best (λ o. let no_way : ⊥ = omega (arith, o.some, le) in no_way)

  pub begins : (v : ℕ) → v < (tables_of c k).size r → taken_at k v < ((tables_of c k).station r v).found → Best v None → Best (suc v) (Some v)
  begins v nv lt = best_begins c laws k.limits (bounded k) (tables_of c k) r h.short h.rung (taken_at k) n h.heads v (record { numbered = nv; some = lt })

  -- station s, of which m ranks are taken, is that of pose v, and the costs a and b are those of what v and w offer: t tells whether v's is lower
  pub compared : (v w : ℕ) (s : Station) (m : ℕ) (a b : C) (o : Ordering) (t : Bool) → v < (tables_of c k).size r → Best v (Some w) → (v < 16 → m ≡ taken_at k v) → (v < 16 → s ≡ station_at k r v) → m < s.found → (v < 16 → (station_at k r v).last.0 < width k → a ≡ last_cost c k.limits (tables_of c k) r (taken_at k) v) → (w < 16 → (station_at k r w).last.0 < width k → b ≡ last_cost c k.limits (tables_of c k) r (taken_at k) w) → o ≡ c.compare a b → t ≡ is_lt o → MatchBool t (Best (suc v) (Some v)) (Best (suc v) (Some w))
  compared v w s m a b o t nv best taken station lt cost least tells test = by t (sym (test ∙ ap is_lt (tells ∙ ap (λ z. c.compare z b) a_is ∙ ap (λ z. c.compare (last v) z) b_is)))
    where
      last : ℕ → C
      last = last_cost c k.limits (tables_of c k) r (taken_at k)

      offers : Offers c k.limits (tables_of c k) r (taken_at k) v
      offers = record { numbered = nv; some = omega (arith, lt, taken (low_number v nv), ap (λ (z : Station). z.found) (station (low_number v nv))) }

      a_is : a ≡ last v
      a_is = cost (low_number v nv) (last_low v offers)

      b_is : b ≡ last w
      b_is = least (low_number w best.1.numbered) (last_low w best.1)

      by : (u : Bool) → is_lt (c.compare (last v) (last w)) ≡ u → MatchBool u (Best (suc v) (Some v)) (Best (suc v) (Some w))
      by true e = best_changes c laws k.limits (bounded k) (tables_of c k) r h.short h.rung (taken_at k) n h.heads v w offers e best
      by false e = best_stays c laws k.limits (bounded k) (tables_of c k) r h.short h.rung (taken_at k) n h.heads v w offers e best
