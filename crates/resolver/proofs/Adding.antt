-- Adding a rung, from what its steps write. Assumes nothing.
use Rattle.std.proofs.Common.{◌≡◌, ℕ, suc, ◌+◌, ◌-◌, ◌<◌, ◌≤◌, length, sym, ap, ◌∙◌, subst, arith}
use Rattle.ladder.specs.Rules.{Rules, Lawful}
use Rattle.ladder.specs.Tracks.{Rung}
use Rattle.enumeration.specs.declared.records.Station.{Station}
use Rattle.enumeration.specs.declared.records.Candidate.{Candidate}
use Rattle.enumeration.specs.Changes.{Draws}
use Rattle.enumeration.specs.Writes.{OneMore, Appends}
use Rattle.enumeration.specs.Filling.{Begun, Entering, SameLadder, start}
use Rattle.enumeration.proofs.Filling.{placed, filled, same_through}
use Rattle.enumeration.proofs.Firsts.{entering, entered, drawn, started, starting_fits, entering_fits, drawing_fits}
use Rattle.resolver.specs.declared.tables.Core.{Core}
use Rattle.resolver.specs.Kept.{Same}
use Rattle.resolver.specs.Tables.{tables_of, width}
use Rattle.resolver.specs.Effects.{AppendsTrack, DrawsLeast}
use Rattle.resolver.specs.Adding.{PlacesRung, EntersFirstOf, EntersEach, SettlesPose, AddsRung}
use Rattle.resolver.proofs.Bounded.{bounded}

wide : {C : Type 0} (k : Core C) → 16 ≤ width k
wide k = omega arith

-- a rung below the rung limit is one of 128
short : {C : Type 0} (k : Core C) (r : ℕ) → r < k.rung_limit → r < 128
short k r h = omega (arith, k.limited, h)

next : (n : ℕ) → suc n ≡ n + 1
next n = omega arith

-- from k by steps that leave the step limits to a, then by one to m
module _ {C P : Type 0} (c : Rules C P) (laws : Lawful c) (k a m : Core C) (same : Same k a) (r v : ℕ) (lt : r < a.rung_limit) where
  -- the first tracks of u poses are entered, and one more
  pub enters_more : (p u : ℕ) → r ≡ suc p → u < (tables_of c k).size p → EntersFirstOf c a m r v u → Entering c k.limits (tables_of c a) p v u × SameLadder (tables_of c k) (tables_of c a) (suc r) → Entering c k.limits (tables_of c m) p v (u + 1) × SameLadder (tables_of c k) (tables_of c m) (suc r)
  enters_more p u is inside step before =
      let t = tables_of c a in
      let n = tables_of c m in
      let here = subst (λ l. Entering c l t p v u) (sym same.limits) before.0 in
      let there : u < t.size p = subst (λ z. u < z) (sym (before.1.sizes p (omega (arith, is)))) inside in
      let fits = entering_fits c a.limits (width a) (wide a) t p v u there here in
      let wrote = step p is fits.0 fits.1 (subst (λ z. (t.station z v).waiting < 16) (sym is) fits.2) fits.3 in
      let after = entered c laws a.limits (bounded a) (width a) (wide a) t n p v u (short a (suc p) (subst (λ z. z < a.rung_limit) is lt)) there here wrote in
      (subst (λ z. Entering c k.limits n p v z) (next u) (subst (λ l. Entering c l n p v (suc u)) same.limits after.0), same_through before.1 (subst (λ z. SameLadder t n (suc z)) (sym is) after.1))

  -- above the first rung: all are entered, and the least is drawn
  pub settles_above : 0 < r → EntersEach c k a r v → DrawsLeast c a m r v → SettlesPose c k m r v
  settles_above above each draws there begun =
      let p = r - 1 in
      let is : r ≡ suc p = omega (arith, above) in
      let s = tables_of c k in
      let t = tables_of c a in
      let n = tables_of c m in
      let all = each p is (entering c k.limits s p v (subst (λ z. v < s.size z) is there) (subst (λ z. Begun c k.limits s z v) is begun)) in
      let full = subst (λ l. Entering c l t p v (t.size p)) (sym same.limits) (subst (λ z. Entering c k.limits t p v z) (sym (all.1.sizes p (omega (arith, is)))) all.0) in
      let fits = drawing_fits c a.limits (width a) (wide a) t p v full in
      let wrote = draws fits.0 (subst (λ z. (t.station z v).waiting ≤ 16) (sym is) fits.1) (subst (λ z. OneMore (width a) t z (t.station z v)) (sym is) fits.2) in
      let after = drawn c laws a.limits (bounded a) (width a) (wide a) t n p v (short a (suc p) (subst (λ z. z < a.rung_limit) is lt)) full (subst (λ z. Draws c (width a) t n z v) is wrote) in
      (subst (λ z. Begun c k.limits n z (suc v)) (sym is) (subst (λ l. Begun c l n (suc p) (suc v)) same.limits after.0), same_through all.1 (subst (λ z. SameLadder t n (suc z)) (sym is) after.1))

  -- the first v poses are settled, and one more
  pub settles_more : v < (tables_of c k).size r → SettlesPose c a m r v → Begun c k.limits (tables_of c a) r v × SameLadder (tables_of c k) (tables_of c a) (suc r) → Begun c k.limits (tables_of c m) r (v + 1) × SameLadder (tables_of c k) (tables_of c m) (suc r)
  settles_more inside step before =
      let t = tables_of c a in
      let n = tables_of c m in
      let after = step (subst (λ z. v < z) (sym (before.1.sizes r (omega arith))) inside) (subst (λ l. Begun c l t r v) (sym same.limits) before.0) in
      (subst (λ z. Begun c k.limits n r z) (next v) (subst (λ l. Begun c l n r (suc v)) same.limits after.0), same_through before.1 after.1)

-- the candidate that is made on the first rung
pub start_read : {C P : Type 0} (c : Rules C P) (v : ℕ) (a b : C) → a ≡ c.zero → b ≡ c.zero → ◌≡◌ {A = Candidate C} (record { whole = a; front = b; back = record { pose = record { 0 = v }; rank = record { 0 = 0 } }; place = record { 0 = 0 } }) (start c v)
start_read {C} c v a b e f =
    ap (λ (z : C). record { whole = z; front = b; back = record { pose = record { 0 = v }; rank = record { 0 = 0 } }; place = record { 0 = 0 } }) e
    ∙ ap (λ (z : C). record { whole = c.zero; front = z; back = record { pose = record { 0 = v }; rank = record { 0 = 0 } }; place = record { 0 = 0 } }) f

-- on the first rung: the one track is appended
pub settles_first : {C P : Type 0} (c : Rules C P) (laws : Lawful c) (k m : Core C) (r v : ℕ) → r ≡ 0 → (s : Station) → (v < 16 → s ≡ (tables_of c k).station 0 v) → AppendsTrack c k m 0 v s (start c v) → SettlesPose c k m r v
settles_first c laws k m r v is s read appends =
    let t = tables_of c k in
    let n = tables_of c m in
    subst (λ z. v < t.size z → Begun c k.limits t z v → Begun c k.limits n z (suc v) × SameLadder t n (suc z)) (sym is) (λ there begun.
    let fits = starting_fits c k.limits (width k) (wide k) t 0 v there begun in
    started c laws k.limits (bounded k) (width k) (wide k) t n v there begun (subst (λ (y : Station). Appends (width k) t n 0 v y (start c v)) (read fits.0) (appends fits.0 (subst (λ (y : Station). OneMore (width k) t 0 y) (sym (read fits.0)) fits.1))))

-- the poses are written: resolver a; each is settled: resolver m
pub adds_rung : {C P : Type 0} (c : Rules C P) (k a m : Core C) → Same k a → (ps : Rung) → length ps ≤ 16 → PlacesRung c k a k.rungs ps → (Begun c a.limits (tables_of c a) k.rungs 0 → Begun c a.limits (tables_of c m) k.rungs (length ps) × SameLadder (tables_of c a) (tables_of c m) (suc k.rungs)) → AddsRung c k m ps
adds_rung c k a m same ps few places settles some before =
    let r = k.rungs in
    let t = tables_of c a in
    let n = tables_of c m in
    let first = placed c k.limits (width k) (wide k) r ps (tables_of c k) t some few before places in
    let all = settles (subst (λ l. Begun c l t r 0) (sym same.limits) first.0) in
    let whole : length ps ≡ n.size r = sym (all.1.sizes r (omega arith) ∙ places.size) in
    (filled c k.limits r n (subst (λ z. Begun c k.limits n r z) whole (subst (λ l. Begun c l n r (length ps)) same.limits all.0)), all.1.rungs ∙ first.1)
