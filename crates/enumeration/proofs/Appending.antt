-- A block that takes one track more. Assumes nothing.
use Rattle.std.proofs.Common.{◌≡◌, ℕ, suc, ◌+◌, ◌-◌, ◌<◌, ◌≤◌, ◌⊎◌, [], get_or, sym, ap, ◌∙◌, inl, inr, arith}
use Rattle.std.proofs.lemmas.Bool.{cases_eq, cases_lt}
use Rattle.ladder.specs.declared.poses.Limits.{Limits}
use Rattle.ladder.specs.Rules.{Rules}
use Rattle.ladder.specs.Tracks.{cost}
use Rattle.ladder.specs.Ranking.{ending}
use Rattle.enumeration.specs.declared.records.Station.{Station}
use Rattle.enumeration.specs.declared.records.Ranked.{Ranked}
use Rattle.enumeration.specs.declared.records.Candidate.{Candidate}
use Rattle.enumeration.specs.Tables.{Tables, ladder}
use Rattle.enumeration.specs.Sound.{Lies, ends, Extends, Holds}
use Rattle.enumeration.specs.Changes.{linked, entry_of, Elsewhere, Appended}
use Rattle.enumeration.proofs.Frames.{PosesKept, LiesBefore, BlockGrows, grows_lies, ladder_same, holds_kept, extends_kept, BlockSound}

-- x is the track of rank n at pose v of rung r: its cost, and what it extends
pub record Continues {C P : Type 0} (c : Rules C P) (l : Limits) (t : Tables C) (r v n : ℕ) (x : Candidate C) : Type 0 where
  pub costs : x.whole ≡ cost c (ladder t (suc r)) (get_or (ends c l t r v) n [])
  pub extends : Extends c l t r (entry_of v n x 0)

module _ {C : Type 0} (w : ℕ) (t m : Tables C) (r v : ℕ) (s : Station) (x : Candidate C) (a : Appended w t m r v s x) (fits : t.used r ≤ w) where
  relink : (i j : ℕ) → m.track r i ≡ linked (t.track r i) j → m.track r i ≡ linked (t.track r i) (m.track r i).after.0
  relink i j e = e ∙ sym (ap (λ (z : Ranked C). linked (t.track r i) z.after.0) e)

  -- what was in the block stays, but for where the last rank before leads
  pub appended_grows : BlockGrows t m r
  appended_grows = record { used = omega (arith, a.used); tracks = λ i h. at i h (cases_lt 0 s.found) (cases_eq i s.last.0) }
    where
      stays : (i : ℕ) → i < t.used r → (0 < s.found → i ≡ s.last.0 → ⊥) → m.track r i ≡ linked (t.track r i) (m.track r i).after.0
      stays i h other = let e = a.old i (omega arith) (λ e. let no : ⊥ = omega arith in no) other in λ j. linked (e j) (m.track r i).after.0

      at : (i : ℕ) → i < t.used r → (0 < s.found) ⊎ (s.found ≤ 0) → (i ≡ s.last.0) ⊎ (i ≡ s.last.0 → ⊥) → m.track r i ≡ linked (t.track r i) (m.track r i).after.0
      at i h (inl some) (inl e) = relink i (t.used r) (coe 1 0 (j. m.track r (e j) ≡ linked (t.track r (e j)) (t.used r)) (a.link some))
      at i h (inl some) (inr e) = stays i h (λ _. e)
      at i h (inr none) e = stays i h (λ some. let no : ⊥ = omega arith in absurd no)

  -- the new track lies behind the others
  pub appended_lies : Lies m r v s.found (t.used r)
  appended_lies = record {
    in_use = omega (arith, a.used);
    of_pose = ap (λ (e : Ranked C). e.pose.0) a.new;
    of_rank = ap (λ (e : Ranked C). e.rank.0) a.new;
  }

-- a sound block takes one track more, the next at its pose
module _ {C P : Type 0} (c : Rules C P) (l : Limits) (w : ℕ) (t m : Tables C) (r v : ℕ) (s : Station) (x : Candidate C) (a : Appended w t m r v s x) (fits : t.used r ≤ w) (e : Elsewhere w t m r v) (few : t.size r ≤ 16) (hv : v < t.size r) (found : s.found ≡ (t.station r v).found) (last : s.last.0 ≡ (t.station r v).last.0) (k : PosesKept t m (suc r)) (below : LiesBefore t m r) (is : Continues c l t r v s.found x) (b : BlockSound c l t r) where
  grows : BlockGrows t m r
  grows = appended_grows w t m r v s x a fits

  newest : Lies m r v s.found (t.used r)
  newest = appended_lies w t m r v s x a fits

  now_found : (m.station r v).found ≡ s.found + 1
  now_found = ap (λ (z : Station). z.found) a.station

  lad : ladder m (suc r) ≡ ladder t (suc r)
  lad = ladder_same t m (suc r) (suc r) k (omega arith)

  new_holds : Holds c l m r (t.used r)
  new_holds = record {
    numbered = coe 1 0 (j. (a.new j).pose.0 < e.sizes r j) hv;
    found = coe 1 0 (j. (a.new j).rank.0 < (m.station r (a.new j).pose.0).found) (omega (arith, now_found));
    costs = coe 1 0 (j. (a.new j).cost ≡ cost c (lad j) (get_or (ending c l (lad j) (a.new j).pose.0) (a.new j).rank.0 [])) is.costs;
    extends = coe 1 0 (j. Extends c l m r (a.new j)) (extends_kept c l t m r k below (entry_of v s.found x 0) (t.used r) is.extends);
    after = coe 1 0 (j. (a.new j).rank.0 + 1 < (m.station r (a.new j).pose.0).found → Lies m r (a.new j).pose.0 ((a.new j).rank.0 + 1) (a.new j).after.0) (λ h. let no : ⊥ = omega (arith, now_found) in absurd no);
  }

  last_lies : (n : ℕ) → suc n ≡ s.found → Lies t r v n s.last.0
  last_lies = coe 1 0 (j. (n : ℕ) → suc n ≡ found j → Lies t r v n (last j)) (b.lasts v hv)

  stays : (i : ℕ) → i < t.used r → (0 < s.found → i ≡ s.last.0 → ⊥) → m.track r i ≡ t.track r i
  stays i h other = a.old i (omega arith) (λ e. let no : ⊥ = omega arith in no) other

  -- a track that leads where it led
  unlinked : (i : ℕ) → i < t.used r → Holds c l t r i → (0 < s.found → i ≡ s.last.0 → ⊥) → (t.station r (t.track r i).pose.0).found ≤ (m.station r (t.track r i).pose.0).found → ((t.track r i).rank.0 + 1 < (m.station r (t.track r i).pose.0).found → (t.track r i).rank.0 + 1 < (t.station r (t.track r i).pose.0).found) → Holds c l m r i
  unlinked i h o other more less =
      let same = stays i h other in
      holds_kept c l t m r i k below (grows.tracks i h) more (λ q. coe 1 0 (j. Lies m r (t.track r i).pose.0 ((t.track r i).rank.0 + 1) (same j).after.0) (grows_lies t m r grows (t.track r i).pose.0 ((t.track r i).rank.0 + 1) (t.track r i).after.0 (o.after (less q)))) o

  found_at : (u : ℕ) → u ≡ v → (m.station r u).found ≡ (t.station r u).found + 1
  found_at u p = coe 1 0 (j. (m.station r (p j)).found ≡ (t.station r (p j)).found + 1) (now_found ∙ ap (λ n. n + 1) found)

  here_found : (u : ℕ) → u ≡ v → (t.station r u).found ≡ s.found
  here_found u p = ap (λ z. (t.station r z).found) p ∙ sym found

  old_holds : (i : ℕ) → i < t.used r → Holds c l t r i → ((t.track r i).pose.0 ≡ v) ⊎ ((t.track r i).pose.0 ≡ v → ⊥) → ((t.track r i).rank.0 + 1 ≡ s.found) ⊎ ((t.track r i).rank.0 + 1 ≡ s.found → ⊥) → Holds c l m r i
  old_holds i h o (inl p) (inl n) =
      let lies = last_lies (t.track r i).rank.0 (omega arith) in
      let at : i ≡ s.last.0 = b.once i s.last.0 h lies.in_use (p ∙ sym lies.of_pose) (sym lies.of_rank) in
      let link : m.track r i ≡ linked (t.track r i) (t.used r) = coe 1 0 (j. m.track r (at j) ≡ linked (t.track r (at j)) (t.used r)) (a.link (omega arith)) in
      let more : (t.station r (t.track r i).pose.0).found ≤ (m.station r (t.track r i).pose.0).found = omega (arith, found_at (t.track r i).pose.0 p) in
      holds_kept c l t m r i k below (grows.tracks i h) more (λ q. coe 1 0 (j. Lies m r (p j) (n j) (link j).after.0) newest) o
  old_holds i h o (inl p) (inr n) =
      unlinked i h o (λ some at. n (let lies = last_lies (s.found - 1) (omega arith) in omega (arith, lies.of_rank, ap (λ z. (t.track r z).rank.0) at))) (omega (arith, found_at (t.track r i).pose.0 p)) (λ q. omega (arith, q, found_at (t.track r i).pose.0 p, here_found (t.track r i).pose.0 p, n))
  old_holds i h o (inr p) n =
      let same : (m.station r (t.track r i).pose.0).found ≡ (t.station r (t.track r i).pose.0).found = ap (λ (z : Station). z.found) (e.stations r (t.track r i).pose.0 (omega (arith, o.numbered)) (λ x y. p y)) in
      unlinked i h o (λ some at. p (let lies = last_lies (s.found - 1) (omega arith) in ap (λ z. (t.track r z).pose.0) at ∙ lies.of_pose)) (omega (arith, same)) (λ q. omega (arith, same, q))

  not_new : (i j : ℕ) → i ≡ t.used r → j < t.used r → (m.track r i).pose.0 ≡ (m.track r j).pose.0 → (m.track r i).rank.0 ≡ (m.track r j).rank.0 → ⊥
  not_new i j new old p n =
      let pose : (t.track r j).pose.0 ≡ v = sym (ap (λ (z : Ranked C). z.pose.0) (grows.tracks j old)) ∙ sym p ∙ ap (λ z. (m.track r z).pose.0) new ∙ newest.of_pose in
      let rank : (t.track r j).rank.0 ≡ s.found = sym (ap (λ (z : Ranked C). z.rank.0) (grows.tracks j old)) ∙ sym n ∙ ap (λ z. (m.track r z).rank.0) new ∙ newest.of_rank in
      omega (arith, (b.places j old).found, here_found (t.track r j).pose.0 pose, rank)

  apart : (i j : ℕ) → i < m.used r → j < m.used r → (m.track r i).pose.0 ≡ (m.track r j).pose.0 → (m.track r i).rank.0 ≡ (m.track r j).rank.0 → (i ≡ t.used r) ⊎ (i ≡ t.used r → ⊥) → (j ≡ t.used r) ⊎ (j ≡ t.used r → ⊥) → i ≡ j
  apart i j iu ju p n (inl x) (inl y) = x ∙ sym y
  apart i j iu ju p n (inl x) (inr y) = absurd (not_new i j x (omega (arith, a.used)) p n)
  apart i j iu ju p n (inr x) (inl y) = absurd (not_new j i y (omega (arith, a.used)) (sym p) (sym n))
  apart i j iu ju p n (inr x) (inr y) =
      let i< : i < t.used r = omega (arith, a.used) in
      let j< : j < t.used r = omega (arith, a.used) in
      let f = grows.tracks i i< in
      let g = grows.tracks j j< in
      b.once i j i< j< (sym (ap (λ (z : Ranked C). z.pose.0) f) ∙ p ∙ ap (λ (z : Ranked C). z.pose.0) g) (sym (ap (λ (z : Ranked C). z.rank.0) f) ∙ n ∙ ap (λ (z : Ranked C). z.rank.0) g)

  lasts : (u : ℕ) → u < t.size r → (u ≡ v) ⊎ (u ≡ v → ⊥) → (n : ℕ) → suc n ≡ (m.station r u).found → Lies m r u n (m.station r u).last.0
  lasts u i (inl p) n f =
      let last_at : (m.station r u).last.0 ≡ t.used r = ap (λ z. (m.station r z).last.0) p ∙ ap (λ (z : Station). z.last.0) a.station in
      let rank : n ≡ s.found = omega (arith, f, found_at u p, here_found u p) in
      coe 1 0 (j. Lies m r (p j) (rank j) (last_at j)) newest
  lasts u i (inr p) n f =
      let z = e.stations r u (omega arith) (λ x y. p y) in
      coe 1 0 (j. suc n ≡ (z j).found → Lies m r u n (z j).last.0) (λ q. grows_lies t m r grows u n (t.station r u).last.0 (b.lasts u i n q)) f

  places : (i : ℕ) → i < m.used r → (i ≡ t.used r) ⊎ (i ≡ t.used r → ⊥) → Holds c l m r i
  places i h (inl p) = coe 1 0 (j. Holds c l m r (p j)) new_holds
  places i h (inr p) =
      let old : i < t.used r = omega (arith, a.used) in
      old_holds i old (b.places i old) (cases_eq (t.track r i).pose.0 v) (cases_eq ((t.track r i).rank.0 + 1) s.found)

  pub appended_block : BlockSound c l m r
  appended_block = record {
    lasts = λ u i. lasts u (omega (arith, e.sizes r)) (cases_eq u v);
    places = λ i h. places i h (cases_eq i (t.used r));
    once = λ i j iu ju p n. apart i j iu ju p n (cases_eq i (t.used r)) (cases_eq j (t.used r));
  }
