-- Appending a track to a rung's block, from its three writes. Assumes nothing.
use Rattle.std.proofs.Common.{◌≡◌, ℕ, ◌<◌, Bool, true, false, cond, ltb, sym, refl, ap, ◌∙◌, subst, arith}
use Rattle.std.proofs.lemmas.Bool.{ltb-true, ltb-false}
use Rattle.enumeration.specs.declared.records.Station.{Station}
use Rattle.enumeration.specs.declared.records.Candidate.{Candidate}
use Rattle.enumeration.specs.Tables.{Tables}
use Rattle.enumeration.specs.Changes.{Unchanged, Appended, entry_of, linked, grown}
use Rattle.enumeration.specs.Writes.{StationPut, TrackPut, Ranks, Links, Appends}

-- the track is written at place i: tables a; the rank before it is linked to it: tables b; the station is written: tables m
module _ {C : Type 0} (w : ℕ) (t a b m : Tables C) (r v i : ℕ) (s n : Station) (x : Candidate C) (lt : i < w) (few : v < 16) (is : i ≡ t.used r) (last : 0 < s.found → s.last.0 < t.used r) (ranks : Ranks w t a r (entry_of v s.found x i)) where
  -- what the block of rung r holds once the rank before is linked
  record Block : Type 0 where
    sizes : (q : ℕ) → b.size q ≡ t.size q
    stations : (q u : ℕ) → u < 16 → b.station q u ≡ t.station q u
    slots : (q u : ℕ) → u < 16 → b.slots q u ≡ t.slots q u
    used : (q : ℕ) → b.used q ≡ a.used q
    new : b.track r i ≡ entry_of v s.found x i
    link : 0 < s.found → b.track r s.last.0 ≡ linked (t.track r s.last.0) i
    old : (q j : ℕ) → j < w → (q ≡ r → j ≡ i → ⊥) → (0 < s.found → q ≡ r → j ≡ s.last.0 → ⊥) → b.track q j ≡ t.track q j

  first : a.track r i ≡ entry_of v s.found x i
  first = subst (λ j. a.track r j ≡ entry_of v s.found x i) (sym is) ranks.here

  others : (q j : ℕ) → j < w → (q ≡ r → j ≡ i → ⊥) → a.track q j ≡ t.track q j
  others q j h ne = ranks.tracks q j h (λ e f. ne e (f ∙ sym is))

  block : (z : Bool) → ltb 0 s.found ≡ z → cond z (TrackPut w a b r s.last.0 (linked (a.track r s.last.0) i)) (Unchanged w a b) → Block
  block true e p =
      let some = ltb-true 0 s.found e in
      let before = last some in
      record {
        sizes = λ q. p.sizes q ∙ ranks.sizes q;
        stations = λ q u h. p.stations q u ∙ ranks.stations q u;
        slots = λ q u h. p.slots q u ∙ ranks.slots q u;
        used = p.used;
        new = p.tracks r i lt (λ _ f. omega (arith, f, before)) ∙ first;
        link = λ _. p.here ∙ ap (λ y. linked y i) (others r s.last.0 (omega (arith, before)) (λ _ f. omega (arith, f, before)));
        old = λ q j h ne nl. p.tracks q j h (nl some) ∙ others q j h ne;
      }
  block false e p = record {
    sizes = λ q. p.sizes q ∙ ranks.sizes q;
    stations = λ q u h. p.stations q u h ∙ ranks.stations q u;
    slots = λ q u h. p.slots q u h ∙ ranks.slots q u;
    used = p.used;
    new = p.tracks r i lt ∙ first;
    link = λ some. absurd (let no_way : ⊥ = omega (arith, some, ltb-false 0 s.found e) in no_way);
    old = λ q j h ne nl. p.tracks q j h ∙ others q j h ne;
  }

  pub appends : Links w a b r s i → StationPut w b m r v n → n ≡ grown s i r → Appends w t m r v s x
  appends links put grows =
      let k = block (ltb 0 s.found) refl links in
      let P : ℕ → Type 0 = λ j. Appended w t m r v s x in
      record {
        elsewhere = record {
          sizes = λ q. put.elsewhere.sizes q ∙ k.sizes q;
          stations = λ q u h ne. put.elsewhere.stations q u h ne ∙ k.stations q u h;
          slots = λ q u h ne. put.elsewhere.slots q u h ne ∙ k.slots q u h;
          tracks = λ q j h ne. put.elsewhere.tracks q j h ne ∙ k.old q j h (λ e _. ne e) (λ _ e _. ne e);
          used = λ q ne. put.elsewhere.used q ne ∙ k.used q ∙ ranks.used q ne;
        };
        slots = put.slots ∙ k.slots r v few;
        appended = record {
          station = put.here ∙ grows ∙ ap (λ j. grown s j r) is;
          used = put.block.used ∙ k.used r ∙ ranks.more;
          new = subst (λ j. m.track r j ≡ entry_of v s.found x j) is (put.block.tracks i lt ∙ k.new);
          link = λ some. put.block.tracks s.last.0 (omega (arith, last some)) ∙ k.link some ∙ ap (λ j. linked (t.track r s.last.0) j) is;
          old = λ j h ne nl. put.block.tracks j h ∙ k.old r j h (λ _ e. ne (e ∙ is)) (λ some _ e. nl some e);
        };
      }
