-- Drawing a candidate, from what is written. Assumes nothing.
use Rattle.std.proofs.Common.{◌≡◌, ℕ, ◌-◌, ◌<◌, List, sym, ◌∙◌, subst}
use Rattle.heap.specs.Order.{Popped}
use Rattle.ladder.specs.Rules.{Rules}
use Rattle.enumeration.specs.declared.records.Station.{Station}
use Rattle.enumeration.specs.declared.records.Candidate.{Candidate}
use Rattle.enumeration.specs.Tables.{Tables}
use Rattle.enumeration.specs.Waiting.{ReachedBoth, earlier}
use Rattle.enumeration.specs.Changes.{Appended, Settled, Drawn, drained}
use Rattle.enumeration.specs.Writes.{OneMore, StationPut, Appends}

-- tables with other candidate places
abbrev pub with_slots : {C : Type 0} → Tables C → (ℕ → ℕ → List (Candidate C)) → Tables C
with_slots t sl = record { station = t.station; track = t.track; slots = sl; size = t.size; used = t.used }

module _ {C P : Type 0} (c : Rules C P) (w : ℕ) (t m : Tables C) (r v : ℕ) (few : v < 16) (sl : ℕ → ℕ → List (Candidate C)) (s : Station) (is : s ≡ drained (t.station r v)) where
  pub settles : ((q u : ℕ) → sl q u ≡ t.slots q u) → (t.station r v).waiting ≡ 0 → StationPut w (with_slots t sl) m r v s → Settled c w t m r v
  settles same none p = record {
    elsewhere = record {
      sizes = p.elsewhere.sizes;
      stations = p.elsewhere.stations;
      slots = λ q u h ne. p.elsewhere.slots q u h ne ∙ same q u;
      tracks = p.elsewhere.tracks;
      used = p.elsewhere.used;
    };
    block = record { tracks = p.block.tracks; used = p.block.used };
    none = none;
    station = p.here ∙ is;
    slots = p.slots ∙ same r v;
  }

  pub fits : OneMore w t r (t.station r v) → OneMore w (with_slots t sl) r s
  fits more = subst (λ y. OneMore w (with_slots t sl) r y) (sym is) (record { found = more.found; free = more.free; last = more.last })

  appended : (x : Candidate C) → Appended w (with_slots t sl) m r v s x → Appended w t m r v s x
  appended x a = record { station = a.station; used = a.used; new = a.new; link = a.link; old = a.old }

  pub draws : (x : Candidate C) → ((q u : ℕ) → u < 16 → (q ≡ r → u ≡ v → ⊥) → sl q u ≡ t.slots q u) → (m.slots r v ≡ sl r v → Popped (ReachedBoth c) (earlier c) (t.slots r v) (t.station r v).waiting x (m.slots r v) ((t.station r v).waiting - 1)) → Appends w (with_slots t sl) m r v s x → Drawn c w t m r v x
  draws x others popped a = record {
    elsewhere = record {
      sizes = a.elsewhere.sizes;
      stations = a.elsewhere.stations;
      slots = λ q u h ne. a.elsewhere.slots q u h ne ∙ others q u h ne;
      tracks = a.elsewhere.tracks;
      used = a.elsewhere.used;
    };
    popped = popped a.slots;
    appended = subst (λ y. Appended w t m r v y x) is (appended x a.appended);
  }
