-- What the steps of the search write. Assumes nothing.
use Rattle.std.specs.Prelude.{◌≡◌, ℕ, suc, ◌+◌, ◌-◌, ◌<◌, false, Option, MatchOption, ◌≢◌, nat_lt}
use Rattle.heap.specs.Order.{Pushed, Popped}
use Rattle.ladder.specs.declared.poses.Limits.{Limits}
use Rattle.ladder.specs.Rules.{Rules}
use Rattle.enumeration.specs.declared.records.Station.{Station}
use Rattle.enumeration.specs.declared.records.Ranked.{Ranked}
use Rattle.enumeration.specs.declared.records.Candidate.{Candidate}
use Rattle.enumeration.specs.Waiting.{ReachedBoth, earlier, extended}
use Rattle.enumeration.specs.Tables.{Tables}

-- a station with another count of waiting candidates
abbrev pub with_waiting : Station → ℕ → Station
with_waiting s n = record { pose = s.pose; waiting = n; found = s.found; last = s.last; pending = s.pending }

-- a station with one candidate less, if it has one, and none to enter
abbrev pub drained : Station → Station
drained s = record { pose = s.pose; waiting = s.waiting - 1; found = s.found; last = s.last; pending = false }

-- a station of rung r with one rank more, which lies at place i
abbrev pub grown : Station → ℕ → ℕ → Station
grown s i r = record { pose = s.pose; waiting = s.waiting; found = s.found + 1; last = record { 0 = i }; pending = nat_lt 0 r }

-- the track that candidate x stands for as rank n at pose v, at place i; it leads nowhere yet
abbrev pub entry_of : {C : Type 0} → ℕ → ℕ → Candidate C → ℕ → Ranked C
entry_of v n x i = record { cost = x.whole; pose = record { 0 = v }; rank = record { 0 = n }; back = x.back; front = x.place; after = record { 0 = i } }

-- a track that leads to place i
abbrev pub linked : {C : Type 0} → Ranked C → ℕ → Ranked C
linked e i = record { cost = e.cost; pose = e.pose; rank = e.rank; back = e.back; front = e.front; after = record { 0 = i } }

-- w is the width of a block; from the tables t to the tables m
module _ {C : Type 0} (w : ℕ) (t m : Tables C) where
  -- nothing changed but pose v of rung r, its candidate places and the block of rung r
  pub record Elsewhere (r v : ℕ) : Type 0 where
    pub sizes : (q : ℕ) → m.size q ≡ t.size q
    pub stations : (q u : ℕ) → u < 16 → (q ≡ r → u ≢ v) → m.station q u ≡ t.station q u
    pub slots : (q u : ℕ) → u < 16 → (q ≡ r → u ≢ v) → m.slots q u ≡ t.slots q u
    pub tracks : (q i : ℕ) → i < w → (q ≢ r) → m.track q i ≡ t.track q i
    pub used : (q : ℕ) → (q ≢ r) → m.used q ≡ t.used q

  -- nothing changed
  pub record Unchanged : Type 0 where
    pub sizes : (q : ℕ) → m.size q ≡ t.size q
    pub stations : (q u : ℕ) → u < 16 → m.station q u ≡ t.station q u
    pub slots : (q u : ℕ) → u < 16 → m.slots q u ≡ t.slots q u
    pub tracks : (q i : ℕ) → i < w → m.track q i ≡ t.track q i
    pub used : (q : ℕ) → m.used q ≡ t.used q

  -- the block of rung r is as it was
  pub record BlockKept (r : ℕ) : Type 0 where
    pub tracks : (i : ℕ) → i < w → m.track r i ≡ t.track r i
    pub used : m.used r ≡ t.used r

  -- the track that candidate x stands for is appended as the next rank at pose v of rung r, whose station was s; the last rank before it leads to it
  pub record Appended (r v : ℕ) (s : Station) (x : Candidate C) : Type 0 where
    pub station : m.station r v ≡ grown s (t.used r) r
    pub used : m.used r ≡ t.used r + 1
    pub new : m.track r (t.used r) ≡ entry_of v s.found x (t.used r)
    pub link : 0 < s.found → m.track r s.last.0 ≡ linked (t.track r s.last.0) (t.used r)
    pub old : (i : ℕ) → i < w → (i ≢ t.used r) → (0 < s.found → i ≢ s.last.0) → m.track r i ≡ t.track r i

module _ {C P : Type 0} (c : Rules C P) (w : ℕ) (t m : Tables C) where
  -- candidate x is entered at pose v of rung r
  pub record Entered (r v : ℕ) (x : Candidate C) : Type 0 where
    pub elsewhere : Elsewhere w t m r v
    pub block : BlockKept w t m r
    pub station : m.station r v ≡ with_waiting (t.station r v) (m.station r v).waiting
    pub pushed : Pushed (ReachedBoth c) (earlier c) (t.slots r v) (t.station r v).waiting x (m.slots r v) (m.station r v).waiting

  -- nothing waited at pose v of rung r, and nothing is to be entered any more
  pub record Settled (r v : ℕ) : Type 0 where
    pub elsewhere : Elsewhere w t m r v
    pub block : BlockKept w t m r
    pub none : (t.station r v).waiting ≡ 0
    pub station : m.station r v ≡ drained (t.station r v)
    pub slots : m.slots r v ≡ t.slots r v

  -- candidate x is drawn at pose v of rung r and appended as its next rank
  pub record Drawn (r v : ℕ) (x : Candidate C) : Type 0 where
    pub elsewhere : Elsewhere w t m r v
    pub popped : Popped (ReachedBoth c) (earlier c) (t.slots r v) (t.station r v).waiting x (m.slots r v) ((t.station r v).waiting - 1)
    pub appended : Appended w t m r v (drained (t.station r v)) x

  -- the least candidate at pose v of rung r, if any waits, is drawn as its next rank
  abbrev pub Draws : ℕ → ℕ → Type 0
  Draws r v = (d : Option (Candidate C)) × MatchOption d (Settled r v) (λ x. Drawn r v x)

  -- the track at place i of rung p is entered as a candidate at pose v of rung p + 1, where the move is admissible
  abbrev pub Enters : Limits → ℕ → ℕ → ℕ → Type 0
  Enters l p v i =
      MatchOption (extended c l (t.station p (t.track p i).pose.0).pose (t.station (suc p) v).pose (t.track p i) (record { 0 = i })) (Unchanged w t m) (λ x. Entered (suc p) v x)
