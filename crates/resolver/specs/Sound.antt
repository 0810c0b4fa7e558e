-- What a resolver's tables stand for between calls. Assumes nothing.
use Rattle.std.specs.Prelude.{◌≡◌, ℕ, zero, suc, ◌+◌, ◌<◌, ◌≤◌, true, false, List, [], ◌++◌, length, drop, Some, None, Option, MatchOption, slice_index, slice_index_or, slice_set}
use Rattle.std.specs.Option.{option_map}
use Rattle.ladder.specs.declared.poses.PoseNumber.{PoseNumber}
use Rattle.ladder.specs.declared.poses.Step.{Step}
use Rattle.ladder.specs.Rules.{Rules}
use Rattle.ladder.specs.Tracks.{Ladder, Track, steps, cost}
use Rattle.ladder.specs.Listed.{tracks_of}
use Rattle.resolver.specs.declared.answers.Taken.{Taken}
use Rattle.enumeration.specs.Tables.{ladder}
use Rattle.enumeration.specs.Sound.{ends, RungSound, RungsSound}
use Rattle.enumeration.specs.Filling.{Fresh, SameLadder}
use Rattle.enumeration.specs.Taking.{Heads, BestBelow}
use Rattle.resolver.specs.declared.tables.Core.{Core}
use Rattle.resolver.specs.Tables.{tables_of, width}

-- how many tracks are taken at pose v of the last rung
abbrev pub taken_at : {C : Type 0} → Core C → ℕ → ℕ
taken_at k v = slice_index k.counts v

-- a pose number as a plain number
abbrev pub plainly : Option PoseNumber → Option ℕ
plainly o = option_map (λ (v : PoseNumber). v.0) o

-- 1 where a track was taken whose successor has yet to be looked for
abbrev pub due : Option PoseNumber → ℕ
due None = 0
due (Some v) = 1

module _ {C P : Type 0} (c : Rules C P) (k : Core C) where
  -- the tracks taken so far are the first of the list: those counted at the poses of the last rung
  abbrev pub HeadsSound : ℕ → Type 0
  HeadsSound zero = k.taken ≡ 0
  HeadsSound (suc r) = Heads c k.limits (tables_of c k) r (taken_at k) k.taken (plainly k.recent)

  -- nothing is taken before the ladder is closed
  pub record Untaken : Type 0 where
    pub rungs : (r : ℕ) → r < k.rungs → Fresh (tables_of c k) r
    pub taken : k.taken ≡ 0
    pub counts : (v : ℕ) → taken_at k v ≡ 0
    pub recent : k.recent ≡ None

  -- the tables are sound, there is room for as many tracks as may be taken, and the taken ones are the first of the list
  pub record Sound : Type 0 where
    pub rungs : RungsSound c k.limits (tables_of c k) k.rungs
    pub blocks : (r : ℕ) → r < k.rungs → (tables_of c k).used r + due k.recent ≤ (tables_of c k).size r + k.taken
    pub ranks : (r v : ℕ) → r < k.rungs → v < (tables_of c k).size r → ((tables_of c k).station r v).found + due k.recent ≤ k.taken + 1
    pub untaken : k.closed ≡ false → Untaken
    pub heads : HeadsSound k.rungs

  -- rung r is the last, its poses are sound, and n tracks are taken
  pub record AtRest (r n : ℕ) : Type 0 where
    pub short : suc r ≤ 128
    pub rung : RungSound c k.limits (tables_of c k) r
    pub fits : (tables_of c k).used r ≤ width k
    pub heads : Heads c k.limits (tables_of c k) r (taken_at k) n None

  -- o is the best of what the poses of rung r up to v offer, where best is that of the poses before v
  abbrev pub Betters : ℕ → Option PoseNumber → ℕ → Option PoseNumber → Type 0
  Betters r best v o = (n : ℕ) → AtRest r n → v < (tables_of c k).size r → BestBelow c k.limits (tables_of c k) r (taken_at k) v (plainly best) → BestBelow c k.limits (tables_of c k) r (taken_at k) (suc v) (plainly o)

  -- o is the best of what all poses of rung r offer
  abbrev pub IsBest : ℕ → Option PoseNumber → Type 0
  IsBest r o = (n : ℕ) → AtRest r n → BestBelow c k.limits (tables_of c k) r (taken_at k) ((tables_of c k).size r) (plainly o)

  -- the steps of the track at place i of rung r are written to the first places of an output, whose later places stay
  abbrev pub WritesSteps : ℕ → ℕ → List Step → List Step → Type 0
  WritesSteps r i before after =
      (n : ℕ) → r < n → RungsSound c k.limits (tables_of c k) n → ((q : ℕ) → q < n → (tables_of c k).used q ≤ width k) → i < (tables_of c k).used r → after ≡ steps (ladder (tables_of c k) (suc r)) (slice_index_or (ends c k.limits (tables_of c k) r ((tables_of c k).track r i).pose.0) ((tables_of c k).track r i).rank.0 []) ++ drop (suc r) before

-- one track more is taken, at pose v of the last rung
pub record Counted {C P : Type 0} (c : Rules C P) (k m : Core C) (v : PoseNumber) : Type 0 where
  pub tables : tables_of c m ≡ tables_of c k
  pub taken : m.taken ≡ k.taken + 1
  pub counts : m.counts ≡ slice_set k.counts v.0 (taken_at k v.0 + 1)
  pub recent : m.recent ≡ Some v

module _ {C P : Type 0} (c : Rules C P) (k m : Core C) where
  -- the track after the one taken last was looked for on rung r, the last: nothing is due any more, and what the tables stand for is kept
  abbrev pub Renews : ℕ → Type 0
  Renews r = Sound c k → k.closed ≡ true → k.rungs ≡ suc r → k.taken < k.ration → Sound c m × SameLadder (tables_of c k) (tables_of c m) k.rungs

-- what opening fixed, and the ladder with its end, stay
pub record SetupKept {C : Type 0} (k m : Core C) : Type 0 where
  pub limits : m.limits ≡ k.limits
  pub rung_limit : m.rung_limit ≡ k.rung_limit
  pub ration : m.ration ≡ k.ration
  pub rungs : m.rungs ≡ k.rungs
  pub closed : m.closed ≡ k.closed

module _ {C P : Type 0} (c : Rules C P) (k : Core C) where
  -- the ladder that the tables hold
  abbrev pub ladder_of : Ladder
  ladder_of = ladder (tables_of c k) k.rungs

  -- the list of that ladder
  abbrev pub list_of : List Track
  list_of = tracks_of c k.limits ladder_of

  -- the first untaken track of the list, its number and its cost, and its steps in the output
  pub record Gives (before after : List Step) (n : ℕ) (x : Taken C) : Type 0 where
    pub exists : k.taken < length list_of
    pub number : x.number ≡ k.taken + 1
    pub costs : x.cost ≡ cost c ladder_of (slice_index_or list_of k.taken [])
    pub output : after ≡ steps ladder_of (slice_index_or list_of k.taken []) ++ drop k.rungs before
    pub counts : n ≡ k.taken + 1

  -- the list is at its end, and nothing is written
  pub record Ends (before after : List Step) (n : ℕ) : Type 0 where
    pub all : length list_of ≤ k.taken
    pub output : after ≡ before
    pub counts : n ≡ k.taken

-- taking the next track of a closed ladder, from the resolver k to the resolver m
abbrev pub Takes : {C P : Type 0} → Rules C P → Core C → Core C → List Step → List Step → Option (Taken C) → Type 0
Takes c k m before after o = Sound c k → k.closed ≡ true → Sound c m × (ladder_of c m ≡ ladder_of c k) × MatchOption o (Ends c k before after m.taken) (λ x. Gives c k before after m.taken x)
