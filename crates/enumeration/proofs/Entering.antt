-- A candidate that is entered at a pose. Assumes nothing.
use Rattle.std.proofs.Common.{◌≡◌, ℕ, suc, ◌+◌, ◌<◌, ◌≤◌, Bool, true, false, cond, ◌⊎◌, [], ◌∷◌, length, get_or, take, IfSome, Some, None, Option, sym, refl, ap, ◌∙◌, inl, inr, arith, MatchOption}
use Rattle.std.specs.List.{AllByRecursion}
use Rattle.std.proofs.ByRecursion.{All-weaker, all_shuffled}
use Rattle.std.proofs.lemmas.Bool.{false≢true, cases_eq}
use Rattle.ladder.specs.declared.poses.Pose.{Pose}
use Rattle.ladder.specs.declared.poses.Limits.{Limits}
use Rattle.ladder.specs.Moves.{turns, within}
use Rattle.ladder.specs.Rules.{Rules, Lawful}
use Rattle.ladder.specs.Tracks.{Bounded, origin, cost}
use Rattle.ladder.specs.Ranking.{ending, may_move, candidate, CostsReached, Open}
use Rattle.ladder.proofs.Merged.{cost_extended, candidate_reached}
use Rattle.enumeration.specs.declared.records.Station.{Station}
use Rattle.enumeration.specs.declared.records.Candidate.{Candidate}
use Rattle.enumeration.specs.Waiting.{plain, extension_of, extended}
use Rattle.enumeration.specs.Waits.{only_at, FoundSoFar, Successor}
use Rattle.enumeration.specs.Tables.{Tables, poses, ladder}
use Rattle.enumeration.specs.Sound.{Lies, ends, PoseSound, RungSound}
use Rattle.enumeration.specs.Changes.{with_waiting, Elsewhere, Unchanged, BlockKept, Entered, Enters}
use Rattle.enumeration.proofs.Waits.{pushed_found, skipped_found}
use Rattle.enumeration.proofs.Frames.{length_ladder, length_poses, pose_is_at, PosesKept, poses_same, ladder_same, LiesOn, fewer_kept, grows_lies, block_same, BlockGrows, BlockSound, block_kept, unchanged_elsewhere, elsewhere_poses, elsewhere_before, elsewhere_rung, elsewhere_pose}

-- the track that a candidate extends lies where the candidate says
abbrev pub ExtendsAt : {C : Type 0} → Tables C → ℕ → Candidate C → Type 0
ExtendsAt t p x = Lies t p x.back.pose.0 x.back.rank.0 x.place.0

-- pose v of rung p + 1 while its candidates are entered: those of the poses where `due` is 1 have yet to be
pub record Gathered {C P : Type 0} (c : Rules C P) (l : Limits) (t : Tables C) (p v : ℕ) (used due : ℕ → ℕ) : Type 0 where
  pub some : (t.station (suc p) v).found ≤ length (ends c l t (suc p) v)
  pub so_far : FoundSoFar c l (poses t (suc p)) (poses t p) (ladder t p) v (t.station (suc p) v).found used due (t.slots (suc p) v) (t.station (suc p) v).waiting
  pub lie : AllByRecursion (ExtendsAt t p) (take (t.station (suc p) v).waiting (t.slots (suc p) v))

-- ---- what there is to enter

module _ {C P : Type 0} (c : Rules C P) (laws : Lawful c) (l : Limits) (b : Bounded l) (t : Tables C) (p v : ℕ) (short : suc (suc p) ≤ 128) (hv : v < t.size (suc p)) (rung : RungSound c l t p) where
  pub short_ladder : length (poses t (suc p) ∷ poses t p ∷ ladder t p) ≤ 128
  short_ladder = omega (arith, length_ladder t p)

  module _ (i : ℕ) (used : ℕ → ℕ) (in_use : i < t.used p) (first : used (t.track p i).pose.0 ≡ (t.track p i).rank.0) where
    -- the move to pose v, read off the tables
    move : may_move l (poses t p) (t.track p i).pose.0 (poses t (suc p)) v ≡ within l (turns (t.station p (t.track p i).pose.0).pose (t.station (suc p) v).pose)
    move = let a = pose_is_at t p (t.track p i).pose.0 (rung.places i in_use).numbered in let z = pose_is_at t (suc p) v hv in λ j. within l (turns (a j) (z j))

    more : used (t.track p i).pose.0 < length (ends c l t p (t.track p i).pose.0)
    more = let h = rung.places i in_use in omega (arith, first, h.found, (rung.poses (t.track p i).pose.0 h.numbered).some)

    is : plain (extension_of c (t.station p (t.track p i).pose.0).pose (t.station (suc p) v).pose (t.track p i) (record { 0 = i })) ≡ candidate c l (poses t (suc p)) (poses t p ∷ ladder t p) v (t.track p i).pose.0 (used (t.track p i).pose.0)
    unfolding ladder
    is =
        let a = pose_is_at t p (t.track p i).pose.0 (rung.places i in_use).numbered in
        let z = pose_is_at t (suc p) v hv in
        let front : (t.track p i).cost ≡ cost c (poses t p ∷ ladder t p) (get_or (ending c l (poses t p ∷ ladder t p) (t.track p i).pose.0) (used (t.track p i).pose.0) []) = (rung.places i in_use).costs ∙ ap (λ n. cost c (poses t p ∷ ladder t p) (get_or (ending c l (poses t p ∷ ladder t p) (t.track p i).pose.0) n [])) (sym first) in
        let last = λ (x y : Pose). c.price (turns x y) in
        let priced : c.join (t.track p i).cost (last (t.station p (t.track p i).pose.0).pose (t.station (suc p) v).pose) ≡ c.join (cost c (poses t p ∷ ladder t p) (get_or (ending c l (poses t p ∷ ladder t p) (t.track p i).pose.0) (used (t.track p i).pose.0) [])) (last (get_or (poses t p) (t.track p i).pose.0 origin) (get_or (poses t (suc p)) v origin)) = λ j. c.join (front j) (last (sym a j) (sym z j)) in
        let whole = priced ∙ sym (cost_extended c laws l b (poses t (suc p)) (poses t p) (ladder t p) short_ladder v (t.track p i).pose.0 (used (t.track p i).pose.0) more) in
        λ j. record { whole = whole j; front = front j; pose = (t.track p i).pose.0; rank_at = sym first j }

    open_there : within l (turns (t.station p (t.track p i).pose.0).pose (t.station (suc p) v).pose) ≡ true → Open c l (poses t (suc p)) (poses t p) (ladder t p) v used (t.track p i).pose.0
    unfolding ladder
    open_there e = record { numbered = omega (arith, length_poses t p, (rung.places i in_use).numbered); moved = move ∙ e; more = more }

    -- what there is to enter of the track at place i of rung p, the first unused at its pose
    pub successor : Successor c l (poses t (suc p)) (poses t p) (ladder t p) v used (t.track p i).pose.0 (extended c l (t.station p (t.track p i).pose.0).pose (t.station (suc p) v).pose (t.track p i) (record { 0 = i }))
    successor = at (within l (turns (t.station p (t.track p i).pose.0).pose (t.station (suc p) v).pose)) refl
      where
        at : (a : Bool) → within l (turns (t.station p (t.track p i).pose.0).pose (t.station (suc p) v).pose) ≡ a → Successor c l (poses t (suc p)) (poses t p) (ladder t p) v used (t.track p i).pose.0 (cond a (Some (extension_of c (t.station p (t.track p i).pose.0).pose (t.station (suc p) v).pose (t.track p i) (record { 0 = i }))) None)
        at true e =
            let o = open_there e in
            (refl, record { opens = o; is = is }, coe 1 0 (j. CostsReached c (is j)) (candidate_reached c laws l b (poses t (suc p)) (poses t p) (ladder t p) short_ladder v (t.track p i).pose.0 (used (t.track p i).pose.0) o.moved o.more))
        at false e = λ o. false≢true (sym e ∙ sym move ∙ o.moved)

    -- and where its track lies
    offered_lies : IfSome (extended c l (t.station p (t.track p i).pose.0).pose (t.station (suc p) v).pose (t.track p i) (record { 0 = i })) (ExtendsAt t p)
    offered_lies = at (within l (turns (t.station p (t.track p i).pose.0).pose (t.station (suc p) v).pose))
      where
        at : (a : Bool) → IfSome (cond a (Some (extension_of c (t.station p (t.track p i).pose.0).pose (t.station (suc p) v).pose (t.track p i) (record { 0 = i }))) None) (ExtendsAt t p)
        at true = record { in_use = in_use; of_pose = refl; of_rank = refl }
        at false = tt

-- ---- what entering leaves

-- nothing changed but that a candidate may have been entered at pose v of rung r
pub record KeptButWaiting {C : Type 0} (w : ℕ) (t m : Tables C) (r v : ℕ) : Type 0 where
  pub elsewhere : Elsewhere w t m r v
  pub block : BlockKept w t m r
  pub station : m.station r v ≡ with_waiting (t.station r v) (m.station r v).waiting

pub unchanged_kept : {C : Type 0} (w : ℕ) (t m : Tables C) (r v : ℕ) → v < 16 → Unchanged w t m → KeptButWaiting w t m r v
unchanged_kept w t m r v h u = record {
  elsewhere = unchanged_elsewhere w t m r v u;
  block = record { tracks = u.tracks r; used = u.used r };
  station = λ j. with_waiting (u.stations r v h j) (m.station r v).waiting;
}

pub enters_kept : {C P : Type 0} (c : Rules C P) (l : Limits) (w : ℕ) (t m : Tables C) (p v i : ℕ) → v < 16 → Enters c w t m l p v i → KeptButWaiting w t m (suc p) v
enters_kept {C} c l w t m p v i h =
    at (extended c l (t.station p (t.track p i).pose.0).pose (t.station (suc p) v).pose (t.track p i) (record { 0 = i }))
  where
    at : (o : Option (Candidate C)) → MatchOption o (Unchanged w t m) (λ x. Entered c w t m (suc p) v x) → KeptButWaiting w t m (suc p) v
    at None u = unchanged_kept w t m (suc p) v h u
    at (Some x) e = record { elsewhere = e.elsewhere; block = e.block; station = e.station }

module _ {C P : Type 0} (c : Rules C P) (laws : Lawful c) (l : Limits) (b : Bounded l) (w : ℕ) (t k : Tables C) (p v : ℕ) (short : suc (suc p) ≤ 128) (few : (q : ℕ) → q < suc (suc p) → t.size q ≤ 16) (fits : (q : ℕ) → q < suc (suc p) → t.used q ≤ w) (hv : v < t.size (suc p)) (rung : RungSound c l t p) where
  upper : v < length (poses t (suc p))
  upper = omega (arith, length_poses t (suc p))

  -- the same, said of the tables after
  gathered_after : (used due : ℕ → ℕ) → KeptButWaiting w t k (suc p) v → (t.station (suc p) v).found ≤ length (ends c l t (suc p) v) → FoundSoFar c l (poses t (suc p)) (poses t p) (ladder t p) v (t.station (suc p) v).found used due (k.slots (suc p) v) (k.station (suc p) v).waiting → AllByRecursion (ExtendsAt t p) (take (k.station (suc p) v).waiting (k.slots (suc p) v)) → Gathered c l k p v used due
  gathered_after used due kept some so_far lie = record {
    some = coe 1 0 (j. found j ≤ length (ending c l (lad j) v)) some;
    so_far = coe 1 0 (j. FoundSoFar c l (high j) (low j) (rest j) v (found j) used due (k.slots (suc p) v) (k.station (suc p) v).waiting) so_far;
    lie = All-weaker (ExtendsAt t p) (ExtendsAt k p) (λ x. lies x.back.pose.0 x.back.rank.0 x.place.0) (take (k.station (suc p) v).waiting (k.slots (suc p) v)) lie;
  }
    where
      kp : PosesKept t k (suc (suc p))
      kp = elsewhere_poses c l w (suc (suc p)) t k few fits (suc p) v kept.elsewhere (ap (λ (z : Station). z.pose) kept.station)

      high : poses k (suc p) ≡ poses t (suc p)
      high = poses_same t k (suc (suc p)) (suc p) kp (omega arith)

      low : poses k p ≡ poses t p
      low = poses_same t k (suc (suc p)) p kp (omega arith)

      rest : ladder k p ≡ ladder t p
      rest = ladder_same t k (suc (suc p)) p kp (omega arith)

      lad : ladder k (suc (suc p)) ≡ ladder t (suc (suc p))
      lad = ladder_same t k (suc (suc p)) (suc (suc p)) kp (omega arith)

      found : (k.station (suc p) v).found ≡ (t.station (suc p) v).found
      found = ap (λ (z : Station). z.found) kept.station

      lies : LiesOn t k p
      lies = grows_lies t k p (block_same t k w p (fits p (omega arith)) (kept.elsewhere.used p (λ e. let no : ⊥ = omega arith in no)) (λ i h. kept.elsewhere.tracks p i h (λ e. let no : ⊥ = omega arith in no)))

  -- nothing is entered, since the pose where one is due is not open
  pub skips_gathered : (u : ℕ) (used due due' : ℕ → ℕ) → (Open c l (poses t (suc p)) (poses t p) (ladder t p) v used u → ⊥) → ((z : ℕ) → due' z + only_at u z ≡ due z) → Unchanged w t k → Gathered c l t p v used due → Gathered c l k p v used due'
  skips_gathered u used due due' shut less same g =
      let v16 : v < 16 = omega (arith, few (suc p) (omega arith)) in
      let s = same.stations (suc p) v v16 in
      let xs = same.slots (suc p) v v16 in
      gathered_after used due' (unchanged_kept w t k (suc p) v v16 same) g.some (coe 1 0 (j. FoundSoFar c l (poses t (suc p)) (poses t p) (ladder t p) v (t.station (suc p) v).found used due' (xs j) (s j).waiting) (skipped_found c laws l b (poses t (suc p)) (poses t p) (ladder t p) (short_ladder c laws l b t p v short hv rung) v upper (t.station (suc p) v).found used due due' u (t.slots (suc p) v) (t.station (suc p) v).waiting g.so_far shut less)) (coe 1 0 (j. AllByRecursion (ExtendsAt t p) (take (s j).waiting (xs j))) g.lie)

  -- the first unused track of a pose where one is due is entered, if the move is admissible
  pub enters_gathered : (i : ℕ) (used due due' : ℕ → ℕ) → i < t.used p → used (t.track p i).pose.0 ≡ (t.track p i).rank.0 → ((z : ℕ) → due' z + only_at (t.track p i).pose.0 z ≡ due z) → Enters c w t k l p v i → Gathered c l t p v used due → Gathered c l k p v used due' × ((k.station (suc p) v).waiting ≤ (t.station (suc p) v).waiting + 1)
  enters_gathered i used due due' in_use first less enters g =
      at (extended c l (t.station p (t.track p i).pose.0).pose (t.station (suc p) v).pose (t.track p i) (record { 0 = i })) (successor c laws l b t p v short hv rung i used in_use first) (offered_lies c laws l b t p v short hv rung i used in_use first) enters
    where
      v16 : v < 16
      v16 = omega (arith, few (suc p) (omega arith))

      at : (o : Option (Candidate C)) → Successor c l (poses t (suc p)) (poses t p) (ladder t p) v used (t.track p i).pose.0 o → IfSome o (ExtendsAt t p) → MatchOption o (Unchanged w t k) (λ x. Entered c w t k (suc p) v x) → Gathered c l k p v used due' × ((k.station (suc p) v).waiting ≤ (t.station (suc p) v).waiting + 1)
      at None shut lies same = (skips_gathered (t.track p i).pose.0 used due due' shut less same g, omega (arith, ap (λ (z : Station). z.waiting) (same.stations (suc p) v v16)))
      at (Some x) next lies e =
          (gathered_after used due' (record { elsewhere = e.elsewhere; block = e.block; station = e.station }) g.some (pushed_found c laws l b (poses t (suc p)) (poses t p) (ladder t p) (short_ladder c laws l b t p v short hv rung) v upper (t.station (suc p) v).found used due due' (t.track p i).pose.0 x (t.slots (suc p) v) (k.slots (suc p) v) (t.station (suc p) v).waiting (k.station (suc p) v).waiting g.so_far next less e.pushed) (all_shuffled (ExtendsAt t p) (x ∷ take (t.station (suc p) v).waiting (t.slots (suc p) v)) (take (k.station (suc p) v).waiting (k.slots (suc p) v)) e.pushed.items (lies, g.lie)), omega (arith, e.pushed.size))

-- ---- what stays sound while candidates are entered

module _ {C P : Type 0} (c : Rules C P) (l : Limits) (w n : ℕ) (t k : Tables C) (few : (q : ℕ) → q < n → t.size q ≤ 16) (fits : (q : ℕ) → q < n → t.used q ≤ w) (r v : ℕ) (hr : r < n) (kept : KeptButWaiting w t k r v) where
  pose : (k.station r v).pose ≡ (t.station r v).pose
  pose = ap (λ (z : Station). z.pose) kept.station

  grows : BlockGrows t k r
  grows = block_same t k w r (fits r hr) kept.block.used kept.block.tracks

  pub kept_used : (q : ℕ) → k.used q ≡ t.used q
  kept_used q = at (cases_eq q r)
    where
      at : (q ≡ r) ⊎ (q ≡ r → ⊥) → k.used q ≡ t.used q
      at (inl e) = coe 1 0 (j. k.used (e j) ≡ t.used (e j)) kept.block.used
      at (inr e) = kept.elsewhere.used q e

  pub kept_rung : (q : ℕ) → q < n → (q ≡ r → ⊥) → RungSound c l t q → RungSound c l k q
  kept_rung = elsewhere_rung c l w n t k few fits r v kept.elsewhere pose grows

  pub kept_pose : (u : ℕ) → u < t.size r → (u ≡ v → ⊥) → PoseSound c l t r u → PoseSound c l k r u
  kept_pose = elsewhere_pose c l w n t k few fits r v kept.elsewhere pose grows hr

  pub kept_block : BlockSound c l t r → BlockSound c l k r
  kept_block = block_kept c l t k w r (fewer_kept t k (suc r) n hr (elsewhere_poses c l w n t k few fits r v kept.elsewhere pose)) (elsewhere_before c l w n t k few fits r v kept.elsewhere pose grows r (omega arith)) (λ u i. same u i (cases_eq u v)) kept.block (fits r hr)
    where
      same : (u : ℕ) → u < t.size r → (u ≡ v) ⊎ (u ≡ v → ⊥) → ((k.station r u).found ≡ (t.station r u).found) × ((k.station r u).last ≡ (t.station r u).last)
      same u i (inl e) = coe 1 0 (j. ((k.station r (e j)).found ≡ (t.station r (e j)).found) × ((k.station r (e j)).last ≡ (t.station r (e j)).last)) (ap (λ (z : Station). z.found) kept.station, ap (λ (z : Station). z.last) kept.station)
      same u i (inr e) = let s = kept.elsewhere.stations r u (omega (arith, few r hr)) (λ x y. e y) in (ap (λ (z : Station). z.found) s, ap (λ (z : Station). z.last) s)
