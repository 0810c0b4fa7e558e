-- The order of a ladder's tracks, and the list of a ladder. Assumes nothing.
use Rattle.std.specs.Prelude.{◌≡◌, ℕ, zero, suc, ◌<◌, ◌≤◌, if◌then◌else◌, ◌⊎◌, List, [], ◌∷◌, ◌++◌, map, length, filter, slice_index_or}
use Rattle.std.specs.declared.cmp.Ordering.TheVariants.{Less, Equal}
use Rattle.std.specs.declared.cmp.Ordering.{Ordering}
use Rattle.std.specs.Ordering.{is_lt, ordering_then, nat_cmp}
use Rattle.std.specs.List.{AllByRecursion}
use Rattle.ladder.specs.declared.poses.Limits.{Limits}
use Rattle.ladder.specs.Rules.{Rules, Orders}
use Rattle.ladder.specs.Tracks.{Ladder, Track, Bounded, Admissible, all_within, moves, steps_back, cost}

-- the peel order of two tracks of one ladder: by cost, then by last pose number, then the last rung is dropped from both and they are compared again, from the cost
abbrev pub peel : {V P : Type 0} → Rules V P → Ladder → Track → Track → Ordering
peel c [] t u = Equal
peel c (r ∷ rs) [] u = Equal
peel c (r ∷ rs) (i ∷ t) [] = Equal
peel c (r ∷ rs) (i ∷ t) (j ∷ u) =
    ordering_then (c.compare (cost c (r ∷ rs) (i ∷ t)) (cost c (r ∷ rs) (j ∷ u))) (ordering_then (nat_cmp i j) (peel c rs t u))

-- x stands in the list
abbrev pub In : {X : Type 0} → X → List X → Type 0
In x [] = ⊥
In x (y ∷ ys) = (y ≡ x) ⊎ In x ys

-- each element is below all that come after it
abbrev pub Ascending : {X : Type 0} → (X → X → Ordering) → List X → Type 0
Ascending cmp [] = Unit {0}
Ascending cmp (x ∷ xs) = AllByRecursion (λ y. cmp x y ≡ Less) xs × Ascending cmp xs

-- the list of a ladder: every admissible track and nothing else, each once, strictly ascending in peel order
pub record ListOf {V P : Type 0} (c : Rules V P) (l : Limits) (rs : Ladder) (ts : List Track) : Type 0 where
  pub every : (t : Track) → Admissible l rs t → In t ts
  pub only : AllByRecursion (Admissible l rs) ts
  pub once : (i j : ℕ) → i < length ts → j < length ts → slice_index_or ts i [] ≡ slice_index_or ts j [] → i ≡ j
  pub ordered : Ascending (peel c rs) ts

-- x put into a list before the first element that it is below
abbrev pub placed_in : {X : Type 0} → (X → X → Ordering) → X → List X → List X
placed_in cmp x [] = x ∷ []
placed_in cmp x (y ∷ ys) = if is_lt (cmp x y) then x ∷ y ∷ ys else y ∷ placed_in cmp x ys

-- a list sorted by insertion
abbrev pub sorted : {X : Type 0} → (X → X → Ordering) → List X → List X
sorted cmp [] = []
sorted cmp (x ∷ xs) = placed_in cmp x (sorted cmp xs)

-- each number below n put before each of the tracks
abbrev pub extended : ℕ → List Track → List Track
extended zero ts = []
extended (suc n) ts = map (λ t. n ∷ t) ts ++ extended n ts

-- every row of pose numbers, one for each rung
abbrev pub rows : Ladder → List Track
rows [] = [] ∷ []
rows (r ∷ rs) = extended (length r) (rows rs)

-- the admissible tracks, in no set order
abbrev pub admissible_tracks : Limits → Ladder → List Track
admissible_tracks l [] = []
admissible_tracks l (r ∷ rs) = filter (λ t. all_within l (moves (steps_back (r ∷ rs) t))) (rows (r ∷ rs))

-- the list of a ladder, computed
abbrev pub tracks_of : {V P : Type 0} → Rules V P → Limits → Ladder → List Track
tracks_of c l rs = sorted (peel c rs) (admissible_tracks l rs)

-- up to 128 rungs the peel order is a total order of the admissible tracks, the computed list is the list of the ladder, and there is no other
pub record OneList {V P : Type 0} (c : Rules V P) : Type 0 where
  pub orders : (l : Limits) → Bounded l → (rs : Ladder) → length rs ≤ 128 → Orders (Admissible l rs) (peel c rs)
  pub lists : (l : Limits) → Bounded l → (rs : Ladder) → length rs ≤ 128 → ListOf c l rs (tracks_of c l rs)
  pub alone : (l : Limits) → Bounded l → (rs : Ladder) → length rs ≤ 128 → (ts : List Track) → ListOf c l rs ts → ts ≡ tracks_of c l rs
