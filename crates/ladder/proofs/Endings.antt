-- The tracks that end at one pose. Assumes nothing.
use Rattle.std.proofs.Common.{◌≡◌, ℕ, ◌<◌, ◌≤◌, true, eqb, ltb, ◌↔◌, [], ◌∷◌, length, get_or, Equal, sym, refl, ap, ◌∙◌, subst, inl, inr, arith}
use Rattle.std.specs.Ordering.{is_le}
use Rattle.std.specs.List.{AllByRecursion}
use Rattle.std.proofs.lemmas.Bool.{false≢true, and_parts, and_from, ltb-true, lt-ltb, eqb-true, eq-eqb}
use Rattle.ladder.specs.declared.poses.Limits.{Limits}
use Rattle.ladder.specs.Rules.{Rules, Lawful, Reached}
use Rattle.ladder.specs.Tracks.{Rung, Ladder, Track, Bounded, Admissible, in_range, cost}
use Rattle.ladder.specs.Listed.{peel, In, Ascending, ListOf, tracks_of}
use Rattle.ladder.specs.Ranking.{ending}
use Rattle.ladder.specs.Ranked.{Ranks}
use Rattle.ladder.specs.Numbers.{le_rank}
use Rattle.ladder.specs.Laws.{reached_more}
use Rattle.ladder.proofs.Sorting.{all_in, all_from_in, in_get_or, in_place, in_kept, in_kept_from, ascending_kept, by_place, place_once, same_elements}
use Rattle.ladder.proofs.Peeled.{Sound, sound, reached, peel_ranks, peel_same, tracks_of_lists}
use Rattle.ladder.proofs.Forward.{in_range_picks}

-- ---- costs, move by move

-- a track of one rung costs zero
pub cost_one : {V P : Type 0} (c : Rules V P) (r : Rung) (t : Track) → cost c (r ∷ []) t ≡ c.zero
cost_one c r [] = refl
cost_one c r (j ∷ t) = refl

-- ---- tracks that end at a pose

-- t is an admissible track that ends at pose number u of the last rung r
pub record EndsAt {V P : Type 0} (c : Rules V P) (l : Limits) (r : Rung) (rs : Ladder) (u : ℕ) (t : Track) : Type 0 where
  pub front : Track
  pub begins : t ≡ u ∷ front
  pub there : u < length r
  pub admissible : Admissible l (r ∷ rs) t
  pub one_each : length t ≡ length (r ∷ rs)
  pub reached : Reached c (length rs) (cost c (r ∷ rs) t)

-- an admissible track ends at its first number, as it is held
pub ends_at : {V P : Type 0} (c : Rules V P) (l : Limits) → Bounded l → (r : Rung) (rs : Ladder) (u : ℕ) (t : Track) → Admissible l (r ∷ rs) t → get_or t 0 0 ≡ u → EndsAt c l r rs u t
ends_at c l b r rs u [] h e = absurd (false≢true h.numbered)
ends_at c l b r rs u (j ∷ t) h e = record {
  front = t;
  begins = ap (λ n. n ∷ t) e;
  there = subst (λ n. n < length r) e (ltb-true j (length r) (and_parts (ltb j (length r)) (in_range rs t) h.numbered).0);
  admissible = h;
  one_each = (in_range_picks (r ∷ rs) (j ∷ t) h.numbered).one_each;
  reached = reached c l r rs (length rs) (j ∷ t) b (omega arith) (sound l (r ∷ rs) (j ∷ t) h);
}

module _ {V P : Type 0} (c : Rules V P) (laws : Lawful c) (l : Limits) (b : Bounded l) where
  module _ (rs : Ladder) (n128 : length rs ≤ 128) where
    pub R : Ranks (Sound l rs) (peel c rs)
    R = peel_ranks c laws l b rs n128

    pub same : (t u : Track) → Sound l rs t → Sound l rs u → peel c rs t u ≡ Equal → t ≡ u
    same = peel_same c laws l b rs

    pub list : ListOf c l rs (tracks_of c l rs)
    list = tracks_of_lists c laws l b rs n128

    pub list_sound : AllByRecursion (Sound l rs) (tracks_of c l rs)
    list_sound = all_from_in (Sound l rs) (tracks_of c l rs) (λ t i. sound l rs t (all_in (Admissible l rs) (tracks_of c l rs) t list.only i))

    -- every admissible track stands among those that end at its last pose
    pub in_ending : (v : ℕ) (t : Track) → Admissible l rs t → get_or t 0 0 ≡ v → In t (ending c l rs v)
    in_ending v t h e = in_kept (λ u. eqb (get_or u 0 0) v) (tracks_of c l rs) t (list.every t h) (eq-eqb _ _ e)

    pub ending_in : (v : ℕ) (t : Track) → In t (ending c l rs v) → Admissible l rs t × (get_or t 0 0 ≡ v)
    ending_in v t i =
        let k = in_kept_from (λ u. eqb (get_or u 0 0) v) (tracks_of c l rs) t i in
        (all_in (Admissible l rs) (tracks_of c l rs) t list.only k.0, eqb-true _ _ k.1)

    -- what ends at a pose is of the list
    pub ending_listed : (v : ℕ) (t : Track) → In t (ending c l rs v) → In t (tracks_of c l rs)
    ending_listed v t i = (in_kept_from (λ u. eqb (get_or u 0 0) v) (tracks_of c l rs) t i).0

    pub ending_sound : (v : ℕ) → AllByRecursion (Sound l rs) (ending c l rs v)
    ending_sound v = all_from_in (Sound l rs) (ending c l rs v) (λ t i. sound l rs t (ending_in v t i).0)

    pub ending_ascends : (v : ℕ) → Ascending (peel c rs) (ending c l rs v)
    ending_ascends v = ascending_kept (peel c rs) (λ u. eqb (get_or u 0 0) v) (tracks_of c l rs) list.ordered

    pub at_ending : (v i : ℕ) → i < length (ending c l rs v) → Admissible l rs (get_or (ending c l rs v) i []) × (get_or (get_or (ending c l rs v) i []) 0 0 ≡ v)
    at_ending v i h = ending_in v (get_or (ending c l rs v) i []) (in_get_or (ending c l rs v) i [] h)

    -- each rank has a track of its own
    pub rank_once : (v i j : ℕ) → i < length (ending c l rs v) → j < length (ending c l rs v) → get_or (ending c l rs v) i [] ≡ get_or (ending c l rs v) j [] → i ≡ j
    rank_once v = place_once R same (ending c l rs v) [] (ending_sound v) (ending_ascends v)

    -- a lower rank comes first
    pub rank_rises : (v i j : ℕ) → i ≤ j → j < length (ending c l rs v) → is_le (peel c rs (get_or (ending c l rs v) i []) (get_or (ending c l rs v) j [])) ≡ true
    rank_rises v i j h k =
        ap is_le (by_place R same (ending c l rs v) [] (ending_sound v) (ending_ascends v) i j (omega arith) k) ∙ le_rank i j h

  module _ (r : Rung) (rs : Ladder) (n128 : length (r ∷ rs) ≤ 128) where
    -- what holds of each track that ends at pose u
    pub ending_at : (u : ℕ) (t : Track) → In t (ending c l (r ∷ rs) u) → EndsAt c l r rs u t
    ending_at u t i = let h = ending_in (r ∷ rs) n128 u t i in ends_at c l b r rs u t h.0 h.1

    -- and of that of rank i there
    pub rank_at : (u i : ℕ) → i < length (ending c l (r ∷ rs) u) → EndsAt c l r rs u (get_or (ending c l (r ∷ rs) u) i [])
    rank_at u i h = ending_at u (get_or (ending c l (r ∷ rs) u) i []) (in_get_or (ending c l (r ∷ rs) u) i [] h)

    -- its cost is reached by one price for each rung but the first
    pub rank_reached : (n u i : ℕ) → length rs ≤ n → i < length (ending c l (r ∷ rs) u) → Reached c n (cost c (r ∷ rs) (get_or (ending c l (r ∷ rs) u) i []))
    rank_reached n u i k h = reached_more c (length rs) n _ k (rank_at u i h).reached

    -- the tracks of the list are those that end at the poses of the last rung
    pub listed_ends : (t : Track) → In t (tracks_of c l (r ∷ rs)) ↔ ((u : ℕ) × (u < length r) × In t (ending c l (r ∷ rs) u))
    listed_ends t = (fore, λ x. ending_listed (r ∷ rs) n128 x.0 t x.2)
      where
        fore : In t (tracks_of c l (r ∷ rs)) → (u : ℕ) × (u < length r) × In t (ending c l (r ∷ rs) u)
        fore i =
            let h = all_in (Admissible l (r ∷ rs)) (tracks_of c l (r ∷ rs)) t (list (r ∷ rs) n128).only i in
            (get_or t 0 0, (ends_at c l b r rs (get_or t 0 0) t h refl).there, in_ending (r ∷ rs) n128 (get_or t 0 0) t h refl)

    -- each track of the list has a pose and a rank
    pub listed_rank : (j : ℕ) → j < length (tracks_of c l (r ∷ rs)) → (u : ℕ) × (u < length r) × ((i : ℕ) × (i < length (ending c l (r ∷ rs) u)) × (get_or (tracks_of c l (r ∷ rs)) j [] ≡ get_or (ending c l (r ∷ rs) u) i []))
    listed_rank j h =
        let x = (listed_ends (get_or (tracks_of c l (r ∷ rs)) j [])).0 (in_get_or (tracks_of c l (r ∷ rs)) j [] h) in
        let p = in_place (ending c l (r ∷ rs) x.0) (get_or (tracks_of c l (r ∷ rs)) j []) [] x.2 in
        (x.0, x.1, (p.0, p.1, sym p.2))

  -- on one rung each pose ends one track
  pub single : (r : Rung) (v : ℕ) → v < length r → ending c l (r ∷ []) v ≡ (v ∷ []) ∷ []
  single r v hv =
      same_elements (R (r ∷ []) few) (same (r ∷ []) few) (ending c l (r ∷ []) v) ((v ∷ []) ∷ []) (ending_sound (r ∷ []) few v) (sound l (r ∷ []) (v ∷ []) alone, tt) (ending_ascends (r ∷ []) few v) (tt, tt) (λ t i. let h = ending_in (r ∷ []) few v t i in inl (no_other t h.0 h.1)) back
    where
      few : length (r ∷ []) ≤ 128
      few = omega arith

      alone : Admissible l (r ∷ []) (v ∷ [])
      alone = record { some_rung = omega arith; numbered = and_from (ltb v (length r)) true (lt-ltb v (length r) hv) refl; moved = refl }

      no_other : (t : Track) → Admissible l (r ∷ []) t → get_or t 0 0 ≡ v → v ∷ [] ≡ t
      no_other [] h e = absurd (false≢true h.numbered)
      no_other (j ∷ []) h e = ap (λ n. n ∷ []) (sym e)
      no_other (j ∷ k ∷ t) h e = absurd (false≢true (and_parts (ltb j (length r)) _ h.numbered).1)

      back : (t : Track) → In t ((v ∷ []) ∷ []) → In t (ending c l (r ∷ []) v)
      back t (inl e) = subst (λ u. In u (ending c l (r ∷ []) v)) e (in_ending (r ∷ []) few v (v ∷ []) alone refl)
      back t (inr i) = absurd i
