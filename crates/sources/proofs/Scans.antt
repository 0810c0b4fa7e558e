-- One turn more of a scan for poses. Assumes nothing.
use Rattle.std.proofs.Common.{◌≡◌, ℕ, ◌+◌, ◌≤◌, Bool, true, false, cond, [], ◌∷◌, ◌++◌, map, fold, sym, refl, ap, ◌∙◌, arith}
use Rattle.std.specs.List.{range_with_len, flat_map}
use Rattle.std.proofs.iter.runs.Lists.{fold-append}
use Rattle.std.proofs.lemmas.List.FromFn.{map-range_with_len_more}
use Rattle.std.proofs.lemmas.List.Elements.{filter-append}
use Rattle.std.proofs.lemmas.List.{map-id, map-append, flat_map_more}
use Rattle.job.specs.declared.values.Arm.{Arm}
use Rattle.job.specs.declared.values.Position.{Position}
use Rattle.ladder.specs.declared.poses.Pose.{Pose}
use Rattle.sources.specs.declared.pages.Page.{Page}
use Rattle.sources.specs.Reach.{reaching_pose, pose, row, rows}
use Rattle.sources.specs.Pages.{with_pose}

counting_more : (n : ℕ) → range_with_len 0 (n + 1) ≡ range_with_len 0 n ++ (n ∷ [])
counting_more n = sym (map-id (range_with_len 0 (n + 1))) ∙ map-range_with_len_more (λ k. k) 0 n n (omega arith) ∙ ap (λ xs. xs ++ (n ∷ [])) (map-id (range_with_len 0 n))

one_row : (s e : ℕ) (b : Bool) → map (pose s) (cond b (e ∷ []) []) ≡ cond b (pose s e ∷ []) []
one_row s e true = refl
one_row s e false = refl

put_one : (g : Page) (p : Pose) (b : Bool) → fold with_pose g (cond b (p ∷ []) []) ≡ cond b (with_pose g p) g
put_one g p true = refl
put_one g p false = refl

pub row_none : (a : Arm) (at : Position) (s : ℕ) → row a at s 0 ≡ []
unfolding row
row_none a at s = refl

pub rows_none : (a : Arm) (at : Position) → rows a at 0 ≡ []
unfolding rows
rows_none a at = refl

row_push : (a : Arm) (at : Position) (s e : ℕ) → row a at s (e + 1) ≡ row a at s e ++ cond (reaching_pose a at s e) (pose s e ∷ []) []
unfolding row
row_push a at s e = simp (counting_more, filter-append, map-append, one_row) refl

rows_push : (a : Arm) (at : Position) (s : ℕ) → rows a at (s + 1) ≡ rows a at s ++ row a at s 64
unfolding rows
rows_push a at s = sym (flat_map_more (λ u. row a at u 64) [] (range_with_len 0 s) s ∙ ap (flat_map (λ u. row a at u 64)) (sym (counting_more s)))

module _ (a : Arm) (at : Position) (g h k : Page) where
  -- an elbow e more: h was the page before and k is the page then
  pub row_more : (s e : ℕ) → k ≡ cond (reaching_pose a at s e) (with_pose h (pose s e)) h → h ≡ fold with_pose g (row a at s e)
      → k ≡ fold with_pose g (row a at s (e + 1))
  row_more s e put before = simp (row_push, fold-append, put_one, sym before) put

  -- a shoulder s more
  pub rows_more : (s : ℕ) → h ≡ fold with_pose g (rows a at s) → k ≡ fold with_pose h (row a at s 64)
      → k ≡ fold with_pose g (rows a at (s + 1))
  rows_more s before put = simp (rows_push, fold-append, sym before) put

-- a page's count rises by one at most
pub count_more : (g k : Page) (p : Pose) (b : Bool) → k ≡ cond b (with_pose g p) g → k.count ≤ g.count + 1
count_more g k p true e = omega (arith, ap (λ x. x.count) e)
count_more g k p false e = omega (arith, ap (λ x. x.count) e)
