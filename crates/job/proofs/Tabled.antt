-- What the bytes of a pose list say.
use Rattle.std.proofs.Common.{◌≡◌, ℕ, zero, suc, ◌+◌, ◌*◌, ◌/◌, ◌<◌, ◌≤◌, List, [], length, get_or, take, drop, Some, None, refl, ap, ◌∙◌, arith}
use Rattle.std.proofs.lemmas.List.{drop-drop, get_or-take, get_or-drop}
use Rattle.std.proofs.lemmas.Option.{slice_get_past}
use Rattle.std.specs.List.{slice_get}
use Rattle.std.specs.Simd.{first_chunks}
use Rattle.job.specs.Bytes.{word_at, pose_at, poses_at, poses_of_bytes}
use Rattle.job.proofs.Basics.{length_poses}

pose_from : (s : List ℕ) (p n j : ℕ) → j < n → slice_get (poses_at s p n) j ≡ Some (pose_at s (p + 4 * j))
pose_from s p zero j h = absurd (omega arith)
pose_from s p (suc n) zero h = let e : p ≡ p + 4 * 0 = omega arith in ap (λ k. Some (pose_at s k)) e
pose_from s p (suc n) (suc j) h =
    let e : p + 4 + 4 * j ≡ p + 4 * suc j = omega arith in
    let l : j < n = omega arith in
    pose_from s (p + 4) n j l ∙ ap (λ k. Some (pose_at s k)) e

pub pose_is_at : (l : List ℕ) (j : ℕ) → j < length l / 4 → slice_get (poses_of_bytes l) j ≡ Some (pose_at l (4 * j))
pose_is_at l j h = let e : 0 + 4 * j ≡ 4 * j = omega arith in pose_from l 0 (length l / 4) j h ∙ ap (λ k. Some (pose_at l k)) e

pub pose_past : (l : List ℕ) (j : ℕ) → length l / 4 ≤ j → slice_get (poses_of_bytes l) j ≡ None
pose_past l j h = slice_get_past (poses_of_bytes l) j (omega (arith, length_poses l 0 (length l / 4)))

-- the chunks of four bytes that make the poses
chunk_at : (n : ℕ) (l : List ℕ) (j : ℕ) → j < n → get_or (first_chunks 4 n l) j [] ≡ take 4 (drop (4 * j) l)
chunk_at zero l j h = absurd (omega arith)
chunk_at (suc n) l zero h = refl
chunk_at (suc n) l (suc j) h =
    let e : 4 + 4 * j ≡ 4 * suc j = omega arith in
    chunk_at n (drop 4 l) j (omega arith) ∙ ap (take 4) (drop-drop (4 * j) 4 l ∙ ap (λ k. drop k l) e)

-- a chunk is read as the pose at its place
pub chunk_pose : (l t : List ℕ) (n j : ℕ) → j < n → t ≡ get_or (first_chunks 4 n l) j [] → pose_at t 0 ≡ pose_at l (4 * j)
chunk_pose l t n j h e =
    let reads : (i p : ℕ) → i < 4 → 4 * j + i ≡ p → get_or t i 0 ≡ get_or l p 0 =
    λ i p k q. ap (λ c. get_or c i 0) (e ∙ chunk_at n l j h) ∙ get_or-take 4 (drop (4 * j) l) i 0 k ∙ get_or-drop (4 * j) l i 0 ∙ ap (λ m. get_or l m 0) q in
    let first : word_at t 0 ≡ word_at l (4 * j) = omega (arith, reads 0 (4 * j) (omega arith) (omega arith), reads 1 (4 * j + 1) (omega arith) (omega arith)) in
    let second : word_at t 2 ≡ word_at l (4 * j + 2) = omega (arith, reads 2 (4 * j + 2) (omega arith) (omega arith), reads 3 (4 * j + 2 + 1) (omega arith) (omega arith)) in
    cc (first, second)
