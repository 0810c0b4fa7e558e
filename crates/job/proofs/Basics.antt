-- The fields of a job file: bytes, numbers, parts and pose lists.
use Rattle.std.proofs.Common.{◌≡◌, ℕ, zero, suc, ◌+◌, ◌*◌, ◌/◌, ◌%◌, ◌<◌, ◌≤◌, Bool, true, false, cond, leb, List, [], ◌∷◌, ◌++◌, length, get_or, take, drop, replicate, ℤ, pos, sym, refl, ap, ◌∙◌, add-zero, add_assoc, arith, w16, SFits, to_z, of_z}
use mir.Facts.{sfits_to_z}
use Rattle.std.specs.List.{flat_map, AllByRecursion}
use Rattle.std.proofs.lemmas.Grind.{common_steps}
use Rattle.std.proofs.lemmas.List.{length-append, length-drop, length-take-le, take-append-drop, drop-drop, drop_more, take_at, append-nil, drop_all, length-replicate}
use Rattle.std.proofs.ByRecursion.{All-from_get_or}
use Rattle.std.proofs.lemmas.List.Prefix.{at_reads}
use Rattle.std.proofs.lemmas.Int.{to_z-of_z, of_z-to_z}
use Rattle.std.proofs.lemmas.Bool.{leb-true, le-leb}
use Rattle.job.specs.declared.faults.Question.TheVariants.{Whole}
use Rattle.ladder.specs.declared.poses.Pose.{Pose}
use Rattle.job.specs.Bytes.{byte_at, word_at, signed_word_at, poses_at, poses_of_bytes, word_bytes, signed_bytes, pose_bytes}
use Rattle.job.specs.Reading.{got, fault, and_then, whole, via}
use Rattle.job.proofs.Laws.{Bytes, fits_in, next}
use Rattle.job.proofs.Fields.{Tested}

-- is there room for k bytes at p?
pub room : (s : List ℕ) (p k : ℕ) → p ≤ length s → leb k (length (drop p s)) ≡ leb (p + k) (length s)
room s p k h = grind (arith, common_steps)

-- a field of k bytes is there where there is room
module _ {A : Type 0} (k : ℕ) (value : List ℕ → ℕ → A) (spell : A → List ℕ) (fit : A → Type 0)
    (size : (a : A) → fit a → length (spell a) ≡ k)
    (reads : (s : List ℕ) (p : ℕ) → Bytes s → p + k ≤ length s → fit (value s p) × (drop p s ≡ spell (value s p) ++ drop (p + k) s))
    (says : (s : List ℕ) (p : ℕ) (a : A) (rest : List ℕ) → fit a → drop p s ≡ spell a ++ rest → value s p ≡ a)
    (some : (a : A) × fit a) where
  pub whole_tested : Tested k value spell fit (λ s p. leb (p + k) (length s)) (λ rest. leb k (length rest))
  whole_tested = record {
    size = size;
    same = λ s p h. room s p k h;
    reads = λ s p bs h t. let l = leb-true (p + k) (length s) t in let r = reads s p bs l in (l, r.0, r.1);
    says = λ s p a rest h f e. (le-leb (p + k) (length s) (omega (arith, fits_in s (spell a) rest p h e, size a f)), says s p a rest f e);
    some = some;
  }

pub byte_tested : Tested 1 byte_at (λ n. n ∷ []) (λ n. n < 256) (λ s p. leb (p + 1) (length s)) (λ rest. leb 1 (length rest))
byte_tested = whole_tested 1 byte_at (λ n. n ∷ []) (λ n. n < 256) (λ a f. refl)
    (λ s p bs h. (bs p, drop_more s p 0 (omega arith)))
    (λ s p a rest f e. rw add-zero at (at_reads 0 s (a ∷ []) p rest e 0 (omega arith)))
    (1, omega arith)

-- two bytes of a number
word_reads : (s : List ℕ) (p : ℕ) → Bytes s → p + 2 ≤ length s → (word_at s p < 65536) × (drop p s ≡ word_bytes (word_at s p) ++ drop (p + 2) s)
word_reads s p bs h =
    let a : p < length s = omega arith in
    let b : p + 1 < length s = omega arith in
    let lo : get_or s p 0 ≡ word_at s p % 256 = omega (arith, bs p, bs (p + 1)) in
    let hi : get_or s (p + 1) 0 ≡ word_at s p / 256 = omega (arith, bs p, bs (p + 1)) in (
      omega (arith, bs p, bs (p + 1)),
      drop_more s p 0 a ∙ ap (λ t. get_or s p 0 ∷ t) (drop_more s (p + 1) 0 b ∙ ap (λ k. get_or s (p + 1) 0 ∷ drop k s) (add_assoc p 1 1))
          ∙ ap (λ v. v ∷ (get_or s (p + 1) 0 ∷ drop (p + 2) s)) lo ∙ ap (λ v. word_at s p % 256 ∷ (v ∷ drop (p + 2) s)) hi,
    )

word_says : (s : List ℕ) (p n : ℕ) (rest : List ℕ) → n < 65536 → drop p s ≡ word_bytes n ++ rest → word_at s p ≡ n
word_says s p n rest f e =
    let lo : get_or s p 0 ≡ n % 256 = rw add-zero at (at_reads 0 s (word_bytes n) p rest e 0 (omega arith)) in
    let hi : get_or s (p + 1) 0 ≡ n / 256 = at_reads 0 s (word_bytes n) p rest e 1 (omega arith) in
    omega (arith, lo, hi)

pub word_tested : Tested 2 word_at word_bytes (λ n. n < 65536) (λ s p. leb (p + 2) (length s)) (λ rest. leb 2 (length rest))
word_tested = whole_tested 2 word_at word_bytes (λ n. n < 65536) (λ a f. refl) word_reads word_says (1, omega arith)

of_z_small : (z : ℤ) → SFits w16 z → of_z w16 z < 65536
of_z_small z f = search (arith, f)

signed_reads : (s : List ℕ) (p : ℕ) → Bytes s → p + 2 ≤ length s → SFits w16 (signed_word_at s p) × (drop p s ≡ signed_bytes (signed_word_at s p) ++ drop (p + 2) s)
signed_reads s p bs h =
    let u = word_reads s p bs h in
    (sfits_to_z (record { fits = u.0 }), u.1 ∙ ap (λ n. word_bytes n ++ drop (p + 2) s) (sym (of_z-to_z w16 (word_at s p) u.0)))

signed_says : (s : List ℕ) (p : ℕ) (z : ℤ) (rest : List ℕ) → SFits w16 z → drop p s ≡ signed_bytes z ++ rest → signed_word_at s p ≡ z
signed_says s p z rest f e = ap (to_z w16) (word_says s p (of_z w16 z) rest (of_z_small z f) e) ∙ to_z-of_z w16 z f

pub signed_tested : Tested 2 signed_word_at signed_bytes (SFits w16) (λ s p. leb (p + 2) (length s)) (λ rest. leb 2 (length rest))
signed_tested = whole_tested 2 signed_word_at signed_bytes (SFits w16) (λ a f. refl) signed_reads signed_says (pos 0, record { sfits = omega arith })

-- a part of n bytes
pub bytes_part : (s : List ℕ) (p n : ℕ) → Bytes s → Bytes (take n (drop p s))
bytes_part s p n bs i = grind (arith, common_steps)

abbrev pub part_at : ℕ → List ℕ → ℕ → List ℕ
part_at n s p = take n (drop p s)

part_size_is : (s : List ℕ) (p n : ℕ) → p + n ≤ length s → length (take n (drop p s)) ≡ n
part_size_is s p n h = length-take-le n (drop p s) (omega (arith, length-drop p s))

part_rest : (s : List ℕ) (p n : ℕ) → drop p s ≡ take n (drop p s) ++ drop (p + n) s
part_rest s p n = sym (take-append-drop n (drop p s)) ∙ ap (λ x. take n (drop p s) ++ x) (drop-drop n p s)

pub part_tested : (n : ℕ) → Tested n (part_at n) (λ l. l) (λ l. (length l ≡ n) × AllByRecursion (λ b. b < 256) l) (λ s p. leb (p + n) (length s)) (λ rest. leb n (length rest))
part_tested n = whole_tested n (part_at n) (λ l. l) (λ l. (length l ≡ n) × AllByRecursion (λ b. b < 256) l) (λ a f. f.0)
    (λ s p bs h. ((part_size_is s p n h, All-from_get_or (λ b. b < 256) (take n (drop p s)) 0 (λ i l. bytes_part s p n bs i)), part_rest s p n))
    (λ s p a rest f e. ap (take n) e ∙ take_at a rest n f.0)
    (replicate n 0, (length-replicate n 0, all_zero n))
  where
    all_zero : (m : ℕ) → AllByRecursion (λ b. b < 256) (replicate m 0)
    all_zero zero = tt
    all_zero (suc m) = (omega arith, all_zero m)

-- the poses of a list
abbrev pub PoseFits : Pose → Type 0
PoseFits c = SFits w16 c.shoulder × SFits w16 c.elbow

poses_read : (n : ℕ) (s : List ℕ) (p : ℕ) → Bytes s → p + n * 4 ≤ length s → AllByRecursion PoseFits (poses_at s p n) × (drop p s ≡ flat_map pose_bytes (poses_at s p n) ++ drop (p + n * 4) s)
poses_read zero s p bs h = (tt, ap (λ k. drop k s) (let e : p ≡ p + 0 * 4 = omega arith in e))
poses_read (suc n) s p bs h =
    let a = signed_reads s p bs (omega arith) in
    let b = signed_reads s (p + 2) bs (omega arith) in
    let r = poses_read n s (p + 4) bs (omega arith) in
    let two : p + 2 + 2 ≡ p + 4 = omega arith in
    let end : p + 4 + n * 4 ≡ p + suc n * 4 = omega arith in
    let x = signed_bytes (signed_word_at s p) in
    let y = signed_bytes (signed_word_at s (p + 2)) in (
      ((a.0, b.0), r.0),
      a.1 ∙ ap (λ l. x ++ l) (b.1 ∙ ap (λ k. y ++ drop k s) two ∙ ap (λ l. y ++ l) (r.1 ∙ ap (λ k. flat_map pose_bytes (poses_at s (p + 4) n) ++ drop k s) end)),
    )

poses_say : (l : List Pose) (s : List ℕ) (p : ℕ) (rest : List ℕ) → AllByRecursion PoseFits l → drop p s ≡ flat_map pose_bytes l ++ rest → poses_at s p (length l) ≡ l
poses_say [] s p rest f e = refl
poses_say (c ∷ l) s p rest f e =
    let x = signed_bytes c.shoulder in
    let y = signed_bytes c.elbow in
    let m = flat_map pose_bytes l ++ rest in
    let e₀ : drop p s ≡ x ++ (y ++ m) = e in
    let e₁ : drop (p + 2) s ≡ y ++ m = next s x (y ++ m) p e₀ in
    let e₂ : drop (p + 2 + 2) s ≡ m = next s y m (p + 2) e₁ in
    let two : p + 2 + 2 ≡ p + 4 = omega arith in
    let a = signed_says s p c.shoulder (y ++ m) f.0.0 e₀ in
    let b = signed_says s (p + 2) c.elbow m f.0.1 e₁ in
    let r = poses_say l s (p + 4) rest f.1 (ap (λ k. drop k s) (sym two) ∙ e₂) in
    ap (λ z. record { shoulder = z; elbow = signed_word_at s (p + 2) } ∷ poses_at s (p + 4) (length l)) a
    ∙ ap (λ z. record { shoulder = c.shoulder; elbow = z } ∷ poses_at s (p + 4) (length l)) b
    ∙ ap (λ t. c ∷ t) r

pub length_poses : (s : List ℕ) (p n : ℕ) → length (poses_at s p n) ≡ n
length_poses s p zero = refl
length_poses s p (suc n) = ap suc (length_poses s (p + 4) n)

pub length_spelled : (l : List Pose) → length (flat_map pose_bytes l) ≡ length l * 4
length_spelled [] = refl
length_spelled (c ∷ l) = omega (arith, length_spelled l, length-append (pose_bytes c) (flat_map pose_bytes l))

-- the poses of a part of n times four bytes
abbrev pub list_at : ℕ → List ℕ → ℕ → List Pose
list_at n s p = poses_of_bytes (take (n * 4) (drop p s))

pub list_tested : (n : ℕ) → Tested (n * 4) (list_at n) (flat_map pose_bytes) (λ l. (length l ≡ n) × AllByRecursion PoseFits l) (λ s p. leb (p + n * 4) (length s)) (λ rest. leb (n * 4) (length rest))
list_tested n = whole_tested (n * 4) (list_at n) (flat_map pose_bytes) (λ l. (length l ≡ n) × AllByRecursion PoseFits l)
    (λ l f. length_spelled l ∙ ap (λ k. k * 4) f.0)
    (λ s p bs h.
    let t = take (n * 4) (drop p s) in
    let size : length t ≡ n * 4 = part_size_is s p (n * 4) h in
    let count : length t / 4 ≡ n = omega (arith, size) in
    let r = poses_read (length t / 4) t 0 (bytes_part s p (n * 4) bs) (omega (arith, size)) in
    let spelled : t ≡ flat_map pose_bytes (poses_of_bytes t) = r.1 ∙ ap (λ x. flat_map pose_bytes (poses_of_bytes t) ++ x) (drop_all (0 + length t / 4 * 4) t (omega (arith, size))) ∙ append-nil (flat_map pose_bytes (poses_of_bytes t)) in
    ((length_poses t 0 (length t / 4) ∙ count, r.0), part_rest s p (n * 4) ∙ ap (λ x. x ++ drop (p + n * 4) s) spelled))
    (λ s p l rest f e.
    let size : length (flat_map pose_bytes l) ≡ n * 4 = length_spelled l ∙ ap (λ k. k * 4) f.0 in
    let t : take (n * 4) (drop p s) ≡ flat_map pose_bytes l = ap (take (n * 4)) e ∙ take_at (flat_map pose_bytes l) rest (n * 4) size in
    let count : length (flat_map pose_bytes l) / 4 ≡ length l = omega (arith, size, f.0) in
    ap poses_of_bytes t ∙ ap (poses_at (flat_map pose_bytes l) 0) count ∙ poses_say l (flat_map pose_bytes l) 0 [] f.1 (sym (append-nil (flat_map pose_bytes l))))
    (replicate n (record { shoulder = pos 0; elbow = pos 0 }), (length-replicate n (record { shoulder = pos 0; elbow = pos 0 }), all_zero n))
  where
    all_zero : (m : ℕ) → AllByRecursion PoseFits (replicate m (record { shoulder = pos 0; elbow = pos 0 }))
    all_zero zero = tt
    all_zero (suc m) = ((record { sfits = omega arith }, record { sfits = omega arith }), all_zero m)

-- a field read as another value
pub via_whole : {A B : Type 0} (f : A → B) (k : ℕ) (value : List ℕ → ℕ → A) (s : List ℕ) (p : ℕ) → via f (whole k value) s p ≡ whole k (λ t q. f (value t q)) s p
via_whole {A} {B} f k value s p = held (leb (p + k) (length s))
  where
    held : (b : Bool) → and_then (cond b (got (value s p) (p + k)) (fault Whole p)) (λ a q. got (f a) q) ≡ cond b (got (f (value s p)) (p + k)) (fault Whole p)
    held true = refl
    held false = refl
