-- The letters, the maps, the header's fields and a record keep to the layout.
use Rattle.std.proofs.Common.{◌≡◌, ℕ, zero, suc, ◌+◌, ◌*◌, ◌<◌, ◌≤◌, Bool, true, false, not, ◌&&◌, ◌||◌, eqb, List, [], ◌∷◌, length, get_or, take, drop, ℤ, is_some, IfSome, Some, None, Option, sym, refl, ap, ◌∙◌, subst, ⊎_elim, add-zero, arith, w16, SFits}
use Rattle.std.specs.List.{flat_map, AllByRecursion}
use Rattle.std.proofs.lemmas.Bool.Decides.{nat_tests}
use Rattle.std.proofs.lemmas.List.{get_or-drop}
use Rattle.std.proofs.lemmas.List.Prefix.{at_reads, at_from_reads}
use Rattle.std.proofs.lemmas.Bool.{eqb-true, and_parts, or_cases, cases_lt, both_ways, not_from_true}
use Rattle.job.specs.declared.faults.Question.TheVariants.{Letters, Map, Whole, Range}
use Rattle.ladder.specs.declared.poses.Limits.{Limits}
use Rattle.job.specs.declared.values.Arm.{Arm}
use Rattle.ladder.specs.declared.poses.Pose.{Pose}
use Rattle.job.specs.Bytes.{byte_at, word_at, poses_of_bytes, pose_bytes, between, stands, lacks, bit}
use Rattle.job.specs.Contents.{Entry, Head}
use Rattle.job.specs.Layout.{has, lettered, the_letters, a_map, a_word, a_number, a_signed, a_count, a_length, a_part, entry_map, entry_pieces, head_map, head_pieces, EntryFits, HeadFits}
use Rattle.job.specs.Reading.{only, via, byte, word, signed, chunk, ranged, poses, note, entry, to_entry, letters_at, letters, limits, to_limits, arm, to_arm, ration, heading, to_head}
use Rattle.job.proofs.Laws.{Lawful, fits_opt, fits_in, lawful_again, under_lawful, via_lawful, opt_lawful, pair_lawful}
use Rattle.job.proofs.Fields.{Tested, tested_lawful, only_lawful}
use Rattle.job.proofs.Basics.{room, byte_tested, word_tested, signed_tested, part_tested, list_tested, PoseFits, length_spelled, via_whole}

abbrev tlad : List ℕ
tlad = 84 ∷ (76 ∷ (65 ∷ (68 ∷ [])))

letters_tested : Tested 4 (λ s p. tt {0}) (λ a. tlad) (λ a. Unit {0}) letters_at lettered
letters_tested = record {
  size = λ a f. refl;
  same = λ s p h.
      let r = room s p 4 h in
      let a : get_or (drop p s) 0 0 ≡ get_or s p 0 = get_or-drop p s 0 0 ∙ ap (λ k. get_or s k 0) (add-zero p) in
      let b = get_or-drop p s 1 0 in
      let c = get_or-drop p s 2 0 in
      let d = get_or-drop p s 3 0 in
      cc (r, a, b, c, d);
  reads = λ s p bs h t.
      let is : (p + 4 ≤ length s) × (get_or s p 0 ≡ 84) × (get_or s (p + 1) 0 ≡ 76) × (get_or s (p + 2) 0 ≡ 65) × (get_or s (p + 3) 0 ≡ 68) = grind (arith, nat_tests) in
      (is.0, tt, at_from_reads 0 s tlad p is.0 (λ i b. letter s p i b is.1 is.2 is.3 is.4));
  says = λ s p a rest h f e.
      let le = fits_in s tlad rest p h e in
      let t : get_or s p 0 ≡ 84 = rw add-zero at (at_reads 0 s tlad p rest e 0 (omega arith)) in
      let u = at_reads 0 s tlad p rest e 1 (omega arith) in
      let v = at_reads 0 s tlad p rest e 2 (omega arith) in
      let w = at_reads 0 s tlad p rest e 3 (omega arith) in
      (grind (arith, nat_tests), refl);
  some = (tt, tt);
}
  where
    letter : (s : List ℕ) (p i : ℕ) → i < 4 → get_or s p 0 ≡ 84 → get_or s (p + 1) 0 ≡ 76 → get_or s (p + 2) 0 ≡ 65 → get_or s (p + 3) 0 ≡ 68 → get_or s (p + i) 0 ≡ get_or tlad i 0
    letter s p zero b t u v w = rw add-zero t
    letter s p (suc zero) b t u v w = u
    letter s p (suc (suc zero)) b t u v w = v
    letter s p (suc (suc (suc zero))) b t u v w = w
    letter s p (suc (suc (suc (suc i)))) b t u v w = absurd (omega arith)

letters_lawful : Lawful letters (λ a. the_letters ∷ []) (λ a. Unit {0})
letters_lawful = tested_lawful Letters letters_tested

byte_moved : (s : List ℕ) (p : ℕ) → byte_at (drop p s) 0 ≡ byte_at s p
byte_moved s p = get_or-drop p s 0 0 ∙ ap (λ k. get_or s k 0) (add-zero p)

word_moved : (s : List ℕ) (p : ℕ) → word_at (drop p s) 0 ≡ word_at s p
word_moved s p =
    let a = byte_moved s p in
    let b : get_or (drop p s) (0 + 1) 0 ≡ get_or s (p + 1) 0 = get_or-drop p s 1 0 in
    cc (a, b)

map_lawful : (mask : ℕ) → lacks mask 0 ≡ true → Lawful (only Map (lacks mask) byte) (λ m. a_map mask m ∷ []) (λ m. (m < 256) × (lacks mask m ≡ true))
map_lawful mask z = only_lawful Whole Map byte_tested (lacks mask) byte_moved (0, omega arith, z)

byte_lawful : Lawful byte (λ n. a_length n ∷ []) (λ n. n < 256)
byte_lawful = tested_lawful Whole byte_tested

count_lawful : Lawful (only Range (between 1 16) byte) (λ n. a_count n ∷ []) (λ n. (n < 256) × (between 1 16 n ≡ true))
count_lawful = only_lawful Whole Range byte_tested (between 1 16) byte_moved (1, omega arith, refl)

word_lawful : Lawful word (λ n. a_word n ∷ []) (λ n. n < 65536)
word_lawful = tested_lawful Whole word_tested

signed_lawful : Lawful signed (λ z. a_signed z ∷ []) (SFits w16)
signed_lawful = tested_lawful Whole signed_tested

ranged_lawful : (low high : ℕ) → between low high 1 ≡ true → Lawful (ranged low high) (λ n. a_number low high n ∷ []) (λ n. (n < 65536) × (between low high n ≡ true))
ranged_lawful low high z = only_lawful Whole Range word_tested (between low high) word_moved (1, omega arith, z)

-- a pose list after its count
abbrev PosesFit : List Pose → Type 0
PosesFit l = (1 ≤ length l) × (length l ≤ 16) × AllByRecursion PoseFits l

list_lawful : (n : ℕ) → Lawful (via (λ c. poses_of_bytes c.1) (chunk (n * 4))) (λ l. record { bytes = flat_map pose_bytes l; asks = has (n * 4) ∷ [] } ∷ []) (λ l. (length l ≡ n) × AllByRecursion PoseFits l)
list_lawful n = lawful_again _ _ _ (λ s p. sym (via_whole (λ c. poses_of_bytes c.1) (n * 4) (λ t q. (q, take (n * 4) (drop q t))) s p)) (λ a w. refl) (λ a w. w) (λ a w. w) (tested_lawful Whole (list_tested n))

poses_lawful : Lawful poses (λ l. a_count (length l) ∷ (a_part (flat_map pose_bytes l) ∷ [])) PosesFit
poses_lawful = lawful_again poses (λ l. a_count (length l) ∷ (a_part (flat_map pose_bytes l) ∷ [])) PosesFit (λ s p. refl)
    (λ l w. ap (λ k. a_count (length l) ∷ (record { bytes = flat_map pose_bytes l; asks = has k ∷ [] } ∷ [])) (sym (length_spelled l)))
    (λ l w. grind (arith, nat_tests))
    (λ l w. ((omega (arith, w.1), grind (arith, nat_tests)), (refl, w.2)))
    (under_lawful length count_lawful list_lawful (λ n l u v. v.0))

-- a note after its length
abbrev NoteFits : List ℕ → Type 0
NoteFits l = (length l < 256) × AllByRecursion (λ b. b < 256) l

part_lawful : (n : ℕ) → Lawful (via (λ c. c.1) (chunk n)) (λ l. record { bytes = l; asks = has n ∷ [] } ∷ []) (λ l. (length l ≡ n) × AllByRecursion (λ b. b < 256) l)
part_lawful n = lawful_again _ _ _ (λ s p. sym (via_whole (λ c. c.1) n (λ t q. (q, take n (drop q t))) s p)) (λ a w. refl) (λ a w. w) (λ a w. w) (tested_lawful Whole (part_tested n))

note_lawful : Lawful note (λ l. a_length (length l) ∷ (a_part l ∷ [])) NoteFits
note_lawful = lawful_again note (λ l. a_length (length l) ∷ (a_part l ∷ [])) NoteFits (λ s p. refl) (λ l w. refl)
    (λ l w. (w.0, w.1.1)) (λ l w. (w.0, (refl, w.1)))
    (under_lawful length byte_lawful part_lawful (λ n l u v. v.0))

-- a test that passes at each number below n
abbrev below : (ℕ → Bool) → ℕ → Bool
below t zero = true
below t (suc n) = t n && below t n

at_below : (t : ℕ → Bool) (n k : ℕ) → below t n ≡ true → k < n → t k ≡ true
at_below t zero k b h = absurd (omega arith)
at_below t (suc n) k b h =
    let two = and_parts (t n) (below t n) b in
    ⊎_elim (λ l. at_below t n k two.1 l) (λ g. let e : n ≡ k = omega arith in subst (λ m. t m ≡ true) e two.0) (cases_lt k n)

-- a map with no bit of the mask is told by its other bits
by_table : (mask : ℕ) (sum : ℕ → ℕ) → below (λ m. not (lacks mask m) || eqb (sum m) m) 256 ≡ true → (m : ℕ) → m < 256 → lacks mask m ≡ true → sum m ≡ m
by_table mask sum t m h e =
    ⊎_elim (λ n. absurd (both_ways (not (lacks mask m)) (not_from_true (lacks mask m) e) n)) (λ y. eqb-true (sum m) m y)
    (or_cases (not (lacks mask m)) (eqb (sum m) m) (at_below (λ k. not (lacks mask k) || eqb (sum k) k) 256 m t h))

entry_bits : (m : ℕ) → m < 256 → lacks 240 m ≡ true → bit (stands m 1) 1 + bit (stands m 2) 2 + bit (stands m 4) 4 + bit (stands m 8) 8 ≡ m
entry_bits m h e = by_table 240 (λ k. bit (stands k 1) 1 + bit (stands k 2) 2 + bit (stands k 4) 4 + bit (stands k 8) 8) refl m h e

head_bits : (m : ℕ) → m < 256 → lacks 248 m ≡ true → bit (stands m 1) 1 + bit (stands m 2) 2 + bit (stands m 4) 4 ≡ m
head_bits m h e = by_table 248 (λ k. bit (stands k 1) 1 + bit (stands k 2) 2 + bit (stands k 4) 4) refl m h e

some_is : {A : Type 0} (b : Bool) (P : A → Type 0) (o : Option A) → fits_opt b P o → is_some o ≡ b
some_is b P None w = sym w
some_is b P (Some a) w = sym w.0

-- a value that is there or not fits, whatever bit says so
found_from : {A : Type 0} (b : Bool) (P : A → Type 0) (o : Option A) → fits_opt b P o → IfSome o P
found_from b P None w = tt
found_from b P (Some a) w = w.1

fits_from : {A : Type 0} (b : Bool) (P : A → Type 0) (o : Option A) → is_some o ≡ b → IfSome o P → fits_opt b P o
fits_from b P None e f = sym e
fits_from b P (Some a) e f = (sym e, f)

-- the map of a record has the bit of each value that is there, and no other
record EntryTold (a b c d : Bool) (m : ℕ) : Type 0 where
  small : m < 256
  clear : lacks 240 m ≡ true
  first : a ≡ stands m 1
  second : b ≡ stands m 2
  third : c ≡ stands m 4
  fourth : d ≡ stands m 8

entry_told : (a b c d : Bool) → EntryTold a b c d (bit a 1 + bit b 2 + bit c 4 + bit d 8)
entry_told true true true true = record { small = omega arith; clear = refl; first = refl; second = refl; third = refl; fourth = refl }
entry_told true true true false = record { small = omega arith; clear = refl; first = refl; second = refl; third = refl; fourth = refl }
entry_told true true false true = record { small = omega arith; clear = refl; first = refl; second = refl; third = refl; fourth = refl }
entry_told true true false false = record { small = omega arith; clear = refl; first = refl; second = refl; third = refl; fourth = refl }
entry_told true false true true = record { small = omega arith; clear = refl; first = refl; second = refl; third = refl; fourth = refl }
entry_told true false true false = record { small = omega arith; clear = refl; first = refl; second = refl; third = refl; fourth = refl }
entry_told true false false true = record { small = omega arith; clear = refl; first = refl; second = refl; third = refl; fourth = refl }
entry_told true false false false = record { small = omega arith; clear = refl; first = refl; second = refl; third = refl; fourth = refl }
entry_told false true true true = record { small = omega arith; clear = refl; first = refl; second = refl; third = refl; fourth = refl }
entry_told false true true false = record { small = omega arith; clear = refl; first = refl; second = refl; third = refl; fourth = refl }
entry_told false true false true = record { small = omega arith; clear = refl; first = refl; second = refl; third = refl; fourth = refl }
entry_told false true false false = record { small = omega arith; clear = refl; first = refl; second = refl; third = refl; fourth = refl }
entry_told false false true true = record { small = omega arith; clear = refl; first = refl; second = refl; third = refl; fourth = refl }
entry_told false false true false = record { small = omega arith; clear = refl; first = refl; second = refl; third = refl; fourth = refl }
entry_told false false false true = record { small = omega arith; clear = refl; first = refl; second = refl; third = refl; fourth = refl }
entry_told false false false false = record { small = omega arith; clear = refl; first = refl; second = refl; third = refl; fourth = refl }

record HeadTold (a b c : Bool) (m : ℕ) : Type 0 where
  small : m < 256
  clear : lacks 248 m ≡ true
  first : a ≡ stands m 1
  second : b ≡ stands m 2
  third : c ≡ stands m 4

head_told : (a b c : Bool) → HeadTold a b c (bit a 1 + bit b 2 + bit c 4)
head_told true true true = record { small = omega arith; clear = refl; first = refl; second = refl; third = refl }
head_told true true false = record { small = omega arith; clear = refl; first = refl; second = refl; third = refl }
head_told true false true = record { small = omega arith; clear = refl; first = refl; second = refl; third = refl }
head_told true false false = record { small = omega arith; clear = refl; first = refl; second = refl; third = refl }
head_told false true true = record { small = omega arith; clear = refl; first = refl; second = refl; third = refl }
head_told false true false = record { small = omega arith; clear = refl; first = refl; second = refl; third = refl }
head_told false false true = record { small = omega arith; clear = refl; first = refl; second = refl; third = refl }
head_told false false false = record { small = omega arith; clear = refl; first = refl; second = refl; third = refl }

-- a record
abbrev from_entry : Entry → Option ℤ × (Option ℤ × (Option (List Pose) × Option (List ℕ)))
from_entry e = (e.x, (e.y, (e.poses, e.note)))

pub entry_lawful : Lawful entry entry_pieces EntryFits
entry_lawful = lawful_again entry entry_pieces EntryFits (λ s p. refl) (λ e w. refl)
    (λ e w.
    let m = entry_map e in
    let v = w.1.0 in
    record {
      x = found_from (stands m 1) (SFits w16) e.x v.0;
      y = found_from (stands m 2) (SFits w16) e.y v.1.0;
      poses = found_from (stands m 4) PosesFit e.poses v.1.1.0;
      note = found_from (stands m 8) NoteFits e.note v.1.1.1;
    })
    (λ e w.
    let m = entry_map e in
    let t = entry_told (is_some e.x) (is_some e.y) (is_some e.poses) (is_some e.note) in (
      (t.small, t.clear),
      (
        (
          fits_from (stands m 1) (SFits w16) e.x t.first w.x,
          (
            fits_from (stands m 2) (SFits w16) e.y t.second w.y,
            (
              fits_from (stands m 4) PosesFit e.poses t.third w.poses,
              fits_from (stands m 8) NoteFits e.note t.fourth w.note,
            ),
          ),
        ),
        refl,
      ),
    ))
    (under_lawful entry_map (map_lawful 240 refl)
    (λ m. via_lawful to_entry from_entry (λ c. refl)
    (pair_lawful (opt_lawful signed_lawful (stands m 1)) (pair_lawful (opt_lawful signed_lawful (stands m 2)) (pair_lawful (opt_lawful poses_lawful (stands m 4)) (opt_lawful note_lawful (stands m 8))))))
    (λ m e u v.
    let x = some_is (stands m 1) (SFits w16) e.x v.0.0 in
    let y = some_is (stands m 2) (SFits w16) e.y v.0.1.0 in
    let z = some_is (stands m 4) PosesFit e.poses v.0.1.1.0 in
    let n = some_is (stands m 8) NoteFits e.note v.0.1.1.1 in
    let told : entry_map e ≡ bit (stands m 1) 1 + bit (stands m 2) 2 + bit (stands m 4) 4 + bit (stands m 8) 8 = cc (x, y, z, n) in
    told ∙ entry_bits m u.0 u.1))

-- step limits
abbrev LimitsFit : Limits → Type 0
LimitsFit l = (l.shoulder < 65536) × (l.elbow < 65536)

limits_lawful : Lawful limits (λ l. a_word l.shoulder ∷ (a_word l.elbow ∷ [])) LimitsFit
limits_lawful = lawful_again limits _ LimitsFit (λ s p. refl) (λ l w. refl) (λ l w. w.0) (λ l w. (w, refl))
    (via_lawful to_limits (λ l. (l.shoulder, l.elbow)) (λ c. refl) (pair_lawful word_lawful word_lawful))

-- the arm's numbers
abbrev ArmFits : Arm → Type 0
ArmFits a = (1 ≤ a.first) × (a.first ≤ 2000) × (1 ≤ a.second) × (a.second ≤ 2000) × (a.window ≤ 2000)

arm_lawful : Lawful arm (λ a. a_number 1 2000 a.first ∷ (a_number 1 2000 a.second ∷ (a_number 0 2000 a.window ∷ []))) ArmFits
arm_lawful = lawful_again arm _ ArmFits (λ s p. refl) (λ a w. refl)
    (λ a w. grind (arith, nat_tests))
    (λ a w. grind (arith, nat_tests))
    (via_lawful to_arm (λ a. (a.first, (a.second, a.window))) (λ c. refl) (pair_lawful (ranged_lawful 1 2000 refl) (pair_lawful (ranged_lawful 1 2000 refl) (ranged_lawful 0 2000 refl))))

-- the ration
abbrev RationFits : ℕ → Type 0
RationFits k = (1 ≤ k) × (k ≤ 4096)

ration_lawful : Lawful ration (λ k. a_number 1 4096 k ∷ []) RationFits
ration_lawful = lawful_again ration _ RationFits (λ s p. refl) (λ k w. refl)
    (λ k w. grind (arith, nat_tests))
    (λ k w. grind (arith, nat_tests))
    (ranged_lawful 1 4096 refl)

-- the header with the count of records
abbrev from_head : Head × ℕ → Option Limits × (Option Arm × (Option ℕ × ℕ))
from_head c = (c.0.limits, (c.0.arm, (c.0.ration, c.1)))

pub heading_lawful : Lawful heading (λ c. head_pieces c.0 c.1) (λ c. HeadFits c.0 × (c.1 ≤ 128))
heading_lawful = lawful_again heading (λ c. head_pieces c.0 c.1) (λ c. HeadFits c.0 × (c.1 ≤ 128)) (λ s p. refl) (λ c w. refl)
    (λ c w.
    let m = head_map c.0 in
    let v = w.1.0 in (
      record {
        limits = found_from (stands m 1) LimitsFit c.0.limits v.0;
        arm = found_from (stands m 2) ArmFits c.0.arm v.1.0;
        ration = found_from (stands m 4) RationFits c.0.ration v.1.1.0;
      },
      grind (arith, nat_tests),
    ))
    (λ c w.
    let m = head_map c.0 in
    let t = head_told (is_some c.0.limits) (is_some c.0.arm) (is_some c.0.ration) in (
      (tt, (t.small, t.clear)),
      (
        (
          fits_from (stands m 1) LimitsFit c.0.limits t.first w.0.limits,
          (
            fits_from (stands m 2) ArmFits c.0.arm t.second w.0.arm,
            (
              fits_from (stands m 4) RationFits c.0.ration t.third w.0.ration,
              (omega (arith, w.1), grind (arith, nat_tests)),
            ),
          ),
        ),
        refl,
      ),
    ))
    (under_lawful (λ c. head_map c.0) (under_lawful (λ m. tt) letters_lawful (λ u. map_lawful 248 refl) (λ a b u v. refl))
    (λ m. via_lawful to_head from_head (λ c. refl)
    (pair_lawful (opt_lawful limits_lawful (stands m 1)) (pair_lawful (opt_lawful arm_lawful (stands m 2)) (pair_lawful (opt_lawful ration_lawful (stands m 4)) (ranged_lawful 0 128 refl)))))
    (λ m c u v.
    let x = some_is (stands m 1) LimitsFit c.0.limits v.0.0 in
    let y = some_is (stands m 2) ArmFits c.0.arm v.0.1.0 in
    let z = some_is (stands m 4) RationFits c.0.ration v.0.1.1.0 in
    let told : head_map c.0 ≡ bit (stands m 1) 1 + bit (stands m 2) 2 + bit (stands m 4) 4 = cc (x, y, z) in
    told ∙ head_bits m u.1.0 u.1.1))
