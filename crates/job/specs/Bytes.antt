-- Numbers as bytes, low byte first, and maps as bits.
use Rattle.std.specs.Prelude.{ℕ, zero, suc, ◌+◌, ◌*◌, ◌/◌, ◌%◌, Bool, if◌then◌else◌, not, ◌&&◌, List, [], ◌∷◌, ◌++◌, length, ℤ, ◌==◌, bit_and, nat_le, slice_index}
use Rattle.std.proofs.Common.{to_z, of_z}
use Rattle.std.specs.Int.{w16}
use Rattle.ladder.specs.declared.poses.Pose.{Pose}

-- The byte at place p.
abbrev pub byte_at : List ℕ → ℕ → ℕ
byte_at s p = slice_index s p

-- The unsigned number of the two bytes at place p.
abbrev pub word_at : List ℕ → ℕ → ℕ
word_at s p = slice_index s p + slice_index s (p + 1) * 256

-- The signed number of the two bytes at place p.
abbrev pub signed_word_at : List ℕ → ℕ → ℤ
signed_word_at s p = to_z w16 (word_at s p)

-- The pose of the four bytes at place p, the shoulder first.
abbrev pub pose_at : List ℕ → ℕ → Pose
pose_at s p = record { shoulder = signed_word_at s p; elbow = signed_word_at s (p + 2) }

-- The n poses from place p on.
abbrev pub poses_at : List ℕ → ℕ → ℕ → List Pose
poses_at s p zero = []
poses_at s p (suc n) = pose_at s p ∷ poses_at s (p + 4) n

-- The poses that some bytes are, four bytes each.
abbrev pub poses_of_bytes : List ℕ → List Pose
poses_of_bytes l = poses_at l 0 (length l / 4)

-- The two bytes of an unsigned number.
abbrev pub word_bytes : ℕ → List ℕ
word_bytes n = n % 256 ∷ (n / 256 ∷ [])

-- The two bytes of a signed number.
abbrev pub signed_bytes : ℤ → List ℕ
signed_bytes z = word_bytes (of_z w16 z)

-- The four bytes of a pose.
abbrev pub pose_bytes : Pose → List ℕ
pose_bytes c = signed_bytes c.shoulder ++ signed_bytes c.elbow

-- Is n a number from low to high?
abbrev pub between : ℕ → ℕ → ℕ → Bool
between low high n = nat_le low n && nat_le n high

-- Is the bit of weight w set in the map m?
abbrev pub stands : ℕ → ℕ → Bool
stands m w = not (bit_and m w == 0)

-- Has the map m no bit of the mask?
abbrev pub lacks : ℕ → ℕ → Bool
lacks mask m = bit_and m mask == 0

-- A bit of weight w, if it is set.
abbrev pub bit : Bool → ℕ → ℕ
bit b w = if b then w else 0
