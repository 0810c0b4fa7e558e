-- Text written into a slice. Assumes nothing.
use Rattle.std.specs.Prelude.{◌≡◌, ℕ, ◌+◌, ◌^◌, ◌<◌, List, [], ◌∷◌, length, slice_set}
use Rattle.listing.specs.declared.text.Text.{Text}

-- the bytes put over those of xs from place i on; what would pass the end is left out
abbrev pub overlaid : List ℕ → ℕ → List ℕ → List ℕ
overlaid xs i [] = xs
overlaid xs i (b ∷ bs) = overlaid (slice_set xs i b) (i + 1) bs

-- the text t was followed by the bytes bs, in the same lent places, and is then the text u; a count of 2^64 or more is out of reach
pub record Wrote (bs : List ℕ) (t u : Text) : Type 0 where
  pub lender : u.out.ghost_name ≡ t.out.ghost_name
  pub within : t.len + length bs < 2 ^ 64 → (u.len ≡ t.len + length bs) × (u.out.now ≡ overlaid t.out.now t.len bs)
