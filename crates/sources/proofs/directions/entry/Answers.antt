use Rattle.std.proofs.Common.{◌≡◌, ℕ, ◌%◌, ℤ, map, pos, slice_index_or, refl, ◌∙◌, arith, rules}
use native.Mathlib.Nat.{mod-mod}
use Rattle.std.specs.List.{range_with_len}
use Rattle.std.proofs.lemmas.List.FromFn.{get_or-map-range_with_len}
use Rattle.std.proofs.lemmas.Nat.{mod_below}
use Rattle.sources.specs.Directions.{sine}
use Rattle.sources.proofs.directions.entry.Goals as goal

-- the table has the sines of the first turn, and whole turns make no difference
from_table : (n : ℤ) (d : ℕ) → n ≡ slice_index_or (map sine (range_with_len 0 64)) (d % 64) (pos 0) → n ≡ sine d
from_table n d e =
    let whole_turns : sine (d % 64) ≡ sine d = rw (mod-mod d 64) refl in
    e ∙ get_or-map-range_with_len sine 0 64 (d % 64) (d % 64) (pos 0) (mod_below d 64 (omega arith)) (omega arith) ∙ whole_turns

pub returns : goal.returns
returns c = from_table _ c.args.direction (search rules)
