-- One step of a count of reversals. Assumes nothing.
use Rattle.std.specs.Prelude.{◌+◌, Bool, false, if◌then◌else◌, ℤ, ◌-ℤ◌, Some, None, Option}
use Rattle.filters.specs.declared.turning.Tally.{Tally}
use Rattle.filters.specs.Turning.{moves, opposite}

-- a turn is opposite to the last, if there was one
abbrev pub turns_back : Option ℤ → ℤ → Bool
turns_back None d = false
turns_back (Some a) d = opposite a d

-- the shoulder goes on to s: no turn is dropped, and a turn counts where it is opposite to the last
abbrev pub gone_on : Tally → ℤ → Tally
gone_on t s = record {
  shoulder = s;
  turn = if moves (s -ℤ t.shoulder) then Some (s -ℤ t.shoulder) else t.turn;
  reversals = t.reversals + (if turns_back t.turn (s -ℤ t.shoulder) then 1 else 0);
}
