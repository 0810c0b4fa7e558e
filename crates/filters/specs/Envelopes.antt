-- What an envelope passes, and when one is made. Assumes nothing.
use Rattle.std.specs.Prelude.{ℕ, Bool, if◌then◌else◌, ◌&&◌, List, ℤ, Ok, Err, Result, int_le}
use Rattle.std.specs.List.{list_all}
use Rattle.std.specs.Result.{result_map_both}
use Rattle.ladder.specs.declared.poses.Pose.{Pose}
use Rattle.ladder.specs.declared.poses.Step.{Step}
use Rattle.filters.specs.declared.envelopes.Span.{Span}
use Rattle.filters.specs.declared.envelopes.Refusal.{Refusal}
use Rattle.filters.specs.declared.envelopes.Refusal.TheVariants.{LowAboveHigh}

-- a count lies between a span's ends, which count in
abbrev pub within : Span → ℤ → Bool
within s z = int_le s.low z && int_le z s.high

-- a pose has its shoulder within the first span and its elbow within the second
abbrev pub both_within : Span → Span → Pose → Bool
both_within s e p = within s p.shoulder && within e p.elbow

-- each step has such a pose
abbrev pub keeps_within : Span → Span → List Step → Bool
keeps_within s e steps = list_all (λ p. both_within s e p.pose) steps

-- the number of a refusal
abbrev pub refusal_number : Refusal → ℕ
refusal_number LowAboveHigh = 16

-- what a making answered: an envelope by its spans, or a refusal by its number
abbrev pub made : {E : Type 0} → (E → Span × Span) → Result E Refusal → Result (Span × Span) ℕ
made spans answered = result_map_both spans refusal_number answered

-- two spans whose lows are at most their highs are made an envelope, and others are refused
abbrev pub due : Span → Span → Result (Span × Span) ℕ
due s e = if int_le s.low s.high && int_le e.low e.high then Ok (s, e) else Err 16
