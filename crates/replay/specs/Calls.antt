-- The run that a list of calls and the record of their answers and outputs tell of. Assumes nothing.
use Rattle.std.specs.Prelude.{◌≡◌, ℕ, ◌+◌, ◌≤◌, if◌then◌else◌, List, [], ◌∷◌, length, take, drop, Some, None, Option, Ok, Err, Result, nat_le}
use Rattle.std.specs.List.{slice_get}
use Rattle.std.specs.Option.{option_map}
use Rattle.ladder.specs.declared.poses.Step.{Step}
use Rattle.ladder.specs.Rules.{Rules}
use Rattle.ladder.specs.Tracks.{Rung}
use Rattle.book.specs.Book.{Filter, add, close, next, seek, counted, given, refused}
use Rattle.book.specs.Book as book
use Rattle.book.specs.Runs.{Event}
use Rattle.resolver.specs.Answers.{number}
use Rattle.resolver.specs.declared.answers.Refusal.{Refusal}
use Rattle.resolver.specs.Calls.{Makes}
use Rattle.resolver.specs.declared.tables.Core.{Core}
use Rattle.replay.specs.declared.calls.Call.{Call}
use Rattle.replay.specs.declared.calls.Call.TheVariants.{Add, Close, Next, Seek}
use Rattle.replay.specs.declared.calls.Reply.{Reply}
use Rattle.replay.specs.declared.calls.Reply.TheVariants.{Counted, Given}

-- an answer as the record holds it: a reply or a refusal
abbrev pub Recorded : Type 0 → Type 0
Recorded C = Result (Reply C) Refusal

-- a recorded answer
abbrev pub told : {C : Type 0} → Recorded C → book.Answer C
told (Ok (Counted n)) = counted n
told (Ok (Given t)) = given t.number t.cost
told (Err e) = refused (number e)

-- how many output places a call brings
abbrev pub places : Call → ℕ
places (Add i w) = 0
places Close = 0
places (Next n) = n
places (Seek j n) = n

-- how many the calls bring together
abbrev pub all_places : List Call → ℕ
all_places [] = 0
all_places (c ∷ cs) = places c + all_places cs

-- what the sources and the filters mean, by their numbers
module _ (meanings : List (ℕ → Rung)) (filters : List Filter) where
  -- the event that a call is, where it answered a, and the outputs that are left held `before` and then `after`, of which it takes the first places; none where it names what is not there
  abbrev pub named : {C : Type 0} → Call → book.Answer C → List Step → List Step → Option (Event C)
  named (Add i w) a before after = option_map (λ (m : ℕ → Rung). record { call = add (m w); answer = a; output = [] }) (slice_get meanings i)
  named Close a before after = Some (record { call = close; answer = a; output = [] })
  named (Next n) a before after = Some (record { call = next (take n before); answer = a; output = take n after })
  named (Seek j n) a before after = option_map (λ (f : Filter). record { call = seek f (take n before); answer = a; output = take n after }) (slice_get filters j)

  -- none too where too few places are left for its output
  abbrev pub event : {C : Type 0} → Call → book.Answer C → List Step → List Step → Option (Event C)
  event c a before after = if nat_le (places c) (length before) then named c a before after else None

  -- an event, if there is one, before those of the calls after it; none ends the run
  abbrev pub followed : {C : Type 0} → Option (Event C) → List (Event C) → List (Event C)
  followed None es = []
  followed (Some e) es = e ∷ es

  -- the run: each call that is made, with its answer and its output, up to the first that is not made or has no place for its answer
  abbrev pub events : {C : Type 0} → List Call → List (Recorded C) → List Step → List Step → List (Event C)
  events [] ys before after = []
  events (c ∷ cs) [] before after = []
  events (c ∷ cs) (a ∷ ys) before after = followed (event c (told a) before after) (events cs ys (drop (places c) before) (drop (places c) after))

  -- what making one call comes to, from the resolver k to the resolver m
  abbrev pub Made : {C P : Type 0} → Rules C P → Call → Core C → List Step → Option (Recorded C) → List Step → Core C → Type 0
  Made {C} r c k before None after m = ((a : book.Answer C) (o : List Step) → event c a before o ≡ None) × (after ≡ before)
  Made {C} r c k before (Some a) after m =
      (e : Event C) × (event c (told a) before after ≡ Some e) × Makes r k e m × (places c ≤ length before) × (drop (places c) after ≡ drop (places c) before)
