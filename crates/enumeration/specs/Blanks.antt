-- Records to fill a new table with. Assumes nothing.
use Rattle.std.specs.Prelude.{false, pos}
use Rattle.enumeration.specs.declared.records.Station.{Station}
use Rattle.enumeration.specs.declared.records.Ranked.{Ranked}
use Rattle.enumeration.specs.declared.records.Candidate.{Candidate}
use Rattle.enumeration.specs.declared.records.Back.{Back}

-- a station with nothing found and nothing waiting
abbrev pub blank_station : Station
blank_station = record { pose = record { shoulder = pos 0; elbow = pos 0 }; waiting = 0; found = 0; last = record { 0 = 0 }; pending = false }

-- a back-pointer to the first rank at pose 0
abbrev pub blank_back : Back
blank_back = record { pose = record { 0 = 0 }; rank = record { 0 = 0 } }

-- a found track of cost v
abbrev pub blank_track : {C : Type 0} → C → Ranked C
blank_track v = record { cost = v; pose = record { 0 = 0 }; rank = record { 0 = 0 }; back = blank_back; front = record { 0 = 0 }; after = record { 0 = 0 } }

-- a candidate of cost v
abbrev pub blank_candidate : {C : Type 0} → C → Candidate C
blank_candidate v = record { whole = v; front = v; back = blank_back; place = record { 0 = 0 } }
