-- What the rows of a job's table stand for.
use Rattle.std.specs.Prelude.{List, [], take}
use Rattle.std.specs.Option.{unwrap_or, option_map}
use Rattle.job.specs.declared.rows.Row.{Row}
use Rattle.job.specs.declared.rows.Table.{Table}
use Rattle.job.specs.Bytes.{poses_of_bytes}
use Rattle.job.specs.Resolved.{Waypoint}
use Rattle.job.specs.Views.{Handed, an_x, a_y, a_list, a_note}

-- The waypoint of a row, whose pose list is empty where none is written.
abbrev pub row_v : Row → Waypoint
row_v r = record { position = r.position; poses = unwrap_or (option_map (λ b. poses_of_bytes b.now) r.poses) [] }

-- The rows of a table that are in use.
abbrev pub in_use : Table → List Row
in_use t = take t.len t.rows

-- A waypoint with one field of its record entered.
abbrev pub entered : Waypoint → Handed → Waypoint
entered v (an_x x) = record { position = record { x = x; y = v.position.y }; poses = v.poses }
entered v (a_y y) = record { position = record { x = v.position.x; y = y }; poses = v.poses }
entered v (a_list p) = record { position = v.position; poses = poses_of_bytes p.1 }
entered v (a_note p) = v
