-- A record's fields entered into a waypoint one by one.
use Rattle.std.proofs.Common.{◌≡◌, [], ℤ, Some, None, Option, refl}
use Rattle.std.specs.List.{fold}
use Rattle.std.specs.Option.{option_map, option_to_list}
use Rattle.job.specs.declared.cursor.Part.{Part}
use Rattle.job.specs.declared.records.Record.{Record}
use Rattle.job.specs.declared.values.Position.{Position}
use Rattle.job.specs.Resolved.{Waypoint, waypoint}
use Rattle.job.specs.Rows.{entered}
use Rattle.job.specs.Views.{a_note, unhanded, part_v, record_v}

-- a waypoint with no poses
abbrev pub bare : Position → Waypoint
bare p = record { position = p; poses = [] }

the_note : (v : Waypoint) (o : Option Part) → fold entered v (option_to_list (option_map (λ p. a_note (part_v p)) o)) ≡ v
the_note v None = refl
the_note v (Some p) = refl

-- all of them entered in order are the waypoint of the record
pub all_entered : (p : Position) (f : Record) → fold entered (bare p) (unhanded f) ≡ waypoint p (record_v f)
all_entered p f = held f.x f.y f.poses f.note
  where
    held : (x y : Option ℤ) (l n : Option Part)
        → fold entered (bare p) (unhanded (record { x = x; y = y; poses = l; note = n })) ≡ waypoint p (record_v (record { x = x; y = y; poses = l; note = n }))
    held None None None n = the_note _ n
    held None None (Some l) n = the_note _ n
    held None (Some y) None n = the_note _ n
    held None (Some y) (Some l) n = the_note _ n
    held (Some x) None None n = the_note _ n
    held (Some x) None (Some l) n = the_note _ n
    held (Some x) (Some y) None n = the_note _ n
    held (Some x) (Some y) (Some l) n = the_note _ n
