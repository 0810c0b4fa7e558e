use Rattle.std.proofs.Common.{◌≡◌, ◌+◌, ◌≤◌, map, length}
use Rattle.job.specs.Rows.{row_v, in_use}
use Rattle.job.specs.Resolved.{origin}
use Rattle.job.proofs.Many.{prepend, rest}
use Rattle.job.proofs.table.read_rows.Given as goal

-- what is read, and then what is left to read, is the whole
abbrev pub invariant-loop-fields : goal.invariant-loop-fields
invariant-loop-fields l =
    (rest origin l.initial.records.left l.initial.records.cursor.file.now l.initial.records.cursor.at
    ≡ prepend (map row_v (in_use l.table)) (rest l.before l.records.left l.initial.records.cursor.file.now l.records.cursor.at))
    × (l.records.cursor.file ≡ l.initial.records.cursor.file)
    × (length (in_use l.table) + l.records.left ≤ 128)

abbrev pub decreases-loop-fields : goal.decreases-loop-fields
decreases-loop-fields l = l.records.left
