-- What a job file says: values that are there or not, and lists.
use Rattle.std.specs.Prelude.{ℕ, List, ℤ, Option}
use Rattle.ladder.specs.declared.poses.Limits.{Limits}
use Rattle.job.specs.declared.values.Arm.{Arm}
use Rattle.ladder.specs.declared.poses.Pose.{Pose}

-- One record: its position, its pose list and a note of bytes, each only if it is written.
pub record Entry : Type 0 where
  pub x : Option ℤ
  pub y : Option ℤ
  pub poses : Option (List Pose)
  pub note : Option (List ℕ)

-- What stands before the records: step limits, the arm's numbers and the ration.
pub record Head : Type 0 where
  pub limits : Option Limits
  pub arm : Option Arm
  pub ration : Option ℕ

-- A job.
pub record Contents : Type 0 where
  pub head : Head
  pub records : List Entry
