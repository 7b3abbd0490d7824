-- A proof of bad encoding: openings of one sliver.
use Rattle.std.specs.Prelude.{ℕ, ◌≤◌, List, length}
use Rattle.std.specs.List.{AllByRecursion}
use Rattle.wal_shape.specs.declared.axis.Axis.{Axis}
use Rattle.wal_shape.specs.declared.opening.Opening.{Opening}
use Rattle.wal_shape.specs.Opening.{IsBody}

-- the axis and the index of the sliver, and openings of its symbols
pub record EncodingProof : Type 0 where
  pub axis : Axis
  pub index : ℕ
  pub openings : List Opening

-- the proofs that have a spelling
pub record IsProof (proof : EncodingProof) : Type 0 where
  pub index : proof.index ≤ 999
  pub count : length proof.openings ≤ 1000
  pub bodies : AllByRecursion IsBody proof.openings
