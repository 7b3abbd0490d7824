-- Which columns of a bundle payloads show.
use Rattle.std.specs.Prelude.{◌≡◌, ◌⊎◌, ℕ, ◌+◌, ◌*◌, ◌<◌, ◌≤◌, List, length}
use Rattle.wal_kernel.specs.Region.{region}
use Rattle.wal_shape.specs.declared.axis.Axis.TheVariants.{Secondary}
use Rattle.wal_shape.specs.Metadata.{BlobMetadata}
use Rattle.wal_matrix.specs.Matrix.{secondary_of}
use Rattle.wal_reader.specs.Carried.{IsFirstHeldSliver, NoHeldSliver, openings_in}
use Rattle.wal_recover.specs.Recovery.{OpeningsComeTo}
use Rattle.wal_recover.specs.declared.outcome.Recovered.TheVariants.{Sliver}

-- these are the bytes of column j: those of the first held secondary sliver of this index, or, if
-- there is none, those of the sliver that the openings give
abbrev pub IsColumn : (List ℕ → List ℕ) → List ℕ → BlobMetadata → List (List ℕ) → ℕ → List ℕ
    → Type 0
IsColumn digest id metadata payloads j bytes =
    IsFirstHeldSliver digest id metadata Secondary j payloads bytes
    ⊎ (NoHeldSliver digest id metadata Secondary j payloads
    × OpeningsComeTo digest metadata Secondary j
    (openings_in id Secondary j payloads) (Sliver bytes))

-- these are the bytes of column j of a matrix
abbrev pub IsOwnColumn : ℕ → ℕ → List ℕ → ℕ → List ℕ → Type 0
IsOwnColumn f size extended j bytes = bytes ≡ secondary_of f size extended j

-- a column is missing
abbrev pub IsMissing : (ℕ → List ℕ → Type 0) → ℕ → Type 0
IsMissing Column j = (bytes : List ℕ) → Column j bytes → ⊥

-- these are the bytes of `count` columns from column `from` on, one after the other
pub record AreColumns (Column : ℕ → List ℕ → Type 0)
    (size from count : ℕ) (bytes : List ℕ) : Type 0 where
  pub long : length bytes ≡ count * size
  pub each : (j : ℕ) → j < count → Column (from + j) (region size bytes j)

-- j is the first missing column from `from` on and before `end`
pub record IsFirstMissing (Column : ℕ → List ℕ → Type 0) (from end j : ℕ) : Type 0 where
  pub after : from ≤ j
  pub before : j < end
  pub missing : IsMissing Column j
  pub there : (i : ℕ) → from ≤ i → i < j → (bytes : List ℕ) × Column i bytes
