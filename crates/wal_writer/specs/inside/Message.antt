-- What serves private functions and proofs beside Message.
use Rattle.std.specs.Prelude.{◌≡◌, ℕ, List}
use Rattle.wal_shape.specs.Shape.{BlobShape}
use Rattle.wal_commit.specs.Identifier.{Commits}
use Rattle.wal_writer.specs.Message.{Written}

-- the matrix has the metadata's shape, and the identifier commits the metadata
pub record IsWritten (digest : List ℕ → List ℕ)
    (shape : BlobShape) (written : Written) : Type 0 where
  pub shape_is : shape
      ≡ record {
        format = written.metadata.format;
        f = written.metadata.f;
        length = written.metadata.length;
      }
  pub commits : Commits digest written.id.0 written.metadata
