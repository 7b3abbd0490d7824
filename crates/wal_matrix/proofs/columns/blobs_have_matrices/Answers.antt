use Rattle.wal_matrix.proofs.Existence.{extended_exists}
use Rattle.wal_matrix.proofs.columns.blobs_have_matrices.Goals as goal

pub returns : goal.returns
returns c = extended_exists
