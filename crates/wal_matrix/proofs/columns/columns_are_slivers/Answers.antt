use Rattle.wal_matrix.proofs.ColumnLaws.{secondary_of_blob}
use Rattle.wal_matrix.proofs.columns.columns_are_slivers.Goals as goal

pub returns : goal.returns
returns c = secondary_of_blob
