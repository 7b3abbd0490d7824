use Rattle.wal_matrix.proofs.MatrixLaws.{extended_unique}
use Rattle.wal_matrix.proofs.encoded.extend.Goals as goal

pub returns-clause-only : goal.returns-clause-only
returns-clause-only c = λ other is. extended_unique c.args.shape.now.f c.args.bytes.now other c.in_ok-cells.cells.items c.extended_cells.ensures.few is c.in_ok-cells.ensures.matrix
