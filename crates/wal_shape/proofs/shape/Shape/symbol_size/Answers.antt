use Rattle.wal_shape.proofs.Common.{arith, rules, symbol_size}
use Rattle.wal_shape.proofs.ShapeLaws.{symbol_size-least, matrix_bytes-bound}
use Rattle.wal_shape.proofs.shape.Shape.symbol_size.Goals as goal

pub returns-clause-value : goal.returns-clause-value
unfolding symbol_size
returns-clause-value c = rw (c.max.ensures, c.div_ceil.ensures, c.from-words.ensures, c.rows.ensures.value, c.cols.ensures.value, ← c.self.view_is) (omega arith)

pub returns-clause-least : goal.returns-clause-least
returns-clause-least c = rw (returns-clause-value c) (symbol_size-least c.args.self.now.f c.args.self.now.length)

pub returns-clause-matrix : goal.returns-clause-matrix
returns-clause-matrix c = rw (returns-clause-value c) (matrix_bytes-bound c.args.self.now.f c.args.self.now.length (search rules))
