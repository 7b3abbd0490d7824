-- Matrices whose rows are all the same are the same.
use Rattle.wal_extract.proofs.Common.{arith, symbol_size-least}
use Rattle.wal_extract.proofs.OneIdentifier.{rows_all}
use Rattle.wal_extract.proofs.matrices.first_row_apart.Goals as goal

pub unreachable-requires : goal.unreachable-requires
unreachable-requires c =
    let r = c.requires in
    let some = (symbol_size-least c.args.a.now.shape.f c.args.a.now.shape.length).positive in
    let all = rw c.shape.ensures at c.n-index-end.ensures.value in
    r.differ (rows_all _ _ _ _ r.shape r.long_a r.long_b (omega (arith, some))
    (λ i below. c.loop-index.invariant i (omega (arith, all, below, c.loop-index-test.false))))
