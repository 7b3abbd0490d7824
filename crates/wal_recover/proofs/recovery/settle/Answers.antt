use Rattle.wal_recover.proofs.Common.{◌≡◌, length, arith, sliver_symbols, metadata_shown}
use Rattle.wal_recover.proofs.OneRecovery.{enough}
use Rattle.wal_recover.proofs.recovery.settle.Goals as goal

pub solved-requires-clause-enough : goal.solved-requires-clause-enough
solved-requires-clause-enough g c =
    let digest = g.H.Hash32.digest in
    let m = metadata_shown c.args.m in
    let axis = c.args.axis in
    let taken = c.args.taken.items in
    let need = rw c.shape.ensures.value at c.symbol_count.ensures.value in
    let count : length taken ≡ sliver_symbols axis m.f =
    omega (arith, c.requires.taken.few, need, c.if-count-need.false, c.len-count.ensures, c.from-need.ensures) in
    rw c.from_vec.ensures (enough digest m axis c.args.index taken c.requires.taken count)
