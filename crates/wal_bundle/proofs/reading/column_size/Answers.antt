use Rattle.wal_bundle.proofs.Common.{arith, metadata_shown}
use Rattle.wal_bundle.proofs.Truths.{four_bytes}
use Rattle.wal_bundle.proofs.reading.column_size.Goals as goal

pub returns-clause-some : goal.returns-clause-some
returns-clause-some c =
    let m = metadata_shown c.args.m in
    let size = rw c.shape.ensures.value at c.sliver_len.ensures.value in
    omega (arith, c.from.ensures, size, four_bytes m.f m.length c.shape.ensures.metadata.shape)
