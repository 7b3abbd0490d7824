use Rattle.wal_frame.proofs.Common.{arith}
use Rattle.wal_frame.proofs.FieldLaws.{text_short}
use Rattle.wal_frame.proofs.reading.clash_of.Goals as goal

pub overflow_cast-left : goal.overflow_cast-left
overflow_cast-left c =
    let short = text_short 1 c.args.bytes.now (c.in_ok-left.left.now, c.in_ok-left.rest.now) c.in_ok-left.ensures in
    omega (arith, short)

pub overflow_add-left : goal.overflow_add-left
overflow_add-left c =
    let short = text_short 1 c.args.bytes.now (c.in_ok-left.left.now, c.in_ok-left.rest.now) c.in_ok-left.ensures in
    omega (arith, short)
