use Rattle.wal_reader.proofs.Common.{take_all}
use Rattle.wal_reader.proofs.openings.openings_in.Goals as goal

pub returns : goal.returns
returns c =
    rw (c.from_vec.ensures, c.loop-payload.invariant, take_all _ _ c.loop-payload-test.false)
    (rw c.as_slice-payload-items.ensures)
