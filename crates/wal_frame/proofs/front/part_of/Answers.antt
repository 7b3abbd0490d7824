use Rattle.wal_frame.proofs.StreamLaws.{part_here}
use Rattle.wal_frame.proofs.front.part_of.Goals as goal

pub returns-then-bytes-eq-ENVELOPE-clause-begins : goal.returns-then-bytes-eq-ENVELOPE-clause-begins
returns-then-bytes-eq-ENVELOPE-clause-begins c = part_here c.args.bytes.now c.if-bytes-eq-ENVELOPE.true c.requires
