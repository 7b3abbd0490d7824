use Rattle.wal_frame.proofs.Common.{arith, opening_shown, length-body_text}
use Rattle.wal_frame.proofs.reading.body_size.Goals as goal

pub returns-clause-size : goal.returns-clause-size
returns-clause-size c = omega (arith, length-body_text (opening_shown c.args.opening))
