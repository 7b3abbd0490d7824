-- The code is that of the table, which shows the cause.
use Rattle.walrus_c.proofs.Common.{sha256}
use Rattle.walrus_c.proofs.Shown.{shows_why}
use Rattle.walrus_c.proofs.walrus_code.Goals as goal

pub returns-clause-why : goal.returns-clause-why
returns-clause-why c = rw c.code_of.ensures (shows_why sha256 c.args.status c.args.output.now)
