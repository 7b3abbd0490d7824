use Rattle.wal_bundle.proofs.Common.{◌+◌, ◌*◌, arith, most_bytes}
use Rattle.wal_bundle.proofs.Room.{most_half}
use Rattle.wal_bundle.proofs.bundling.most_half.Goals as goal

pub returns-clause-most : goal.returns-clause-most
returns-clause-most c = λ t longer even.
    let cells = (c.from.result + 1) * (2 * c.from-2.result + 1) in
    rw (c.from.ensures, c.from-2.ensures) at (most_half cells most_bytes t (omega arith) longer even)
