use Rattle.wal_reader.proofs.HeardLaws.{two_still}
use Rattle.wal_reader.proofs.longest.most.Goals as goal

pub returns-in-One-clause-past : goal.returns-in-One-clause-past
returns-in-One-clause-past c = λ digest id payloads payload was fit short long.
    rw c.in-One.is (c.longest_beside.ensures.past digest id payloads payload (rw c.in-One.is at was) fit long)

pub returns-in-Two-clause-past : goal.returns-in-Two-clause-past
returns-in-Two-clause-past c = λ digest id payloads payload was fit short long.
    rw c.in-Two.is (two_still digest id c.in-Two.field-0 payloads payload (rw c.in-Two.is at was))
