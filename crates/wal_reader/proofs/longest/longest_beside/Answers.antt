use Rattle.wal_reader.proofs.Common.{arith}
use Rattle.wal_reader.proofs.LongestLaws.{past_enough, past_known}
use Rattle.wal_reader.proofs.longest.longest_beside.Goals as goal

pub returns-then-has_enough-clause-past : goal.returns-then-has_enough-clause-past
returns-then-has_enough-clause-past c = λ digest id payloads payload was fit long.
    past_enough digest id c.args.known.now payloads payload (c.has_enough.ensures.0 c.if-has_enough.true) was fit long

pub returns-clause-past : goal.returns-clause-past
returns-clause-past c = λ digest id payloads payload was fit long.
    past_known digest id c.args.known.now payloads payload was fit (omega (arith, c.max.ensures, long))
    (omega (arith, rw c.view.ensures.value at c.longest_part.ensures, c.max.ensures, long))
