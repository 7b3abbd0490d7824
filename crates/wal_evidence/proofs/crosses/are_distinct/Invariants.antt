-- The numbers so far are distinct, and marked.
use Rattle.wal_evidence.proofs.Common.{take, Distinct, Marks}
use Rattle.wal_evidence.proofs.crosses.are_distinct.Given as goal

abbrev pub invariant-loop-number : goal.invariant-loop-number
invariant-loop-number l =
    record {
      marks : Marks l.seen (take l.number-index l.numbers);
      distinct : Distinct (take l.number-index l.numbers);
    }
