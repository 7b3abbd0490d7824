-- The bytes that were taken are those that the source lost, no more than the limit,
-- and the count of faults never fell.
use Rattle.wal_port.proofs.Common.{◌+◌, ◌-◌, ◌≤◌, vec_len, Consumes}
use Rattle.wal_port.proofs.transfers.take_all.Given as goal

abbrev pub invariant-reads : goal.invariant-reads
invariant-reads g l = record {
  within : vec_len l.bytes ≤ l.most;
  taken : Consumes (g.S.Source.left l.initial.source) (g.S.Source.left l.source) l.bytes.items;
  later : g.S.Source.faults l.initial.source ≤ g.S.Source.faults l.source;
}

abbrev pub decreases-reads : goal.decreases-reads
decreases-reads g l = (l.most + 1) - vec_len l.bytes
