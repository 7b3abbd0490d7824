-- The bytes that were taken are the first ones of the slice, and the count of faults never fell.
use Rattle.wal_serve.proofs.Common.{length, ◌-◌, ◌≤◌, take, Consumes}
use Rattle.wal_serve.proofs.taking.fill_all.Given as goal

abbrev pub invariant-pieces : goal.invariant-pieces
invariant-pieces g l = record {
  within : l.done ≤ length l.into;
  taken : Consumes (g.S.Source.left l.initial.source) (g.S.Source.left l.source) (take l.done l.into);
  later : g.S.Source.faults l.initial.source ≤ g.S.Source.faults l.source;
}

abbrev pub decreases-pieces : goal.decreases-pieces
decreases-pieces g l = length l.into - l.done
