-- So many bytes were taken, and the count of faults never fell.
use Rattle.wal_serve.proofs.Common.{◌≡◌, ℕ, List, length, ◌-◌, ◌<◌, ◌≤◌, Consumes}
use Rattle.wal_serve.proofs.taking.skip_all.Given as goal

abbrev pub invariant-pieces : goal.invariant-pieces
invariant-pieces g l = record {
  within : l.done ≤ l.size;
  some : 0 < length l.scratch;
  taken : (got : List ℕ) × Consumes (g.S.Source.left l.initial.source) (g.S.Source.left l.source) got × (length got ≡ l.done);
  later : g.S.Source.faults l.initial.source ≤ g.S.Source.faults l.source;
}

abbrev pub decreases-pieces : goal.decreases-pieces
decreases-pieces g l = l.size - l.done
