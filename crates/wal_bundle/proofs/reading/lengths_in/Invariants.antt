-- The lengths so far.
use Rattle.wal_bundle.proofs.Common.{◌≡◌, spelled_lengths}
use Rattle.wal_bundle.proofs.reading.lengths_in.Given as goal

abbrev pub invariant-loop-k : goal.invariant-loop-k
invariant-loop-k l = l.lengths.items ≡ spelled_lengths l.index l.k
