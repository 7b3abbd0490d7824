-- The lengths so far.
use Rattle.wal_bundle.proofs.Common.{◌≡◌, take, lengths_of}
use Rattle.wal_bundle.proofs.lengths.lengths_of.Given as goal

abbrev pub invariant-loop-member : goal.invariant-loop-member
invariant-loop-member l = l.lengths.items ≡ lengths_of (take l.member-index l.members)
