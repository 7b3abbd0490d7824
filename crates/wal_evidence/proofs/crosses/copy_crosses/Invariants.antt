-- The crosses so far are copied.
use Rattle.wal_evidence.proofs.Common.{◌≡◌, take, proof_shown, crosses_of}
use Rattle.wal_evidence.proofs.crosses.copy_crosses.Given as goal

abbrev pub invariant-loop-place : goal.invariant-loop-place
invariant-loop-place l = take l.place l.crosses ≡ crosses_of (take l.place (proof_shown l.p).openings)
