-- The rows so far have their coefficients.
use Rattle.wal_code.proofs.Common.{◌≡◌, length}
use Rattle.wal_code.proofs.Tables.{HasRows}
use Rattle.wal_code.proofs.coefficients.Coeffs.new.Given as goal

abbrev pub invariant-loop-point : goal.invariant-loop-point
invariant-loop-point l = (length l.weights ≡ length l.known) × HasRows l.known l.wanted l.point-index l.table.items
