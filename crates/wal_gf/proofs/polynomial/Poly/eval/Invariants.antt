use Rattle.wal_gf.proofs.Common.{◌≡◌, drop, evaluate, words_of}
use Rattle.wal_gf.proofs.polynomial.Poly.eval.Given as goal

-- the value of the higher coefficients
abbrev pub invariant-loop-place : goal.invariant-loop-place
invariant-loop-place l = l.value.0 ≡ evaluate (words_of (drop l.place l.self-inside.coefficients.items)) l.x.0
