use Rattle.wal_gf.proofs.Common.{◌≡◌, ℕ, take, All, bit_xor, IsWord, times, evaluate, words_of}
use Rattle.wal_gf.proofs.polynomial.add_scaled.Given as goal

-- a multiple of the lower coefficients is added
abbrev pub invariant-loop-place : goal.invariant-loop-place
invariant-loop-place l = record {
  words : All IsWord (words_of l.target);
  value : (x : ℕ) → evaluate (words_of l.target) x
      ≡ bit_xor (evaluate (words_of l.initial.target) x) (times l.factor.0 (evaluate (words_of (take l.place l.other)) x));
}
