use Rattle.wal_gf.proofs.Common.{◌≡◌, ◌<◌, times, power}
use Rattle.wal_gf.proofs.Gf.pow.Given as goal

-- what is multiplied up, and the power of the square that is left, are the power together
abbrev pub invariant-loop-rest : goal.invariant-loop-rest
invariant-loop-rest l = record {
  word : l.result.0 < 65536;
  square_word : l.square.0 < 65536;
  together : times l.result.0 (power l.square.0 l.rest) ≡ power l.fn.self.0 l.fn.e;
}

abbrev pub decreases-loop-rest : goal.decreases-loop-rest
decreases-loop-rest l = l.rest
