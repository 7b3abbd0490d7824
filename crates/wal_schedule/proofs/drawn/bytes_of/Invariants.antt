use Rattle.wal_schedule.proofs.Common.{◌≡◌, ◌+◌, ◌%◌, ◌∷◌, map, length, range_with_len, drawn, state_after}
use Rattle.wal_schedule.proofs.drawn.bytes_of.Given as goal

abbrev pub invariant-loop-k : goal.invariant-loop-k
invariant-loop-k l = record {
  count : length l.bytes.items ≡ l.k + 1;
  bytes : l.bytes.items ≡ l.b ∷ map (λ k. drawn l.initial.draws.state k % 256) (range_with_len 1 l.k);
  state : l.draws.state ≡ state_after l.initial.draws.state l.k;
}
