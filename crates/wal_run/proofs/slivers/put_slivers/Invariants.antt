use Rattle.wal_run.proofs.Common.{◌≤◌, ◌≡◌, ◌+◌, length, Appends, flat_map, range_with_len, shard_text}
use Rattle.wal_run.proofs.slivers.put_slivers.Given as goal

-- the envelopes of the shards before this one were written
abbrev pub invariant-loop-shard : goal.invariant-loop-shard
invariant-loop-shard g l = record {
  put : Appends (g.K.Sink.written l.initial.sink) (g.K.Sink.written l.sink) (flat_map (shard_text l.id.0 l.encoded.shape l.encoded.cells) (range_with_len 0 l.shard));
  buffer : l.out.spare + length l.out.bytes ≡ l.initial.out.spare + length l.initial.out.bytes;
  later : g.K.Sink.faults l.initial.sink ≤ g.K.Sink.faults l.sink;
}
