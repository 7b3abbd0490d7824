-- The requests before the rest were answered, none by a collision, and their lines written.
use Rattle.wal_run.proofs.Common.{◌≡◌, ◌≤◌, ℕ, List, length, IsStream, no_blobs}
use Rattle.wal_run.proofs.Fetches.{Fetched}
use Rattle.wal_run.proofs.fetch.put_answers.Given as goal

abbrev pub invariant-loop-asked : goal.invariant-loop-asked
invariant-loop-asked g l = record {
  few : length l.rest ≤ 134217728;
  whole : (payloads : List (List ℕ)) × IsStream payloads l.rest;
  later : g.K.Sink.faults l.initial.sink ≤ g.K.Sink.faults l.sink;
  so : (capacity : ℕ) → l.initial.gateway ≡ no_blobs capacity → (payloads : List (List ℕ)) → IsStream payloads l.stream
      → Fetched g.H.Hash32.digest capacity payloads l.gateway l.rest (g.K.Sink.written l.initial.sink) (g.K.Sink.written l.sink);
}

abbrev pub decreases-loop-asked : goal.decreases-loop-asked
decreases-loop-asked g l = length l.rest
