-- The envelopes of the openings before this one were written.
use Rattle.wal_run.proofs.Common.{◌≡◌, ◌≤◌, ◌+◌, ℕ, List, length, metadata_shown, AreWordsOf}
use Rattle.wal_run.proofs.Challenges.{Answered}
use Rattle.wal_run.proofs.challenge.put_answers.Given as goal

abbrev pub invariant-each : goal.invariant-each
invariant-each g l = record {
  so : (primary secondary : List ℕ) → AreWordsOf (metadata_shown l.m) primary secondary l.answerer
      → Answered g.H.Hash32.digest l.audit (metadata_shown l.m) primary secondary (g.K.Sink.written l.initial.sink) l.d (g.K.Sink.written l.sink);
  buffer : l.out.spare + length l.out.bytes ≡ l.initial.out.spare + length l.initial.out.bytes;
  later : g.K.Sink.faults l.initial.sink ≤ g.K.Sink.faults l.sink;
}
