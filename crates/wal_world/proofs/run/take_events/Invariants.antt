use Rattle.wal_world.proofs.Common.{◌≡◌, ◌≤◌, ◌+◌, false, length, rules_of}
use Rattle.wal_world.proofs.Replaying.{IsReplaying}
use Rattle.wal_world.proofs.run.take_events.Given as goal

-- the events before this one were taken, and none ended the run
abbrev pub invariant-loop-event : goal.invariant-loop-event
invariant-loop-event g l = record {
  replaying : IsReplaying (rules_of g.H.Hash32.digest l.schedule.f) l.schedule l.event-index (g.K.Sink.written l.initial.sink) (g.K.Sink.written l.sink) l.world.state;
  goes_on : l.world.ended ≡ false;
  faults : l.world.state.log.f ≡ l.schedule.f;
  room : length l.event-items ≤ l.world.room + l.event-index;
  later : g.K.Sink.faults l.initial.sink ≤ g.K.Sink.faults l.sink;
}
