use Rattle.wal_world.proofs.Common.{◌≡◌, ◌≤◌, ◌+◌, false, length, rules_of}
use Rattle.wal_world.proofs.Summaries.{IsSumming}
use Rattle.wal_world.proofs.summary.sum_events.Given as goal

-- the events before this one were taken and their lines counted, and none ended the run
abbrev pub invariant-loop-event : goal.invariant-loop-event
invariant-loop-event g l = record {
  summing : IsSumming (rules_of g.H.Hash32.digest l.schedule.f) l.schedule l.event-index l.world.state l.tally;
  goes_on : l.world.ended ≡ false;
  faults : l.world.state.log.f ≡ l.schedule.f;
  room : length l.event-items ≤ l.world.room + l.event-index;
}
