use Rattle.wal_world.proofs.Common.{ap, length, arith, List, ◌∙◌, Event, World}
use Rattle.wal_world.proofs.Replaying.{all_events, event_at, replaying_first, replaying_more, replays_failed, replays_stopped, replays_whole}
use Rattle.wal_world.proofs.run.take_events.Goals as goal

pub loop-event-init : goal.loop-event-init
loop-event-init g c = record {
  replaying = replaying_first c.requires.first;
  goes_on = c.requires.goes_on;
  faults = ap (λ (w : World). w.log.f) c.requires.first;
  room = omega (arith, c.requires.room, ap (λ (l : List Event). length l) c.as_slice-event-items.ensures);
  later = omega arith;
}

pub returns-in_err-take_event-clause-replays : goal.returns-in_err-take_event-clause-replays
returns-in_err-take_event-clause-replays g c =
    let at = event_at c.as_slice-event-items.ensures c.loop-event-test.true c.event-item.is in
    replays_failed g.met.H.Hash32.size c.requires.schedule (g.K.Sink.written c.take_event.new.sink) c.take_event.new.world.state (g.K.Sink.faults c.take_event.new.sink) c.in_err-take_event.field-0.0 _
    c.from_residual.ensures.1 c.loop-event.invariant.replaying at c.loop-event.invariant.faults c.in_err-take_event.ensures.takes c.loop-event.invariant.later

pub returns-then-branch-clause-replays : goal.returns-then-branch-clause-replays
returns-then-branch-clause-replays g c =
    let at = event_at c.as_slice-event-items.ensures c.loop-event-test.true c.event-item.is in
    replays_stopped g.met.H.Hash32.size c.requires.schedule _ c.take_event.new.world.state c.loop-event.invariant.replaying at c.loop-event.invariant.faults c.in_ok-take_event.ensures.takes c.if-branch.true

pub loop-event-preserved : goal.loop-event-preserved
loop-event-preserved g c =
    let at = event_at c.as_slice-event-items.ensures c.loop-event-test.true c.event-item.is in
    record {
      replaying = replaying_more c.loop-event.invariant.replaying at c.loop-event.invariant.faults c.in_ok-take_event.ensures.takes c.if-branch.false;
      goes_on = c.in_ok-take_event.ensures.ended ∙ c.if-branch.false;
      faults = c.in_ok-take_event.ensures.f ∙ c.loop-event.invariant.faults;
      room = omega (arith, c.loop-event.invariant.room, c.in_ok-take_event.ensures.room);
      later = omega (arith, c.loop-event.invariant.later, c.take_event.ensures.later);
    }

pub returns-clause-replays : goal.returns-clause-replays
returns-clause-replays g c =
    replays_whole g.met.H.Hash32.size c.requires.schedule _ c.loop-event.invariant.replaying (all_events c.as_slice-event-items.ensures c.loop-event-test.false)
