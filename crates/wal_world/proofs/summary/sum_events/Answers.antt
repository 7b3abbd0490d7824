use Rattle.wal_world.proofs.Common.{List, length, Option, is_some, ap, ◌∙◌, arith, Collision, Event, World}
use Rattle.wal_world.proofs.Replaying.{all_events, event_at}
use Rattle.wal_world.proofs.Summaries.{summed_collision, summed_whole, summing_certified, summing_first, summing_more, summing_room}
use Rattle.wal_world.proofs.summary.sum_events.Goals as goal

pub loop-event-init : goal.loop-event-init
loop-event-init g c = record {
  summing = summing_first c.requires.first c.requires.tally;
  goes_on = c.requires.goes_on;
  faults = ap (λ (w : World). w.log.f) c.requires.first;
  room = omega (arith, c.requires.room, ap (λ (l : List Event). length l) c.as_slice-event-items.ensures);
}

pub tally_event-requires-clause-events : goal.tally_event-requires-clause-events
tally_event-requires-clause-events g c = (summing_room c.loop-event.invariant.summing c.as_slice-event-items.ensures c.loop-event-test.true c.requires.schedule.count).events

pub tally_event-requires-clause-reads : goal.tally_event-requires-clause-reads
tally_event-requires-clause-reads g c = (summing_room c.loop-event.invariant.summing c.as_slice-event-items.ensures c.loop-event-test.true c.requires.schedule.count).reads

pub tally_event-requires-clause-recovered : goal.tally_event-requires-clause-recovered
tally_event-requires-clause-recovered g c = (summing_room c.loop-event.invariant.summing c.as_slice-event-items.ensures c.loop-event-test.true c.requires.schedule.count).recovered

pub returns-in-Some : goal.returns-in-Some
returns-in-Some g c =
    let at = event_at c.as_slice-event-items.ensures c.loop-event-test.true c.event-item.is in
    summed_collision g.met.H.Hash32.size c.requires.schedule c.in-Some.collision c.loop-event.invariant.summing at c.loop-event.invariant.faults c.in-Some.is c.in_ok-collision.ensures.tallied

pub loop-event-preserved : goal.loop-event-preserved
loop-event-preserved g c =
    let at = event_at c.as_slice-event-items.ensures c.loop-event-test.true c.event-item.is in
    record {
      summing = summing_more c.loop-event.invariant.summing at c.loop-event.invariant.faults c.in-None.is c.in_ok-collision.ensures.tallied;
      goes_on = c.in_ok-collision.ensures.ended ∙ ap (λ (o : Option Collision). is_some o) c.in-None.is;
      faults = c.in_ok-collision.ensures.f ∙ c.loop-event.invariant.faults;
      room = omega (arith, c.loop-event.invariant.room, c.in_ok-collision.ensures.room);
    }

pub summary-requires : goal.summary-requires
summary-requires g c = summing_certified c.loop-event.invariant.summing c.requires.schedule.count

pub returns : goal.returns
returns g c =
    summed_whole g.met.H.Hash32.size c.requires.schedule c.loop-event.invariant.summing (all_events c.as_slice-event-items.ensures c.loop-event-test.false) c.summary.ensures
