-- One more envelope, and each way in which serving ends.
use Rattle.wal_serve.proofs.Common.{refl, sym, ◌∙◌, arith, ServedState, AnswersRequest}
use Rattle.wal_serve.proofs.TakingLaws.{rose_since}
use Rattle.wal_serve.proofs.ServingLaws.{serving_nothing, envelope_long, serving_more, ends_without, ends_stopped, ends_write_fault, stays_at, stays_on}
use Rattle.wal_serve.proofs.session.Session.serve_in.Goals as goal

pub envelopes-init : goal.envelopes-init
envelopes-init g c = record {
  within = omega arith;
  held = refl;
  room = refl;
  stays = stays_at _;
  source = omega arith;
  sink = omega arith;
  so_far = serving_nothing ServedState (AnswersRequest g.H.Hash32.digest g.K.Keep.may_want) _ _ _ _ _;
}

pub envelopes-preserved : goal.envelopes-preserved
envelopes-preserved g c =
    let inv = c.envelopes.invariant in
    let t = c.in-Ok.ensures.takes in
    let one = c.in-Ok-None.ensures in
    let long = envelope_long t.1.0 in record {
      within = omega (arith, inv.within, long, t.1.2, c.from.ensures);
      held = c.in-Ok.ensures.room ∙ inv.held;
      room = one.room ∙ inv.room;
      stays = stays_on _ _ _ inv.stays one.stays;
      source = omega (arith, inv.source, c.in-Ok.ensures.later);
      sink = omega (arith, inv.sink, one.later);
      so_far = serving_more c.args.limit inv.so_far inv.within _ t.1 (c.in-Ok.ensures.room ∙ inv.held) one.serves.2.0 inv.stays.place.index
          (sym one.serves.3.0 ∙ c.in-Ok-None.field-0-is) one.serves.3.1 (omega (arith, c.from.ensures));
    }

pub returns-in-Err-clause-served : goal.returns-in-Err-clause-served
returns-in-Err-clause-served g c =
    let inv = c.envelopes.invariant in
    ends_without c.args.limit inv.so_far inv.within (rose_since _ _ _ inv.source) c.in-Err.ensures.takes.1 c.end_without.ensures

pub returns-in-Ok-Some-clause-served : goal.returns-in-Ok-Some-clause-served
returns-in-Ok-Some-clause-served g c =
    let inv = c.envelopes.invariant in
    let one = c.in-Ok-Some.ensures in
    ends_stopped c.args.limit inv.so_far inv.within _ c.in-Ok.ensures.takes.1 (c.in-Ok.ensures.room ∙ inv.held) one.serves.2.0 inv.stays.place.index
    c.in-Ok-Some.clash one.serves.2.1 (sym one.serves.3.0 ∙ c.in-Ok-Some.field-0-is) one.serves.3.1

pub returns-in-Err-serve_one-clause-served : goal.returns-in-Err-serve_one-clause-served
returns-in-Err-serve_one-clause-served g c =
    let inv = c.envelopes.invariant in
    let one = c.in-Err-serve_one.ensures in
    ends_write_fault c.args.limit inv.so_far inv.within _ c.in-Ok.ensures.takes.1 (c.in-Ok.ensures.room ∙ inv.held) one.serves.2.0 inv.stays.place.index
    one.serves.3 (rose_since _ _ _ inv.sink one.fault)
