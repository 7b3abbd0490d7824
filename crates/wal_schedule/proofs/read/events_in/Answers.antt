use Rattle.wal_schedule.proofs.Common.{ap, sym, ◌∙◌, shard_count, IsEventWithin, Ok}
use Rattle.wal_schedule.proofs.Drawing.{pushed_count}
use Rattle.wal_schedule.proofs.Elements.{all_more, event_all, event_more}
use Rattle.wal_schedule.proofs.read.events_in.Goals as goal

pub loop-item-preserved : goal.loop-item-preserved
loop-item-preserved c =
    let old = c.loop-item.invariant in
    let more = c.in_ok-push-in-Ok.ensures.items in
    record {
      count = pushed_count c.loop-item.item-index _ _ _ old.count more;
      within = all_more (IsEventWithin (shard_count c.args.f)) _ _ _ old.within c.in-Ok.ensures.fits.within more;
      is = event_more c.args.f c.args.items.now c.loop-item.item-index c.item-item.result _ _ _ c.loop-item-test.true
          c.item-item.is old.is c.in-Ok.ensures.read more;
    }

pub returns-clause-read : goal.returns-clause-read
returns-clause-read c =
    event_all c.args.f c.args.items.now c.loop-item.item-index c.loop-item.events.items c.loop-item-test.false
    c.loop-item.invariant.is ∙ ap Ok (sym c.from_vec.ensures)
