use Rattle.wal_journal.proofs.Common.{◌≡◌, [], take, refl, ◌∙◌, arith, append-nil, take_all}
use Rattle.wal_journal.proofs.Moments.{started, at_rest, holds_settled}
use Rattle.wal_journal.proofs.PackLaws.{puts_at, puts_next, takes_kept, takes_both, packs_refused, front_none, front_run, keeps_both}
use Rattle.wal_journal.proofs.packing.pack.Goals as goal

pub loop-payload-init : goal.loop-payload-init
loop-payload-init g c = record {
  takes = takes_kept refl refl refl refl;
  run =
      λ told changes accepts. at_rest (g.met.D.Disk.only_now told) (c.args.journal.settled told) (front_none _ accepts);
  keeps = λ told changes holds. started holds;
  later = omega arith;
}

pub loop-payload-preserved : goal.loop-payload-preserved
loop-payload-preserved g c =
    let so_far = c.loop-payload.invariant in
    let more =
    puts_next g.H.Hash32.digest _ _ c.as_slice-payload-items.result.now c.loop-payload.payload-index
    c.as_slice.result.now
    c.loop-payload-test.true (cc (c.as_slice.ensures, c.payload-item.is)) so_far.takes.holds in
    record {
      takes = rw more (takes_both so_far.takes c.in-Ok.ensures.packs);
      run = λ told changes accepts.
          front_run _ changes _ _ [] _ (rw append-nil more) so_far.takes.limit so_far.takes.holds so_far.takes.room
          (so_far.run told changes accepts) (c.in-Ok.ensures.any_moment told _ (so_far.takes.accepts changes accepts));
      keeps = λ told. keeps_both (g.met.D.Disk.earlier told) (so_far.keeps told) (c.in-Ok.ensures.keeps told);
      later = omega (arith, so_far.later, c.in-Ok.ensures.later);
    }

pub returns-in-Err-clause-packs : goal.returns-in-Err-clause-packs
returns-in-Err-clause-packs g c =
    let so_far = c.loop-payload.invariant in
    packs_refused g.D.Disk.now g.D.Disk.faults g.K.Keep.contents g.K.Keep.limit g.K.Keep.may_want g.D.Disk.tells
    g.D.Disk.clock g.D.Disk.since
    c.args.journal c.loop-payload.journal _ _ _ _ c.in-Err.refusal
    (puts_at g.H.Hash32.digest _ _ _ _ c.loop-payload.payload-index _ c.as_slice-payload-items.ensures
    c.loop-payload-test.true (cc (c.as_slice.ensures, c.payload-item.is)) so_far.takes.holds)
    so_far.later so_far.takes c.in-Err.ensures.packs

pub returns-in-Err-clause-any_moment : goal.returns-in-Err-clause-any_moment
returns-in-Err-clause-any_moment g c = λ told changes accepts.
    let so_far = c.loop-payload.invariant in
    front_run _ changes _ _ _ _
    (puts_at g.H.Hash32.digest _ _ _ _ c.loop-payload.payload-index _ c.as_slice-payload-items.ensures
    c.loop-payload-test.true (cc (c.as_slice.ensures, c.payload-item.is)) so_far.takes.holds)
    so_far.takes.limit so_far.takes.holds so_far.takes.room (so_far.run told changes accepts)
    (c.in-Err.ensures.any_moment told _ (so_far.takes.accepts changes accepts))

pub returns-in-Err-clause-keeps : goal.returns-in-Err-clause-keeps
returns-in-Err-clause-keeps g c = λ told.
    keeps_both (g.met.D.Disk.earlier told) (c.loop-payload.invariant.keeps told) (c.in-Err.ensures.keeps told)

pub returns-clause-acknowledged : goal.returns-clause-acknowledged
returns-clause-acknowledged g c = λ told changes accepts.
    let all : take c.loop-payload.payload-index c.as_slice-payload-items.result.now ≡ c.args.payloads.now =
    take_all c.loop-payload.payload-index c.as_slice-payload-items.result.now (omega (arith, c.loop-payload-test.false))
    ∙ c.as_slice-payload-items.ensures in
    holds_settled g.D.Disk.clock g.D.Disk.since (g.met.D.Disk.only_now told) (c.loop-payload.journal.settled told)
    (rw all at (c.loop-payload.invariant.takes.accepts changes accepts))
