use Rattle.wal_schedule.proofs.Common.{◌≡◌, ◌+◌, ◌*◌, length, refl, sym, ap, ◌∙◌, arith, blob_from, state_after, state_before}
use Rattle.wal_schedule.proofs.Drawing.{more_blobs, state_before-more}
use Rattle.wal_schedule.proofs.drawn.blobs_of.Goals as goal

pub loop-b-init : goal.loop-b-init
unfolding state_before
loop-b-init g c = record {
  blobs = rw c.in_ok-blobs.ensures.items
      (record { bytes = refl; identified = tt });
  state = refl;
}

pub small_id-requires : goal.small_id-requires
small_id-requires g c = omega (arith, c.in_ok-bytes.ensures.size, ap length c.as_slice.ensures)

pub loop-b-preserved : goal.loop-b-preserved
loop-b-preserved g c =
    let b = c.loop-b.b in
    let old = c.loop-b.invariant in
    record {
      blobs = more_blobs g.H.Hash32.digest c.args.draws.now.state b _ _ _ old.blobs
          (c.in_ok-bytes.ensures.blob ∙ ap (λ s. blob_from s b) old.state)
          (rw c.as_slice.ensures at c.in_ok-id.ensures) c.in_ok-push.ensures.items;
      state = c.in_ok-bytes.ensures.state ∙ ap (λ s. state_after s (8 * b + 7)) old.state ∙ sym
          (state_before-more c.args.draws.now.state b);
    }

pub returns-clause-blobs : goal.returns-clause-blobs
returns-clause-blobs g c =
    let all : c.loop-b.b ≡ 32 = omega (arith, c.loop-b-test.false, c.loop-b.auto.b-end) in
    rw all at c.loop-b.invariant.blobs
