use Rattle.wal_bundle.proofs.Common.{◌∙◌, arith, metadata_shown}
use Rattle.wal_bundle.proofs.Agreement.{column_added, first_missing}
use Rattle.wal_bundle.proofs.Truths.{column_held}
use Rattle.wal_bundle.proofs.columns.add_columns.Goals as goal

pub loop-place-preserved : goal.loop-place-preserved
loop-place-preserved g c =
    let is = rw c.in-Some.is at c.in_ok-column.ensures.there in
    let held = column_held g.H.Hash32.digest c.args.id.now.0 (metadata_shown c.args.m) c.requires.shape _ _ _ is in
    let after = rw c.as_slice.ensures at c.in_ok-extend_from_slice-in-Some.ensures.items in
    record {
      columns = column_added _ _ _ _ _ _ _ c.loop-place.invariant.columns is held.size after;
      f = c.in_ok-column.ensures.f ∙ c.loop-place.invariant.f;
    }

pub returns-in-None-clause-missing : goal.returns-in-None-clause-missing
returns-in-None-clause-missing g c =
    first_missing _ _ c.args.start c.args.have c.args.total c.loop-place.place _ c.loop-place.invariant.columns
    (omega arith) c.loop-place-test.true (rw c.in-None.is at c.in_ok-column.ensures.missing)
