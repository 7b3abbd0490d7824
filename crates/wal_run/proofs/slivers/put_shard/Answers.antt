use Rattle.wal_run.proofs.Common.{refl, Secondary, held_index}
use Rattle.wal_run.proofs.Parts.{failed_before, failed_after, put_both}
use Rattle.wal_run.proofs.ShardTexts.{shard_parts}
use Rattle.wal_run.proofs.slivers.put_shard.Goals as goal

pub returns-in_err-put_primary-clause-part : goal.returns-in_err-put_primary-clause-part
returns-in_err-put_primary-clause-part g c =
    let shape = c.args.encoded.now.shape in
    let first = rw (c.view.ensures.value, c.requires.format, c.requires.faults) at c.held-primary.ensures.value in
    failed_before _ _ _ _ _ _
    (shard_parts c.args.id.now.0 shape c.args.encoded.now.cells c.args.shard _ (held_index shape.format shape.f Secondary c.args.shard) first refl) c.in_err-put_primary.ensures.part

pub returns-clause-whole : goal.returns-clause-whole
returns-clause-whole g c =
    let first = rw (c.view.ensures.value, c.requires.format, c.requires.faults) at c.held-primary.ensures.value in
    let second = rw (c.view-2.ensures.value, c.requires.format, c.requires.faults) at c.held-secondary.ensures.value in
    put_both _ _ _ _ _ _ _
    (shard_parts c.args.id.now.0 c.args.encoded.now.shape c.args.encoded.now.cells c.args.shard _ _ first second) c.in_ok-put_primary.ensures.whole c.put_secondary.ensures.whole

pub returns-clause-part : goal.returns-clause-part
returns-clause-part g c =
    let first = rw (c.view.ensures.value, c.requires.format, c.requires.faults) at c.held-primary.ensures.value in
    let second = rw (c.view-2.ensures.value, c.requires.format, c.requires.faults) at c.held-secondary.ensures.value in
    failed_after _ _ _ _ _ _ _
    (shard_parts c.args.id.now.0 c.args.encoded.now.shape c.args.encoded.now.cells c.args.shard _ _ first second) c.in_ok-put_primary.ensures.whole c.put_secondary.ensures.part
