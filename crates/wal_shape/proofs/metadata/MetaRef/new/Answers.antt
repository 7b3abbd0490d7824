use Rattle.wal_shape.proofs.Common.{arith, false≢true, metadata_shown}
use Rattle.wal_shape.proofs.MetadataLaws.{IsMetadata-spelled, metadata_text-spelled, no_metadata, spelled_by}
use Rattle.wal_shape.proofs.metadata.MetaRef.new.Goals as goal

pub invariant_of-result : goal.invariant_of-result
invariant_of-result c =
    let whole = c.spells_metadata.ensures.0 c.if-spells_metadata.true in
    record { whole = whole; spelled = metadata_text-spelled c.args.bytes.now (λ i. omega (arith, c.type_inv.bytes i)) whole }

pub returns-then-spells_metadata-clause-metadata : goal.returns-then-spells_metadata-clause-metadata
unfolding metadata_shown
returns-then-spells_metadata-clause-metadata c = IsMetadata-spelled c.args.bytes.now (c.spells_metadata.ensures.0 c.if-spells_metadata.true)

pub returns-then-spells_metadata-clause-spelled : goal.returns-then-spells_metadata-clause-spelled
unfolding metadata_shown
returns-then-spells_metadata-clause-spelled c = metadata_text-spelled c.args.bytes.now (λ i. omega (arith, c.type_inv.bytes i)) (c.spells_metadata.ensures.0 c.if-spells_metadata.true)

pub returns-else-spells_metadata-clause-none : goal.returns-else-spells_metadata-clause-none
returns-else-spells_metadata-clause-none c = no_metadata c.args.bytes.now (λ spelled. false≢true (rw c.if-spells_metadata.false at (c.spells_metadata.ensures.1 spelled)))

pub returns-then-spells_metadata-clause-only : goal.returns-then-spells_metadata-clause-only
unfolding metadata_shown
returns-then-spells_metadata-clause-only c = λ m h same. (spelled_by c.args.bytes.now m h same).1
