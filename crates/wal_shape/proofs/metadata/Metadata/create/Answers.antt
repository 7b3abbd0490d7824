use Rattle.wal_shape.proofs.Common.{◌∙◌, ap, Some, sym, metadata_shown, BlobMetadata}
use Rattle.wal_shape.proofs.MetadataLaws.{spelled_by}
use Rattle.wal_shape.proofs.metadata.Metadata.create.Goals as goal

pub invariant_of-result : goal.invariant_of-result
invariant_of-result c =
    let same = c.in-Some.ensures.spelled ∙ c.as_slice.ensures in
    let by = spelled_by c.args.bytes (metadata_shown c.in-Some.field-0) c.in-Some.ensures.metadata same in
    (by.0, rw by.1 same)

pub returns-in-Some-clause-metadata : goal.returns-in-Some-clause-metadata
returns-in-Some-clause-metadata c = rw (spelled_by c.args.bytes (metadata_shown c.in-Some.field-0) c.in-Some.ensures.metadata (c.in-Some.ensures.spelled ∙ c.as_slice.ensures)).1 c.in-Some.ensures.metadata

pub returns-in-Some-clause-spelled : goal.returns-in-Some-clause-spelled
returns-in-Some-clause-spelled c =
    let same = c.in-Some.ensures.spelled ∙ c.as_slice.ensures in
    rw (spelled_by c.args.bytes (metadata_shown c.in-Some.field-0) c.in-Some.ensures.metadata same).1 same

pub returns-in-Some-clause-only : goal.returns-in-Some-clause-only
returns-in-Some-clause-only c = λ m h same. ap (λ (x : BlobMetadata). Some x) (spelled_by c.args.bytes m h same).1

pub returns-in-None-clause-only : goal.returns-in-None-clause-only
returns-in-None-clause-only c = λ m h same. absurd (c.in-None.ensures.none m h (same ∙ sym c.as_slice.ensures))
