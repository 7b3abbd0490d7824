use Rattle.wal_shape.proofs.Common.{metadata_shown, spelled_metadata, metadata_in}
use Rattle.wal_shape.proofs.MetadataLaws.{IsMetadata-spelled}
use Rattle.wal_shape.proofs.metadata.MetaRef.length.Goals as goal

pub returns-clause-value : goal.returns-clause-value
unfolding metadata_shown spelled_metadata metadata_in
returns-clause-value c = rw (c.length_in.ensures, c.split_format.ensures.behind)

pub returns-clause-metadata : goal.returns-clause-metadata
unfolding metadata_shown
returns-clause-metadata c = IsMetadata-spelled c.args.self.now.bytes.now c.args.self.now.whole
