use Rattle.wal_shape.proofs.Common.{metadata_shown}
use Rattle.wal_shape.proofs.MetadataLaws.{IsMetadata-spelled, spelled_metadata-f}
use Rattle.wal_shape.proofs.metadata.MetaRef.f.Goals as goal

pub returns-clause-value : goal.returns-clause-value
unfolding metadata_shown
returns-clause-value c = rw (c.from.ensures, c.f_in.ensures, c.split_format.ensures.behind, spelled_metadata-f)

pub returns-clause-metadata : goal.returns-clause-metadata
unfolding metadata_shown
returns-clause-metadata c = IsMetadata-spelled c.args.self.now.bytes.now c.args.self.now.whole
