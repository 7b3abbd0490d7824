use Rattle.wal_shape.proofs.Common.{sym, ◌∙◌, metadata_shown}
use Rattle.wal_shape.proofs.MetadataLaws.{spelled_metadata-format}
use Rattle.wal_shape.proofs.metadata.MetaRef.format.Goals as goal

pub returns : goal.returns
unfolding metadata_shown
returns c = c.split_format-format.ensures.format ∙ sym (spelled_metadata-format c.args.self.now.bytes.now)
