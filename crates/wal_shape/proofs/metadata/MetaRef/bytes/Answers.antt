use Rattle.wal_shape.proofs.Common.{length, sym, ap, ◌∙◌, metadata_shown}
use Rattle.wal_shape.proofs.MetadataLaws.{IsMetadata-spelled, length-metadata_text}
use Rattle.wal_shape.proofs.metadata.MetaRef.bytes.Goals as goal

pub returns-clause-spelling : goal.returns-clause-spelling
unfolding metadata_shown
returns-clause-spelling c = sym c.args.self.now.spelled

pub returns-clause-size : goal.returns-clause-size
unfolding metadata_shown
returns-clause-size c =
    ap length (sym c.args.self.now.spelled) ∙ length-metadata_text _ (IsMetadata-spelled _ c.args.self.now.whole)

pub returns-clause-metadata : goal.returns-clause-metadata
unfolding metadata_shown
returns-clause-metadata c = IsMetadata-spelled c.args.self.now.bytes.now c.args.self.now.whole
