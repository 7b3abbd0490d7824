use Rattle.wal_shape.proofs.Common.{◌∙◌, ap, subst, spelled_metadata, metadata_shown, IsMetadata}
use Rattle.wal_shape.proofs.MetadataLaws.{IsMetadata-spelled}
use Rattle.wal_shape.proofs.metadata.Metadata.view.Goals as goal

pub returns-clause-value : goal.returns-clause-value
unfolding metadata_shown
returns-clause-value c = ap spelled_metadata c.as_slice.ensures ∙ c.self.view_is

pub returns-clause-metadata : goal.returns-clause-metadata
returns-clause-metadata c = subst IsMetadata c.self.view_is (IsMetadata-spelled c.self.inside.bytes c.self.invariant.0)
