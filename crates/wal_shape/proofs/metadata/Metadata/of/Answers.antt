use Rattle.wal_shape.proofs.Common.{ap, ◌∙◌, metadata_shown, spelled_metadata}
use Rattle.wal_shape.proofs.metadata.Metadata.of.Goals as goal

pub returns : goal.returns
unfolding metadata_shown
returns c = ap spelled_metadata (c.from_vec.ensures ∙ c.in_ok-from_slice.ensures.items)
