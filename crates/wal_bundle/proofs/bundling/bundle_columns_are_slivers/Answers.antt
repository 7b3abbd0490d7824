use Rattle.wal_bundle.proofs.Common.{sym}
use Rattle.wal_bundle.proofs.Bundled.{own_column}
use Rattle.wal_bundle.proofs.bundling.bundle_columns_are_slivers.Goals as goal

pub returns : goal.returns
returns c = λ f s members e is extended j h. sym (own_column f s members is e extended j h)
