use Rattle.wal_bundle.proofs.Bundled.{shown_told}
use Rattle.wal_bundle.proofs.finding.shown_member_is_told.Goals as goal

pub returns : goal.returns
returns c = shown_told
