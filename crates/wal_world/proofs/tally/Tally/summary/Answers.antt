use Rattle.wal_world.proofs.Common.{refl}
use Rattle.wal_world.proofs.Tallies.{tally_summary}
use Rattle.wal_world.proofs.tally.Tally.summary.Goals as goal

pub returns : goal.returns
returns c = tally_summary c.args.self.now _ refl c.len.ensures.len refl refl refl c.unwrap_or.ensures
