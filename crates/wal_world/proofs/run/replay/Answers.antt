use Rattle.wal_world.proofs.Replaying.{replays_nothing}
use Rattle.wal_world.proofs.run.replay.Goals as goal

pub returns-in_err-world-clause-replays : goal.returns-in_err-world-clause-replays
returns-in_err-world-clause-replays g c = replays_nothing g.H.Hash32.digest g.met.H.Hash32.size c.args.schedule.now c.requires _ _ _ c.from_residual.ensures.1
