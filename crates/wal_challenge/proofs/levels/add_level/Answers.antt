use Rattle.wal_challenge.proofs.Common.{◌∙◌}
use Rattle.wal_challenge.proofs.LevelLaws.{above_evened}
use Rattle.wal_challenge.proofs.levels.add_level.Goals as goal

pub returns-clause-above : goal.returns-clause-above
returns-clause-above g c =
    above_evened g.H.Hash32.digest c.args.level.items c.deref.result.now c.in_ok-above.above.items c.requires.whole
    (c.deref.ensures.value ∙ c.in_ok-level.ensures) c.in_ok-above.ensures.long c.in_ok-above.ensures.joined
