use Rattle.wal_reader.proofs.Common.{refl, arith}
use Rattle.wal_reader.proofs.IntakeLaws.{stands_new, sound_empty}
use Rattle.wal_reader.proofs.intake.Intake.create.Goals as goal

pub returns : goal.returns
returns g c = (
  sound_empty _ (omega (arith, c.in_ok-kept.ensures.capacity, c.in_ok-kept.ensures.exact)) (omega arith)
      c.in_ok-kept.ensures.items,
  stands_new g.H.Hash32.digest c.args.id.now.0 _ c.create-heard.ensures refl refl refl c.in_ok-kept.ensures.items,
)
