use Rattle.wal_world.proofs.Replaying.{taken_in_part}
use Rattle.wal_world.proofs.run.take_event.Goals as goal

pub returns-in_err-put_all-clause-takes : goal.returns-in_err-put_all-clause-takes
returns-in_err-put_all-clause-takes g c =
    taken_in_part _ _ _ _ _ _ _ _ c.in_ok-line.line _ _ c.from_residual-in_err-put_all.ensures.1 c.in_ok-line.ensures.step c.in_ok-text.ensures c.as_bytes.ensures.value c.in_err-put_all.ensures.fault c.in_err-put_all.ensures.part
