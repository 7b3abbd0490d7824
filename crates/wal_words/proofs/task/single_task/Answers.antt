use Rattle.wal_words.proofs.Common.{codes, replay, unpack}
use Rattle.wal_words.proofs.Rows.{named_row}
use Rattle.wal_words.proofs.task.single_task.Goals as goal

pub returns-in-replay-clause-found : goal.returns-in-replay-clause-found
returns-in-replay-clause-found c = named_row _ (codes "replay") _ _ _ c.in-replay.is replay

pub returns-in-unpack-clause-found : goal.returns-in-unpack-clause-found
returns-in-unpack-clause-found c = named_row _ (codes "unpack") _ _ _ c.in-unpack.is unpack
