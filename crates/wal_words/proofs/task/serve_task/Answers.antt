use Rattle.wal_words.proofs.Rows.{no_shard}
use Rattle.wal_words.proofs.Common.{serve}
use Rattle.wal_words.proofs.task.serve_task.Goals as goal

pub returns-in_err-shard-clause-none : goal.returns-in_err-shard-clause-none
returns-in_err-shard-clause-none c = no_shard _ _ _ c.in_ok-faults.faults _ c.in_ok-faults.ensures.found c.in_err-shard.ensures.none

pub returns-clause-found : goal.returns-clause-found
returns-clause-found c =
    serve _ _ c.in_ok-faults.faults c.in_ok-shard.shard c.in_ok-faults.ensures.found c.in_ok-shard.ensures.found
