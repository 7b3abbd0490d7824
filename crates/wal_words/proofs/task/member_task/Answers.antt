use Rattle.wal_words.proofs.Common.{member}
use Rattle.wal_words.proofs.task.member_task.Goals as goal

pub returns-clause-found : goal.returns-clause-found
returns-clause-found c =
    member _ _ c.in_ok-id.id c.in_ok-number.number c.in_ok-id.ensures.found c.in_ok-number.ensures.found
