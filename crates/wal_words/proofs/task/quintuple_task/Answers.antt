use Rattle.wal_words.proofs.Common.{codes, challenge, verify}
use Rattle.wal_words.proofs.Rows.{named_row}
use Rattle.wal_words.proofs.task.quintuple_task.Goals as goal

pub returns-in_ok-read_audit-in-challenge-clause-found : goal.returns-in_ok-read_audit-in-challenge-clause-found
returns-in_ok-read_audit-in-challenge-clause-found c =
    named_row _ (codes "challenge") _ _ _ c.in-challenge.is (challenge _ _ _ _ c.in_ok-read_audit-in-challenge.field-0 c.in_ok-read_audit-in-challenge.ensures.found)

pub returns-in_ok-read_audit-in-verify-clause-found : goal.returns-in_ok-read_audit-in-verify-clause-found
returns-in_ok-read_audit-in-verify-clause-found c =
    named_row _ (codes "verify") _ _ _ c.in-verify.is (verify _ _ _ _ c.in_ok-read_audit-in-verify.field-0 c.in_ok-read_audit-in-verify.ensures.found)
