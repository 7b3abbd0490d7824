use Rattle.wal_chain.proofs.OneHead.{one_head, early_on_both}
use Rattle.wal_chain.proofs.heads.Goals as goal

pub returns-clause-same : goal.returns-clause-same
returns-clause-same c = λ seal chain other plain of_one of_other long same. one_head seal plain chain other of_one of_other long same

pub returns-clause-early : goal.returns-clause-early
returns-clause-early c = early_on_both
