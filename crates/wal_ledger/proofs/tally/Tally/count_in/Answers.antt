use Rattle.wal_ledger.proofs.Common.{sym, ◌∙◌, cond-false, ne_eqb}
use Rattle.wal_ledger.proofs.TallyLaws.{tally_counts}
use Rattle.wal_ledger.proofs.tally.Tally.count_in.Goals as goal

pub returns-else-self-epoch-clause-counted : goal.returns-else-self-epoch-clause-counted
returns-else-self-epoch-clause-counted c f first owners own kind entries links i within =
    sym (tally_counts f first c.args.epoch owners own kind entries links c.args.self.now i within ∙ cond-false _ c.args.self.now.count 0 (ne_eqb _ _ c.if-self-epoch.false))
