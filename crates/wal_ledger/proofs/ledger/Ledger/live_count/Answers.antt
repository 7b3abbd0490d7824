use Rattle.wal_ledger.proofs.Living.{live_ids-ascends, live_ids-complete}
use Rattle.wal_ledger.proofs.ledger.Ledger.live_count.Goals as goal

pub returns-clause-ascends : goal.returns-clause-ascends
returns-clause-ascends c = live_ids-ascends c.args.self.now.log

pub returns-clause-complete : goal.returns-clause-complete
returns-clause-complete c = live_ids-complete c.args.self.now.log
