use Rattle.wal_ledger.proofs.RowsKept.{kept_finish}
use Rattle.wal_ledger.proofs.ledger.Ledger.finish.Goals as goal

pub invariant_of-self : goal.invariant_of-self
invariant_of-self c =
    let i = c.self.inside in
    rw (c.push.ensures, c.retire.ensures, c.writing_epoch-epoch.ensures.value, ← c.self.view_is)
    (kept_finish i.f i.first i.owners i.epoch i.moving i.reads_at i.writes_at i.book i.table i.ready i.total c.self.invariant
    (rw (← c.self.view_is) at c.requires.room) (rw (← c.self.view_is) at c.requires.moving))

pub returns-clause-lawful : goal.returns-clause-lawful
returns-clause-lawful c = (invariant_of-self c).lawful
