use Rattle.wal_ledger.proofs.Common.{◌+◌, List, length, ap, Entry}
use Rattle.wal_ledger.proofs.RowsKept.{kept_begin}
use Rattle.wal_ledger.proofs.ledger.Ledger.begin.Goals as goal

pub invariant_of-self : goal.invariant_of-self
invariant_of-self c =
    let i = c.self.inside in
    let is = c.self.view_is in
    rw (c.push.ensures, c.clear.ensures, c.writing_epoch-epoch.ensures.value, ← is)
    (kept_begin i.f i.first i.owners i.epoch i.moving i.reads_at i.writes_at i.book i.table i.ready i.total c.self.invariant
    (rw (← is) at c.requires.room) (length c.entries.result.now + 1) c.args.owners (rw (← is) at c.requires.serving)
    (rw (← is) at c.requires.last) (rw (← is) at c.requires.owners) (ap (λ (l : List Entry). length l + 1) c.entries.ensures.value))

pub returns-clause-lawful : goal.returns-clause-lawful
returns-clause-lawful c = (invariant_of-self c).lawful
