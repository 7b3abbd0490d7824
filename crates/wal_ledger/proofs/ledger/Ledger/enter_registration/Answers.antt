use Rattle.wal_ledger.proofs.Common.{ap, ◌∙◌, row_registered}
use Rattle.wal_ledger.proofs.RowsEnter.{kept_registered}
use Rattle.wal_ledger.proofs.ledger.Ledger.enter_registration.Goals as goal

pub invariant_of-self : goal.invariant_of-self
invariant_of-self c =
    let i = c.self.inside in
    let row = c.registered-row.ensures ∙ ap (row_registered i.epoch c.args.until) c.find.ensures in
    rw (c.push.ensures, c.writing_epoch-epoch.ensures.value, ← c.self.view_is)
    (kept_registered i.f i.first i.owners i.epoch i.moving i.reads_at i.writes_at i.book i.table i.ready i.total c.self.invariant
    (rw (← c.self.view_is) at c.requires.room) c.args.until c.args.id.now c.put.new.self (rw (← c.self.view_is) at c.requires.beyond)
    c.put.ensures.ids c.put.ensures.live c.put.ensures.spare (λ q. rw (← row) (c.put.ensures.rows q)))

pub returns-clause-lawful : goal.returns-clause-lawful
returns-clause-lawful c = (invariant_of-self c).lawful
