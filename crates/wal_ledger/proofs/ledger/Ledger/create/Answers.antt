use Rattle.wal_ledger.proofs.RowsKept.{kept_new}
use Rattle.wal_ledger.proofs.ledger.Ledger.create.Goals as goal

pub invariant_of-result : goal.invariant_of-result
invariant_of-result c =
    rw (c.in_ok-create.ensures, c.in_ok-create-2.ensures, c.in_ok-create-3.ensures)
    (kept_new c.args.f c.args.epoch c.args.owners c.args.room c.requires.some_faults c.requires.few_faults c.requires.epoch c.requires.owners)
