use Rattle.wal_ledger.proofs.ledger.Ledger.row.Goals as goal

pub returns-clause-row : goal.returns-clause-row
returns-clause-row c =
    (c.self.inside.book.links, rw (c.find.ensures, ← c.self.view_is) (c.self.invariant.rows c.args.id.now))
