-- The table's points are distinct words.
use Rattle.wal_code.proofs.Tables.{table_interpolates}
use Rattle.wal_code.proofs.coefficients.Coeffs.at.Goals as goal

pub returns-clause-meaning : goal.returns-clause-meaning
returns-clause-meaning c =
    let i = c.self.inside in
    rw (← c.self.view_is)
    (table_interpolates i.known.items i.wanted.items i.table.items c.self.invariant c.args.w
    (rw (← c.self.view_is) at c.requires.wanted))
