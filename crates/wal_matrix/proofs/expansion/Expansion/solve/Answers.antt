use Rattle.wal_matrix.proofs.Common.{rules, ◌≡◌, vec_capacity}
use Rattle.wal_matrix.proofs.ToolsLaws.{codeword-fits}
use Rattle.wal_matrix.proofs.expansion.Expansion.solve.Goals as goal

pub fill_solved-requires-clause-room : goal.fill_solved-requires-clause-room
fill_solved-requires-clause-room c =
    let same : c.self.inside.f ≡ c.args.shape.now.f = search rules in
    rw (c.f-faults.ensures.value, c.symbol_size-size.ensures.value)
    (codeword-fits c.args.shape.now.f c.args.shape.now.length (vec_capacity c.self.inside.symbols)
    (rw same at c.self.invariant.fits) c.f-faults.ensures.shape.2)
