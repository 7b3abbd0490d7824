use Rattle.wal_erasure.proofs.solution.solve_missing.Goals as goal

pub solve_strip-requires-clause-factors : goal.solve_strip-requires-clause-factors
solve_strip-requires-clause-factors c =
    rw c.points-count.ensures.value at c.fill_factors.ensures
