-- The code is that by the rows that are left.
use Rattle.walrus_c.proofs.Common.{◌≡◌, map, length, first_code}
use Rattle.walrus_c.proofs.codes.first_code.Given as goal

abbrev pub invariant-loop-rows : goal.invariant-loop-rows
invariant-loop-rows l =
    first_code (map (λ row. (row.0, row.1, row.2.now)) l.rows) l.status l.text ≡ first_code (map (λ row. (row.0, row.1, row.2.now)) l.fn.rows) l.status l.text

abbrev pub decreases-loop-rows : goal.decreases-loop-rows
decreases-loop-rows l = length l.rows
