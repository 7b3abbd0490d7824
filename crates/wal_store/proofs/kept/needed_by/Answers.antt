use Rattle.wal_store.proofs.Common.{ℕ, is_some, cond, ap, arith}
use Rattle.wal_store.proofs.KeptLaws.{some_row, found_gap}
use Rattle.wal_store.proofs.kept.needed_by.Goals as goal

pub returns-in-Ok : goal.returns-in-Ok
returns-in-Ok c =
    let row = some_row _ _ c.in-Ok.field-0 _ c.requires.owns c.in-Ok.ensures.found in
    omega (arith, c.pages_for.ensures.value, ap {B = ℕ} (λ o. cond (is_some o) 0 1) row.2.found)

pub returns-in-Err : goal.returns-in-Err
returns-in-Err c =
    let none = found_gap _ _ c.in-Err.field-0 _ c.in-Err.ensures.gap c.requires.owns in
    omega (arith, c.pages_for-in-Err.ensures.value, ap {B = ℕ} (λ o. cond (is_some o) 0 1) none)
