use Rattle.wal_store.proofs.Common.{◌∙◌, ℕ, is_some, cond, slice_get, ap, arith}
use Rattle.wal_store.proofs.KeptLaws.{some_row, found_gap, slice_get-insert, made}
use Rattle.wal_store.proofs.kept.row_for.Goals as goal

pub add_row-requires-clause-free : goal.add_row-requires-clause-free
add_row-requires-clause-free c = c.requires.free (found_gap _ _ c.in-Err.place _ c.in-Err.ensures.gap c.requires.owns)

pub returns-in-Ok-clause-free : goal.returns-in-Ok-clause-free
returns-in-Ok-clause-free c =
    let row = some_row _ _ c.in-Ok.place _ c.requires.owns c.in-Ok.ensures.found in
    omega (arith, ap {B = ℕ} (λ o. cond (is_some o) 0 1) row.2.found)

pub returns-in-Err-clause-free : goal.returns-in-Err-clause-free
returns-in-Err-clause-free c =
    let none = found_gap _ _ c.in-Err.place _ c.in-Err.ensures.gap c.requires.owns in
    omega (arith, c.add_row.ensures.free, ap {B = ℕ} (λ o. cond (is_some o) 0 1) none)

pub returns-in-Err-clause-place : goal.returns-in-Err-clause-place
returns-in-Err-clause-place c =
    ap (λ ks. slice_get ks c.in-Err.place) c.add_row.ensures.ids ∙ slice_get-insert _ c.in-Err.place c.args.id.now c.in-Err.ensures.gap.within

pub returns-in-Err-clause-parts : goal.returns-in-Err-clause-parts
returns-in-Err-clause-parts c = (made _ _ _ _ _ _ c.requires.owns c.in-Err.ensures.gap c.add_row.ensures.entries).0

pub returns-in-Err-clause-entries : goal.returns-in-Err-clause-entries
returns-in-Err-clause-entries c = (made _ _ _ _ _ _ c.requires.owns c.in-Err.ensures.gap c.add_row.ensures.entries).1
