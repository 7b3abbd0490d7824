use Rattle.wal_store.proofs.Common.{◌∙◌, ap, Some, part_of, with_part, parts_of}
use Rattle.wal_store.proofs.KeptLaws.{some_row, slot_free}
use Rattle.wal_store.proofs.kept.put_part.Goals as goal

pub fill-requires-clause-absent : goal.fill-requires-clause-absent
fill-requires-clause-absent c r at =
    slot_free _ _ c.row_for-place.result _ c.args.part r c.row_for-place.ensures.owns c.row_for-place.ensures.place
    (ap (λ p. part_of p c.args.part) c.row_for-place.ensures.parts ∙ c.requires.absent) at

pub returns-clause-entries : goal.returns-clause-entries
returns-clause-entries c =
    let row = some_row _ _ c.row_for-place.result _ c.row_for-place.ensures.owns c.row_for-place.ensures.place in
    let p = with_part (parts_of c.row_for-place.new.chains row.0) c.args.part (Some c.args.bytes.now) in
    let made = c.row_for-place.ensures in
    rw (← made.parts, row.2.found) (c.fill.ensures.entries row.0 row.1 ∙ row.2.put p ∙ made.entries p)
