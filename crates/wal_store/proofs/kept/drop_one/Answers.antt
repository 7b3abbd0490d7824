use Rattle.wal_store.proofs.Common.{◌∙◌, sym}
use Rattle.wal_store.proofs.KeptLaws.{found_gap, dropped_none, part_gone}
use Rattle.wal_store.proofs.kept.drop_one.Goals as goal

pub returns-in-Err-clause-entries : goal.returns-in-Err-clause-entries
returns-in-Err-clause-entries c =
    dropped_none _ c.args.id.now c.args.part (found_gap _ _ c.in-Err.field-0 _ c.in-Err.ensures.gap c.requires)

pub returns-else-is_bare-clause-entries : goal.returns-else-is_bare-clause-entries
returns-else-is_bare-clause-entries c =
    part_gone _ _ _ _ _ _ c.args.part _ _ c.requires c.clear.ensures.owns c.in-Ok.ensures.found c.clear.ensures.ids
    c.row.ensures (sym c.is_bare.ensures ∙ c.if-is_bare.false) c.clear.ensures.entries

pub returns-then-is_bare-clause-entries : goal.returns-then-is_bare-clause-entries
returns-then-is_bare-clause-entries c =
    c.remove_row.ensures.entries
    ∙ part_gone _ _ _ _ _ _ c.args.part _ _ c.requires c.clear.ensures.owns c.in-Ok.ensures.found c.clear.ensures.ids
    c.row.ensures (sym c.is_bare.ensures ∙ c.if-is_bare.true) c.clear.ensures.entries
