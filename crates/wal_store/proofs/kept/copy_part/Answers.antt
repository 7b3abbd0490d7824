use Rattle.wal_store.proofs.Common.{◌+◌, ◌≤◌, [], length, unwrap_or, ap, arith, ◌∙◌, sym, pages_for, links, joined}
use Rattle.wal_store.proofs.ChainLaws.{pages_hold}
use Rattle.wal_store.proofs.KeptLaws.{part_gap, part_at, slot_at, part_none, within_front}
use Rattle.wal_store.proofs.kept.copy_part.Goals as goal

pub read-requires : goal.read-requires
read-requires c =
    let s = slot_at _ _ _ _ _ _ _ _ c.requires.owns c.in-Ok.ensures.found c.row.ensures c.slot.ensures c.in-Some.is in
    let count = c.pages_for.ensures.value in
    let long = ap (λ o. length (unwrap_or o [])) s.bytes in
    record {
      taken = λ k. rw count (s.taken k);
      range = omega (arith, c.requires.range, long, s.sized.long, count, pages_hold c.in-Some.slot.size);
    }

pub returns : goal.returns
returns c =
    let s = slot_at _ _ _ _ _ _ _ _ c.requires.owns c.in-Ok.ensures.found c.row.ensures c.slot.ensures c.in-Some.is in
    let slot = c.in-Some.slot in let l = c.args.chains.now in
    let range : c.args.at + length c.args.out.now ≤ slot.size =
    omega (arith, c.requires.range, ap (λ o. length (unwrap_or o [])) s.bytes, s.sized.long) in
    let whole = joined l.states (links l.next (pages_for slot.size) slot.first) in
    c.read.ensures ∙ rw (c.pages_for.ensures.value, s.bytes) (sym (within_front slot.size c.args.at _ whole range))

pub unreachable-requires : goal.unreachable-requires
unreachable-requires c =
    let at = c.in-Ok.ensures.found in
    part_none _ (part_at _ _ _ _ _ _ _ _ c.requires.owns at c.row.ensures c.slot.ensures c.in-None.is) c.requires.held

pub unreachable-requires-in-Err : goal.unreachable-requires-in-Err
unreachable-requires-in-Err c =
    part_none _ (part_gap _ _ c.in-Err.field-0 _ c.args.part c.requires.owns c.in-Err.ensures.gap) c.requires.held
