use Rattle.wal_store.proofs.Common.{arith, Some, ap, sym}
use Rattle.wal_store.proofs.KeptLaws.{part_gap, part_at, slot_at}
use Rattle.wal_store.proofs.kept.size_of.Goals as goal

pub returns-in-Some : goal.returns-in-Some
returns-in-Some c =
    let s = slot_at _ _ _ _ _ _ _ _ c.requires c.in-Ok.ensures.found c.row.ensures c.slot.ensures c.in-Some.is in
    record {
      value = rw s.bytes (ap (λ n. Some n) (sym s.sized.long));
      range = (omega (arith, s.sized.some), s.sized.most);
    }

pub returns-in-None-clause-value : goal.returns-in-None-clause-value
returns-in-None-clause-value c =
    rw (part_at _ _ _ _ _ _ _ _ c.requires c.in-Ok.ensures.found c.row.ensures c.slot.ensures c.in-None.is)

pub returns-in-Err-clause-value : goal.returns-in-Err-clause-value
returns-in-Err-clause-value c = rw (part_gap _ _ c.in-Err.field-0 _ c.args.part c.requires c.in-Err.ensures.gap)
