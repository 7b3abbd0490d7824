use Rattle.wal_run.proofs.Common.{refl}
use Rattle.wal_run.proofs.Parts.{failed_before, failed_after, put_both}
use Rattle.wal_run.proofs.slivers.put_apart.Goals as goal

pub returns-in_err-put_all-clause-part : goal.returns-in_err-put_all-clause-part
returns-in_err-put_all-clause-part g c =
    failed_before _ _ _ _ _ _ refl (rw c.bytes.ensures at c.in_err-put_all.ensures.part)

pub returns-clause-whole : goal.returns-clause-whole
returns-clause-whole g c =
    put_both _ _ _ _ _ _ _ refl (rw c.bytes.ensures at c.in_ok-put_all.ensures.whole) c.put_column.ensures.whole

pub returns-clause-part : goal.returns-clause-part
returns-clause-part g c =
    failed_after _ _ _ _ _ _ _ refl (rw c.bytes.ensures at c.in_ok-put_all.ensures.whole) c.put_column.ensures.part
