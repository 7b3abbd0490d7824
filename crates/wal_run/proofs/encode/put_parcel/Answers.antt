use Rattle.wal_run.proofs.Common.{refl}
use Rattle.wal_run.proofs.Parts.{failed_before, failed_after}
use Rattle.wal_run.proofs.encode.put_parcel.Goals as goal

pub returns-in_err-put_metadata-clause-part : goal.returns-in_err-put_metadata-clause-part
returns-in_err-put_metadata-clause-part g c = failed_before _ _ _ _ _ _ refl (rw c.view.ensures.value at c.in_err-put_metadata.ensures.part)

pub returns-clause-part : goal.returns-clause-part
returns-clause-part g c = failed_after _ _ _ _ _ _ _ refl (rw c.view.ensures.value at c.in_ok-put_metadata.ensures.whole) c.put_slivers.ensures.part
