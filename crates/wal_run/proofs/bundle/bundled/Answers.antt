use Rattle.wal_run.proofs.Common.{inl, inr, refl, lacks, succeeds}
use Rattle.wal_run.proofs.bundle.bundled.Goals as goal

pub returns-in-Ok : goal.returns-in-Ok
returns-in-Ok g c = succeeds c.in-Ok.bytes c.in-Ok.ensures.bundled

pub returns-in-Err-TooMany : goal.returns-in-Err-TooMany
returns-in-Err-TooMany g c = λ other. lacks _ (inl (rw c.in-Err-TooMany.field-0-is at c.in-Err-TooMany.ensures.bundled, refl))

pub returns-in-Err-TooLong : goal.returns-in-Err-TooLong
returns-in-Err-TooLong g c = λ other. lacks _ (inr (rw c.in-Err-TooLong.field-0-is at c.in-Err-TooLong.ensures.bundled, refl))
