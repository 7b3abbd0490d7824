use Rattle.wal_serve.proofs.Common.{[], arith, Consumes-kept, Consumes-nil, Takes}
use Rattle.wal_serve.proofs.TakingLaws.{past_ends, past_more}
use Rattle.wal_serve.proofs.taking.past.Goals as goal

pub returns-in-Ok-eq0-clause-takes : goal.returns-in-Ok-eq0-clause-takes
returns-in-Ok-eq0-clause-takes g c =
    let read = c.in-Ok-eq0.ensures in
    ([], past_ends _ _ _ c.in-Ok-eq0.field-0 c.read.new.into read.bytes.0 read.bound.1 c.in-Ok-eq0.field-0-test (read.bytes.1 c.in-Ok-eq0.field-0-test (omega (arith, c.read.auto.into))))

pub returns-in-Ok-clause-takes : goal.returns-in-Ok-clause-takes
returns-in-Ok-clause-takes g c =
    let read = c.in-Ok.ensures in
    past_more _ _ _ c.in-Ok.field-0 c.read.new.into read.bytes.0 read.bound.0 c.in-Ok.field-0-test.1 (omega (arith, c.read.auto.into))

pub returns-in-Err-clause-takes : goal.returns-in-Err-clause-takes
returns-in-Err-clause-takes g c = ([], Takes.failed [] (Consumes-kept _ _ _ [] (Consumes-nil _) c.in-Err.ensures.bytes) (omega arith) (omega arith) c.in-Err.ensures.failed)
