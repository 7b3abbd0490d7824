use Rattle.wal_reader.proofs.StandingLaws.{one_payloads}
use Rattle.wal_reader.proofs.intake.Intake.is_settled.Goals as goal

pub returns-clause-settled : goal.returns-clause-settled
returns-clause-settled g c = λ id stream s payloads front rest cut.
    rw (one_payloads g.H.Hash32.digest id _ stream payloads front rest s cut) at
    (c.is_settled.ensures.settled id s.payloads s.heard)
