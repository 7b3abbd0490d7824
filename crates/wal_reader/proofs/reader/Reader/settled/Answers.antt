use Rattle.wal_reader.proofs.reader.Reader.settled.Goals as goal

pub returns-in-None-clause-settled : goal.returns-in-None-clause-settled
returns-in-None-clause-settled g c = λ id stream s payloads front rest cut.
    c.is_settled.ensures.settled id stream (rw (← c.self.view_is) at s).1 payloads front rest cut
