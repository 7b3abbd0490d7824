use Rattle.wal_reader.proofs.SettledLaws.{settled_heard}
use Rattle.wal_reader.proofs.heard.Heard.is_settled.Goals as goal

pub returns-clause-settled : goal.returns-clause-settled
returns-clause-settled g c = λ id payloads heard.
    settled_heard g.H.Hash32.digest id c.args.self.now payloads c.is_settled.result heard
    (rw (← c.self.view_is) c.is_settled.ensures)
