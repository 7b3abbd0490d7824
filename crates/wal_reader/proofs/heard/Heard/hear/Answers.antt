use Rattle.wal_reader.proofs.Common.{[]}
use Rattle.wal_reader.proofs.HeardLaws.{kept_none}
use Rattle.wal_reader.proofs.heard.Heard.hear.Goals as goal

pub invariant_of-self : goal.invariant_of-self
invariant_of-self g c =
    let none = kept_none g.H.Hash32.digest c.self.inside.id.0 c.new.result.items c.new.ensures.items in
    ([], rw c.replace-kept.ensures.after none)
