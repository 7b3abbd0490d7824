use Rattle.wal_reader.proofs.Common.{[], refl}
use Rattle.wal_reader.proofs.HeardLaws.{kept_none}
use Rattle.wal_reader.proofs.heard.Heard.create.Goals as goal

pub invariant_of-result : goal.invariant_of-result
invariant_of-result g c = ([], kept_none g.H.Hash32.digest c.args.id.now.0 c.new.result.items c.new.ensures.items)

pub returns : goal.returns
returns g c = (refl, kept_none g.H.Hash32.digest c.args.id.now.0 c.new.result.items c.new.ensures.items)
