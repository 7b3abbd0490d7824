-- What follows from how a get ends.
use Rattle.wal_gateway.proofs.Common.{asked}
use Rattle.wal_gateway.proofs.Endings.{ends_all, ends_fresh, ends_only}
use Rattle.wal_gateway.proofs.gateway.Gateway.get.Goals as goal

pub returns-clause-answers_all : goal.returns-clause-answers_all
returns-clause-answers_all g c =
    ends_all g.H.Hash32.digest c.args.self.now (asked c.args.id.now c.args.from c.args.size c.args.payloads.now) c.serve.result c.serve.new.self c.serve.ensures

pub returns-clause-only_all : goal.returns-clause-only_all
returns-clause-only_all g c =
    ends_only g.H.Hash32.digest c.args.self.now (asked c.args.id.now c.args.from c.args.size c.args.payloads.now) c.serve.result c.serve.new.self c.serve.ensures

pub returns-clause-fresh : goal.returns-clause-fresh
returns-clause-fresh g c =
    ends_fresh g.H.Hash32.digest c.args.self.now (asked c.args.id.now c.args.from c.args.size c.args.payloads.now) c.serve.result c.serve.new.self c.serve.ensures
