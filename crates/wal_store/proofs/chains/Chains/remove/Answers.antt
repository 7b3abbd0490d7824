use Rattle.wal_store.proofs.Common.{ap, arith, count-give}
use Rattle.wal_store.proofs.ChainLaws.{taken_is}
use Rattle.wal_store.proofs.chains.Chains.remove.Goals as goal

pub returns-clause-free : goal.returns-clause-free
returns-clause-free c =
    let taken = taken_is c.args.self.now.states c.args.page (omega (arith, c.requires)) in
    rw (c.give.ensures.free, ap (λ l. l.states) c.self.view_is) (count-give c.args.self.now.states c.args.page _ taken)
