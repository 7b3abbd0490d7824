use Rattle.wal_store.proofs.Common.{ap, count-take}
use Rattle.wal_store.proofs.chains.Chains.prepend.Goals as goal

pub returns-clause-free : goal.returns-clause-free
returns-clause-free c =
    let same = ap (λ l. l.states) c.self.view_is in
    let free = rw same at c.take-page.ensures.free in
    rw (c.take-page.ensures.taken, same) (count-take c.args.self.now.states c.take-page.result _ free)
