use Rattle.wal_ledger.proofs.Common.{ap, arith, Next, committee_size, Log, LedgerState, owners_of, same_node, ready_shards, log_of}
use Rattle.wal_ledger.proofs.TallyLaws.{count_below-most}
use Rattle.wal_ledger.proofs.RowsEnter.{kept_ready}
use Rattle.wal_ledger.proofs.ledger.Ledger.enter_ready.Goals as goal

pub raise-requires : goal.raise-requires
raise-requires c = omega (arith, c.self.invariant.nodes, c.writer-node.ensures.below, ap (λ (l : LedgerState). committee_size l.log.f) c.self.view_is)

pub overflow_add-self : goal.overflow_add-self
overflow_add-self c =
    let i = c.self.inside in
    let old : Log = log_of i.f i.first i.owners i.book in
    let log = c.args.self.now.log in
    omega (arith, c.self.invariant.lawful.few_faults, c.self.invariant.counted, count_below-most (committee_size i.f) (ready_shards old), c.node_size-size.ensures, ap (λ (l : LedgerState). committee_size l.log.f) c.self.view_is, count_below-most (committee_size log.f) (same_node (owners_of Next log) c.args.shard))

pub invariant_of-self : goal.invariant_of-self
invariant_of-self c =
    let i = c.self.inside in
    let is = c.self.view_is in
    rw (c.push.ensures, c.raise.ensures, c.writing_epoch-epoch.ensures.value, ← is)
    (kept_ready i.f i.first i.owners i.epoch i.moving i.reads_at i.writes_at i.book i.table i.ready i.total c.self.invariant
    (rw (← is) at c.requires.room) c.args.shard c.writer-node.result c.node_size-size.result (rw (← is) at c.requires.shard)
    (rw (← is) at c.requires.first_time) (rw (← is) at c.writer-node.ensures.value) (rw (← is) at c.writer-node.ensures.below)
    (rw (← is) at c.node_size-size.ensures))

pub returns-clause-lawful : goal.returns-clause-lawful
returns-clause-lawful c = (invariant_of-self c).lawful
