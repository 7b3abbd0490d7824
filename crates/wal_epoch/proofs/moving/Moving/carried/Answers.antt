use Rattle.std.proofs.Common.{sym, ◌∙◌}
use Rattle.wal_ledger.specs.Shards.{committee_size}
use Rattle.wal_epoch.proofs.Lists.{among_below}
use Rattle.wal_epoch.proofs.moving.Moving.carried.Goals as goal

pub node-requires-clause-shard : goal.node-requires-clause-shard
node-requires-clause-shard c = among_below 0 (committee_size c.self.inside.ledger.log.f) c.self.inside.stays c.args.shard c.self.invariant.staying_shards (sym c.among.ensures ∙ c.if-not-among.false)

pub node-requires-then-correct-clause-shard : goal.node-requires-then-correct-clause-shard
node-requires-then-correct-clause-shard c = among_below 0 (committee_size c.self.inside.ledger.log.f) c.self.inside.stays c.args.shard c.self.invariant.staying_shards (sym c.among.ensures ∙ c.if-not-among.false)
