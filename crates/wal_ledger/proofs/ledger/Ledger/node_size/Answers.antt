use Rattle.wal_ledger.proofs.Common.{ℕ, List, ap, ◌∙◌, count_below, same_node, node_size}
use Rattle.wal_ledger.proofs.Quorums.{owners_length}
use Rattle.wal_ledger.proofs.ledger.Ledger.node_size.Goals as goal

pub returns : goal.returns
returns c =
    c.node_size.ensures
    ∙ ap (λ (n : ℕ). count_below n (same_node c.writers.result.now c.args.shard)) (owners_length _ c.writers.result.now c.writers.ensures.owned)
    ∙ ap (λ (o : List ℕ). node_size c.args.self.now.log.f o c.args.shard) c.writers.ensures.value
