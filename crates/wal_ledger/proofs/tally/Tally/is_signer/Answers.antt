use Rattle.wal_ledger.proofs.Common.{ℕ, List, ap, sym, ◌∙◌, and_left, ne_eqb, is_signer_among, has_neighbour}
use Rattle.wal_ledger.proofs.TallyLaws.{tally_signers}
use Rattle.wal_ledger.proofs.tally.Tally.is_signer.Goals as goal

pub returns-then-self-epoch : goal.returns-then-self-epoch
returns-then-self-epoch c f first owns own i within same =
    sym (ap (λ (o : List ℕ). is_signer_among o own c.args.kind c.args.epoch c.args.shard) (sym same)
    ∙ tally_signers f first c.args.epoch c.args.shard owns own c.args.kind c.args.entries.now c.args.links.now c.args.self.now i within
    ∙ and_left _ (has_neighbour (owns c.args.epoch) i.shards c.args.shard) (ne_eqb _ _ c.if-self-epoch.true))
