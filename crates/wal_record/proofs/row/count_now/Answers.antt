use Rattle.std.proofs.Common.{ℕ, nat_eq, sym, ◌∙◌}
use Rattle.std.proofs.lemmas.Bool.{ne_eqb, and_left}
use Rattle.wal_ledger.specs.Shards.{committee_size}
use Rattle.wal_ledger.proofs.Quorums.{count_below-none}
use Rattle.wal_record.specs.Context.{signed_in, writes}
use Rattle.wal_record.specs.Told.{context_told, votes_told}
use Rattle.wal_record.proofs.row.count_now.Goals as goal

pub returns-else-tally-writing : goal.returns-else-tally-writing
returns-else-tally-writing c =
    let votes = votes_told c.args.tally.now in
    let w : ℕ = writes (context_told c.args.epoch.now) in
    sym (count_below-none (committee_size c.args.epoch.now.f) (signed_in votes w) (λ s. and_left (nat_eq votes.epoch w) (votes.signed s) (ne_eqb votes.epoch w (λ h. c.if-tally-writing.false (h ∙ sym c.writing.ensures)))))
