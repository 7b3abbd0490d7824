use Rattle.wal_ledger.proofs.Common.{◌≡◌, ℕ, List, sym, ap, ◌∙◌, Next, log_of, Log, LedgerState, writing, owners_at, owners_of, own_entries, signers, is_signer_among}
use Rattle.wal_ledger.proofs.RowsKept.{own_within}
use Rattle.wal_ledger.proofs.ledger.Ledger.is_signer.Goals as goal

pub returns : goal.returns
returns c =
    let i = c.self.inside in
    let log : Log = log_of i.f i.first i.owners i.book in
    let view : log ≡ c.args.self.now.log = ap (λ (l : LedgerState). l.log) c.self.view_is in
    let own = own_entries log c.args.id.now in
    let epoch : c.writing_epoch.result ≡ writing log = c.writing_epoch.ensures.value ∙ sym (ap writing view) in
    let owned : c.writers.result.now ≡ owners_at log (writing log) = c.writers.ensures.value ∙ sym (ap (owners_of Next) view) in
    c.is_signer.ensures log.f log.first (owners_at log) own
    (rw (c.entries.ensures.value, c.links.ensures.value, c.tally.ensures, c.find-row.ensures) ((c.self.invariant.rows c.args.id.now).tallies c.args.kind))
    (rw epoch (own_within log c.args.id.now c.self.invariant.lawful)) (ap (owners_at log) epoch ∙ sym owned)
    ∙ ap (λ (o : List ℕ). is_signer_among o own c.args.kind c.writing_epoch.result c.args.shard) owned
    ∙ ap (λ (w : ℕ). is_signer_among (owners_at log (writing log)) own c.args.kind w c.args.shard) epoch
    ∙ ap (λ (l : Log). signers l c.args.id.now c.args.kind (writing l) c.args.shard) view
