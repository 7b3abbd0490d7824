use Rattle.wal_ledger.proofs.Common.{◌≡◌, ℕ, ap, ◌∙◌, count_among, log_of, Log, writing, owners_at, own_entries}
use Rattle.wal_ledger.proofs.RowsKept.{own_within}
use Rattle.wal_ledger.proofs.ledger.Ledger.count.Goals as goal

pub returns-clause-value : goal.returns-clause-value
returns-clause-value c =
    let i = c.self.inside in
    let log : Log = log_of i.f i.first i.owners i.book in
    let id = c.args.id.now in
    let epoch : c.writing_epoch.result ≡ writing log = rw (← c.self.view_is) at c.writing_epoch.ensures.value in
    rw (← c.self.view_is)
    (c.count_in.ensures.counted log.f log.first (owners_at log) (own_entries log id) c.args.kind log.entries i.book.links
    (rw (c.tally.ensures, c.find-row.ensures) ((c.self.invariant.rows id).tallies c.args.kind)) (rw epoch (own_within log id c.self.invariant.lawful))
    ∙ ap (λ (w : ℕ). count_among log.f (owners_at log) (own_entries log id) c.args.kind w) epoch)
