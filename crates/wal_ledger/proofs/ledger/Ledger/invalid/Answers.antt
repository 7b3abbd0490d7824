use Rattle.wal_ledger.proofs.Common.{◌≡◌, true, ap, ◌∙◌, arith, lt-ltb, Denies, LedgerState, reading, until_of, is_live, owners_at, own_entries}
use Rattle.wal_ledger.proofs.ledger.Ledger.invalid.Goals as goal

pub returns-then-row-self-clause-value : goal.returns-then-row-self-clause-value
returns-then-row-self-clause-value c =
    let log = c.args.self.now.log in
    let id = c.args.id.now in
    let epoch : c.self.inside.epoch ≡ reading log = c.self.invariant.epoch_is ∙ ap (λ (l : LedgerState). reading l.log) c.self.view_is in
    let live : is_live log id ≡ true = lt-ltb (reading log) (until_of log id) (omega (arith, epoch, c.row-row.ensures.until, c.if-row-self.true)) in
    let known = c.has_quorum.ensures log.f (owners_at log) (own_entries log id) Denies log.entries c.row-row.ensures.row.0 (c.row-row.ensures.row.1.tallies Denies) in
    (λ yes. record { live = live; quorum = known.0 yes }, λ invalid. known.1 invalid.quorum)
