use Rattle.wal_ledger.proofs.Common.{◌≡◌, true, ap, ◌∙◌, arith, lt-ltb, Holds, LedgerState, reading, until_of, is_live, owners_at, own_entries}
use Rattle.wal_ledger.proofs.RowsKept.{certificate_some, certificate_none}
use Rattle.wal_ledger.proofs.ledger.Ledger.certificate.Goals as goal

pub returns-clause-some : goal.returns-clause-some
returns-clause-some c =
    let log = c.args.self.now.log in
    let id = c.args.id.now in
    let kept = c.row-row.ensures.row in
    let epoch : c.self.inside.epoch ≡ reading log = c.self.invariant.epoch_is ∙ ap (λ (l : LedgerState). reading l.log) c.self.view_is in
    let live : is_live log id ≡ true = lt-ltb (reading log) (until_of log id) (omega (arith, epoch, c.row-row.ensures.until, c.if-row-self.false)) in
    certificate_some log id c.least_quorum.result live (c.least_quorum.ensures.some log.f (owners_at log) (own_entries log id) Holds log.entries kept.0 (kept.1.tallies Holds))

pub returns-clause-none : goal.returns-clause-none
returns-clause-none c =
    let log = c.args.self.now.log in
    let id = c.args.id.now in
    let kept = c.row-row.ensures.row in
    certificate_none log id c.least_quorum.result (c.least_quorum.ensures.none log.f (owners_at log) (own_entries log id) Holds log.entries kept.0 (kept.1.tallies Holds))
