use Rattle.wal_ledger.proofs.Common.{◌≡◌, true, sym, subst, ap, ◌∙◌, arith, Holds, IsDated, IsLawful, log_of, LedgerState, writing, is_moving, owners_at, own_entries}
use Rattle.wal_ledger.proofs.Handover.{must_hold_now}
use Rattle.wal_ledger.proofs.ledger.Ledger.must_hold.Goals as goal

pub returns-then-row-epoch-clause-value : goal.returns-then-row-epoch-clause-value
returns-then-row-epoch-clause-value c =
    let i = c.self.inside in
    let log = c.args.self.now.log in
    let view : log_of i.f i.first i.owners i.book ≡ log = ap (λ (l : LedgerState). l.log) c.self.view_is in
    let kept = c.row-row.ensures.row in
    let moves : is_moving (log_of i.f i.first i.owners i.book) ≡ true = sym c.self.invariant.moving_is ∙ c.if-not-self.false in
    let lawful = subst IsLawful view c.self.invariant.lawful in
    let dated = subst IsDated view (c.self.invariant.lawful.dated moves) in
    let epoch : c.writing_epoch-epoch.result ≡ writing log = c.writing_epoch-epoch.ensures.value in
    let now = must_hold_now log c.args.id.now lawful dated (sym (ap is_moving view) ∙ moves) in
    let known = rw epoch at (c.has_quorum_before.ensures log.f (owners_at log) (own_entries log c.args.id.now) Holds log.entries kept.0 (kept.1.tallies Holds)) in
    (λ yes. now.1 (omega (arith, epoch, c.row-row.ensures.until, c.if-row-epoch.true), known.0 yes), λ must. known.1 (now.0 must).1)
