use Rattle.wal_ledger.proofs.Common.{◌≡◌, ◌<◌, ℕ, false, List, length, sym, ap, subst, ◌∙◌, arith, Next, Entry, Tally, committee_size, node_size, tally_after, row_in, tally_of, with_tally, Log, LedgerState, writing, same_node, owners_at, owners_of, signers, own_entries, log_of}
use Rattle.wal_ledger.proofs.TallyLaws.{tally_most, count_below-most}
use Rattle.wal_ledger.proofs.RowsEnter.{kept_claim}
use Rattle.wal_ledger.proofs.ledger.Ledger.enter_claim.Goals as goal

pub after-requires-clause-few : goal.after-requires-clause-few
after-requires-clause-few c =
    let i = c.self.inside in
    let log : Log = log_of i.f i.first i.owners i.book in
    let id = c.args.id.now in
    rw (c.tally-tally.ensures, c.find-row.ensures)
    (tally_most i.f (owners_at log) (own_entries log id) c.args.kind log.entries i.book.links (tally_of c.args.kind (row_in i.table id)) ((c.self.invariant.rows id).tallies c.args.kind))

pub after-requires-clause-part : goal.after-requires-clause-part
after-requires-clause-part c =
    let log = c.args.self.now.log in
    omega (arith, c.node_size-size.ensures, ap (λ (l : LedgerState). committee_size l.log.f) c.self.view_is, count_below-most (committee_size log.f) (same_node (owners_of Next log) c.args.shard))

pub after-requires-clause-place : goal.after-requires-clause-place
after-requires-clause-place c =
    omega (arith, ap (λ (l : List Entry). length l) c.entries.ensures.value, c.entries.ensures.fit, ap (λ (l : LedgerState). l.spare) c.self.view_is, c.requires.room)

pub invariant_of-self : goal.invariant_of-self
invariant_of-self c =
    let i = c.self.inside in
    let old : Log = log_of i.f i.first i.owners i.book in
    let view : old ≡ c.args.self.now.log = ap (λ (l : LedgerState). l.log) c.self.view_is in
    let id = c.args.id.now in
    let kind = c.args.kind in
    let t : Tally = tally_of kind (row_in i.table id) in
    let place : ℕ = length c.entries.result.now in
    let size : ℕ = c.node_size-size.result in
    let sized : size ≡ node_size i.f (owners_of Next old) c.args.shard = c.node_size-size.ensures ∙ sym (ap (λ (l : Log). node_size l.f (owners_of Next l) c.args.shard) view) in
    let tally : c.tally-tally.result ≡ t = c.tally-tally.ensures ∙ ap (tally_of kind) c.find-row.ensures in
    let epoch : c.writing_epoch-epoch.result ≡ writing old = c.writing_epoch-epoch.ensures.value ∙ sym (ap writing view) in
    let row : c.with.result ≡ with_tally kind (tally_after i.f (writing old) place size t) (row_in i.table id) =
    cc (c.with.ensures, c.after.ensures.value, epoch, tally, c.find-row.ensures) in
    rw (c.push.ensures, c.link_in.ensures, c.body.ensures, epoch, tally)
    (kept_claim i.f i.first i.owners i.epoch i.moving i.reads_at i.writes_at i.book i.table i.ready i.total c.self.invariant (subst (λ (l : LedgerState). 0 < l.spare) (sym c.self.view_is) c.requires.room)
    place size c.args.shard kind id c.set.new.self (subst (λ (l : Log). c.args.shard < committee_size l.f) (sym view) c.requires.shard)
    (subst (λ (l : Log). signers l id kind (writing l) c.args.shard ≡ false) (sym view) c.requires.first_time)
    (ap (λ (l : List Entry). length l) c.entries.ensures.value) sized c.set.ensures.ids c.set.ensures.spare c.set.ensures.live (λ q. rw (← row) (c.set.ensures.rows q)))

pub returns-clause-lawful : goal.returns-clause-lawful
returns-clause-lawful c = (invariant_of-self c).lawful
