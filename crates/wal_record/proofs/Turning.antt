-- The context, and the records of blobs that an entry does not name, after that entry.
use Rattle.std.proofs.Common.{◌≡◌, ℕ, ◌+◌, ◌-◌, ◌≤◌, Bool, true, false, cond, ◌&&◌, ◌||◌, nat_lt, List, ◌∷◌, length, refl, sym, ap, ◌∙◌, arith}
use Rattle.std.proofs.lemmas.Bool.{and_right, le-ltb, both_ways}
use Rattle.std.proofs.Math.Bool.{or-false}
use Rattle.std.specs.List.{list_any}
use mathlib.Core.Path.{fun_ext}
use Rattle.wal_shape.specs.declared.metadata.BlobId.{BlobId}
use Rattle.wal_shape.specs.declared.axis.Side.TheVariants.{Now, Next}
use Rattle.wal_ledger.specs.declared.entry.Entry.{Entry}
use Rattle.wal_ledger.specs.declared.entry.Body.{Body}
use Rattle.wal_ledger.specs.declared.entry.Body.TheVariants.{Register, Ack, Attest, Ready, Begin, Finish}
use Rattle.wal_ledger.specs.declared.entry.Kind.{Kind}
use Rattle.wal_ledger.specs.declared.entry.Kind.TheVariants.{Holds, Denies}
use Rattle.wal_ledger.specs.Shards.{committee_size}
use Rattle.wal_ledger.specs.Ledger.{Log, Phase, phase, reading, writing, is_moving, owners_at, owners_of, own_entries, until_of, until_among, names, is_begin, is_finish, entered, is_signer_among, signers, same_node, readies, ready_shards}
use Rattle.wal_ledger.specs.Kept.{IsLawful}
use Rattle.wal_ledger.specs.Orderly.{IsOrderly}
use Rattle.wal_ledger.proofs.Entering.{phase_push, since_push}
use Rattle.wal_ledger.proofs.Quorums.{owners_in, writes_in, brought_before}
use Rattle.wal_ledger.proofs.HandoverEntries.{entry_in, is_plain, plain_stays, phase_plain, Owned, owned}
use Rattle.wal_ledger.proofs.HandoverTurns.{begun}
use Rattle.wal_record.specs.Record.{within, last_of, votes_with, votes_of, blob_record}
use Rattle.wal_record.specs.Context.{context_of, turn}
use Rattle.wal_record.proofs.Voting.{votes_same}
use Rattle.wal_record.proofs.Stepping.{own_most, last_writing, writers_is}

-- the owners of the epochs so far
owners_kept : (log : Log) (b : Body) (e : ℕ) → IsLawful log → (is_begin b ≡ true → is_moving log ≡ false) → e ≤ writing log → owners_at (entered log b) e ≡ owners_at log e
owners_kept log (Begin owners) e lawful serving le =
    let still : ◌≡◌ {A = ℕ} (cond (is_moving log) 1 0) 0 = ap {B = ℕ} (λ b. cond b 1 0) (serving refl) in
    ap (λ (p : Phase). owners_in log.first log.owners p e) (phase_push log.entries (entry_in log (Begin owners)))
    ∙ brought_before (log.owners ∷ (phase log).brought) owners (e - log.first) (omega (arith, still, lawful.turns))
owners_kept log Finish e lawful serving le = ap (λ (p : Phase). owners_in log.first log.owners p e) (phase_push log.entries (entry_in log Finish))
owners_kept log (Register i until) e lawful serving le = (plain_stays log (Register i until) refl).owners e
owners_kept log (Ack s i) e lawful serving le = (plain_stays log (Ack s i) refl).owners e
owners_kept log (Attest s i) e lawful serving le = (plain_stays log (Attest s i) refl).owners e
owners_kept log (Ready s) e lawful serving le = (plain_stays log (Ready s) refl).owners e

own_kept : (log : Log) (b : Body) (id : BlobId) (own : List Entry) → names id b ≡ false → Owned log b id own → own ≡ own_entries log id
own_kept log b id own other (Owned.stays is n) = is
own_kept log b id own other (Owned.grows is n live) = absurd (both_ways (names id b) other n)
own_kept log b id own other (Owned.anew is n r le) = absurd (both_ways (names id b) other n)

votes_kept : (log : Log) (b : Body) (kind : Kind) (id : BlobId) → IsLawful log → (is_begin b ≡ true → is_moving log ≡ false) → names id b ≡ false → votes_of (entered log b) id kind ≡ votes_of log id kind
votes_kept log b kind id lawful serving other =
    let is : own_entries (entered log b) id ≡ own_entries log id = own_kept log b id _ other (owned log b id) in
    ap (λ (l : List Entry). votes_with log.f (signers (entered log b) id kind) (last_of kind l)) is
    ∙ votes_same log.f (last_of kind (own_entries log id)) (signers log id kind) (signers (entered log b) id kind)
    (λ e s le. ap (λ (o : List ℕ). is_signer_among o (own_entries (entered log b) id) kind e s) (owners_kept log b e lawful serving (omega (arith, last_writing log id kind lawful)))
    ∙ ap (λ (l : List Entry). is_signer_among (owners_at log e) l kind e s) is)

-- the record of a blob after an entry that does not name it
pub record_kept : (log : Log) (b : Body) (id : BlobId) → IsLawful log → (is_begin b ≡ true → is_moving log ≡ false) → names id b ≡ false → blob_record (entered log b) id ≡ blob_record log id
record_kept log b id lawful serving other =
    let until : until_of (entered log b) id ≡ until_of log id = ap until_among (own_kept log b id _ other (owned log b id)) in
    let holds = votes_kept log b Holds id lawful serving other in
    let denies = votes_kept log b Denies id lawful serving other in
    cc

-- ---- The context.

-- the shards that are ready, after an entry that leaves the epoch
ready_after : (log : Log) (b : Body) (s : ℕ) → is_plain b ≡ true → ready_shards (entered log b) s ≡ (ready_shards log s || readies (owners_of Next log) s b)
ready_after log b s plain =
    ap (λ (p : Phase). list_any (λ (x : Entry). readies (owners_in log.first log.owners p (writes_in log.first p)) s x.body) p.since) (phase_plain log b plain)
    ∙ since_push (owners_of Next log) (phase log).since (entry_in log b) s

joined : (a b c : Bool) → (a && (b || c)) ≡ ((a && b) || (a && c))
joined true b c = refl
joined false b c = refl

context_plain : (log : Log) (b : Body) (ready : ℕ → Bool) → is_plain b ≡ true → ((s : ℕ) → within (committee_size log.f) (ready_shards (entered log b)) s ≡ ready s)
    → context_of (entered log b) ≡ record (context_of log) { ready = ready }
context_plain log b ready plain is =
    let stays = plain_stays log b plain in
    let now : owners_of Now (entered log b) ≡ owners_of Now log = stays.owners (reading (entered log b)) ∙ ap (owners_at log) stays.reading in
    let next : owners_of Next (entered log b) ≡ owners_of Next log = stays.owners (writing (entered log b)) ∙ ap (owners_at log) stays.writing in
    let set : ◌≡◌ {A = ℕ → Bool} (within (committee_size log.f) (ready_shards (entered log b))) ready = fun_ext is in
    let epoch = stays.reading in
    let moves = stays.moving in
    cc

same_ready : (log : Log) (b : Body) (s : ℕ) → is_plain b ≡ true → readies (owners_of Next log) s b ≡ false → within (committee_size log.f) (ready_shards (entered log b)) s ≡ within (committee_size log.f) (ready_shards log) s
same_ready log b s plain none = ap (λ c. nat_lt s (committee_size log.f) && c) (ready_after log b s plain ∙ ap (λ c. ready_shards log s || c) none ∙ or-false (ready_shards log s))

orderly : (log : Log) → IsLawful log → is_moving log ≡ false → IsOrderly log
orderly log lawful serving = record {
  turns = lawful.turns;
  epochs = λ id. own_most log id lawful;
  old = λ moving id kind e s live signed other. absurd (both_ways (is_moving log) serving moving);
  lives = λ moving id was. absurd (both_ways (is_moving log) serving moving);
}

context_begin : (log : Log) (owners : List ℕ) → IsLawful log → is_moving log ≡ false → context_of (entered log (Begin owners)) ≡ turn (context_of log) (Begin owners)
context_begin log owners lawful serving =
    let new : Log = entered log (Begin owners) in
    let b = begun log owners (orderly log lawful serving) serving in
    let now : owners_of Now new ≡ owners_of Now log = ap (owners_at new) b.same_epoch ∙ b.owners_kept (reading log) (omega arith) in
    let set : ◌≡◌ {A = ℕ → Bool} (within (committee_size log.f) (ready_shards new)) (λ s. false) = fun_ext (λ s. and_right (nat_lt s (committee_size log.f)) (ready_shards new s) (b.none_ready s)) in
    let moves = b.moving in
    let epoch = b.same_epoch in
    let next = b.owners_next in
    cc

context_finish : (log : Log) → IsLawful log → is_moving log ≡ true → context_of (entered log Finish) ≡ turn (context_of log) Finish
context_finish log lawful moving =
    let new : Log = entered log Finish in
    let is = phase_push log.entries (entry_in log Finish) in
    let one : ◌≡◌ {A = ℕ} (cond (is_moving log) 1 0) 1 = ap {B = ℕ} (λ b. cond b 1 0) moving in
    let epoch : reading new ≡ writing log = ap (λ (p : Phase). log.first + p.finishes) is ∙ omega (arith, one) in
    let stops : is_moving new ≡ false =
    ap (λ (p : Phase). nat_lt p.finishes (length p.brought)) is
    ∙ le-ltb ((phase log).finishes + 1) (length (phase log).brought) (omega (arith, one, lawful.turns)) in
    let still : ◌≡◌ {A = ℕ} (cond (is_moving new) 1 0) 0 = ap {B = ℕ} (λ b. cond b 1 0) stops in
    let written : writing new ≡ writing log = omega (arith, epoch, still) in
    let owners : (e : ℕ) → owners_at new e ≡ owners_at log e = λ e. ap (λ (p : Phase). owners_in log.first log.owners p e) is in
    let now : owners_of Now new ≡ owners_of Next log = owners (reading new) ∙ ap (owners_at log) epoch in
    let next : owners_of Next new ≡ owners_of Next log = owners (writing new) ∙ ap (owners_at log) written in
    let set : ◌≡◌ {A = ℕ → Bool} (within (committee_size log.f) (ready_shards new)) (within (committee_size log.f) (ready_shards log)) =
    fun_ext (λ s. ap (λ c. nat_lt s (committee_size log.f) && c)
    (ap (λ (o : List ℕ). list_any (λ (x : Entry). readies o s x.body) (phase new).since) next
    ∙ ap (λ (p : Phase). list_any (λ (x : Entry). readies (owners_of Next log) s x.body) p.since) is
    ∙ since_push (owners_of Next log) (phase log).since (entry_in log Finish) s
    ∙ or-false (ready_shards log s))) in
    cc

-- the context after an entry
pub context_turn : (log : Log) (b : Body) → IsLawful log → (is_begin b ≡ true → is_moving log ≡ false) → (is_finish b ≡ true → is_moving log ≡ true) → context_of (entered log b) ≡ turn (context_of log) b
context_turn log (Register i until) lawful serving moving = context_plain log (Register i until) (context_of log).ready refl (λ s. same_ready log (Register i until) s refl refl)
context_turn log (Ack t i) lawful serving moving = context_plain log (Ack t i) (context_of log).ready refl (λ s. same_ready log (Ack t i) s refl refl)
context_turn log (Attest t i) lawful serving moving = context_plain log (Attest t i) (context_of log).ready refl (λ s. same_ready log (Attest t i) s refl refl)
context_turn log (Ready t) lawful serving moving =
    context_plain log (Ready t) (turn (context_of log) (Ready t)).ready refl
    (λ s. ap (λ c. nat_lt s (committee_size log.f) && c) (ready_after log (Ready t) s refl) ∙ joined (nat_lt s (committee_size log.f)) (ready_shards log s) (same_node (owners_of Next log) t s)
    ∙ ap (λ (o : List ℕ). within (committee_size log.f) (ready_shards log) s || within (committee_size log.f) (same_node o t) s) (sym (writers_is log)))
context_turn log (Begin owners) lawful serving moving = context_begin log owners lawful (serving refl)
context_turn log Finish lawful serving moving = context_finish log lawful (moving refl)
