-- The record of a blob after one more entry of the ledger.
use Rattle.std.proofs.Common.{◌≡◌, ℕ, ◌<◌, ◌≤◌, max, Bool, true, false, cond, ◌&&◌, ◌||◌, nat_eq, List, [], ◌∷◌, ◌++◌, All, refl, sym, ap, ◌∙◌, subst, arith}
use Rattle.std.proofs.lemmas.Bool.{eq-eqb, ne_eqb, and_right, and_left, le-leb, lt-leb, false≢true}
use Rattle.std.proofs.Math.Bool.{or-false}
use Rattle.wal_shape.specs.declared.metadata.BlobId.{BlobId}
use Rattle.wal_shape.specs.declared.axis.Side.TheVariants.{Now, Next}
use Rattle.wal_ledger.specs.declared.entry.Entry.{Entry}
use Rattle.wal_ledger.specs.declared.entry.Body.{Body}
use Rattle.wal_ledger.specs.declared.entry.Body.TheVariants.{Register, Ack, Attest, Ready, Begin, Finish}
use Rattle.wal_ledger.specs.declared.entry.Kind.{Kind}
use Rattle.wal_ledger.specs.declared.entry.Kind.TheVariants.{Holds, Denies}
use Rattle.wal_ledger.specs.Ledger.{Log, History, history_of, reading, writing, is_moving, owners_at, owners_of, own_entries, until_of, until_among, names, entered, signs_for, is_signer_among, signers, same_node}
use Rattle.wal_ledger.specs.Answers.{claim_of}
use Rattle.wal_ledger.specs.Kept.{IsLawful}
use Rattle.wal_ledger.proofs.Entering.{history_of-push, own_all}
use Rattle.wal_ledger.proofs.TallyLaws.{signers_push, signs_one, signs_claim}
use Rattle.wal_ledger.proofs.Handover.{until_push}
use Rattle.wal_ledger.proofs.HandoverEntries.{entry_in, is_plain, plain_stays, Owned, owned, until_same}
use Rattle.wal_ledger.proofs.HandoverOrder.{claim_plain, is_claim}
use Rattle.wal_ledger.proofs.RowsPlace.{id_same, id_itself}
use Rattle.wal_record.specs.Record.{is_claim_of, last_of, Votes, votes_with, votes_of, no_votes, no_record, BlobRecord, blob_record}
use Rattle.wal_record.specs.Context.{context_of, writers, voted, step}
use Rattle.wal_record.proofs.Last.{last_push, last_most, signers_late, signs_not}
use Rattle.wal_record.proofs.Voting.{votes_none, votes_same, votes_voted}

-- an identifier's own entries are of at most the writing epoch
pub own_most : (log : Log) (id : BlobId) → IsLawful log → All (λ x. x.epoch ≤ writing log) (own_entries log id)
own_most log id lawful = own_all (λ (x : Entry). x.epoch ≤ writing log) log.first id log.entries (own_entries log id) refl lawful.none_ahead

pub last_writing : (log : Log) (id : BlobId) (kind : Kind) → IsLawful log → last_of kind (own_entries log id) ≤ writing log
last_writing log id kind lawful = last_most kind (writing log) (own_entries log id) (own_most log id lawful)

-- the node of each shard of the writing epoch's committee
pub writers_is : (log : Log) → writers (context_of log) ≡ owners_of Next log
writers_is log = by (is_moving log) refl
  where
    by : (m : Bool) → is_moving log ≡ m → cond m (cond m (owners_of Next log) []) (owners_of Now log) ≡ owners_of Next log
    by true moves = refl
    by false serves = let same : reading log ≡ writing log = omega (arith, ap {B = ℕ} (λ m. cond m 1 0) serves) in ap (owners_at log) same

-- a record by its parts
blob_same : (m n : ℕ) (h i d e : Votes) → m ≡ n → h ≡ i → d ≡ e → ◌≡◌ {A = BlobRecord} (record { until = m; holds = h; denies = d }) (record { until = n; holds = i; denies = e })
blob_same m n h i d e until holds denies = cc

-- ---- A claim.

claims_so : (kind : Kind) (shard : ℕ) (id : BlobId) → is_claim_of kind (claim_of kind shard id) ≡ true
claims_so kind shard id = grind arith

-- a claim is added to the entries of its identifier
own_claimed : (log : Log) (kind : Kind) (shard : ℕ) (id : BlobId) → own_entries (entered log (claim_of kind shard id)) id ≡ own_entries log id ++ entry_in log (claim_of kind shard id) ∷ []
own_claimed log kind shard id =
    let x = entry_in log (claim_of kind shard id) in
    ap (λ (c : History). c.own) (history_of-push log.first log.entries x id)
    ∙ (is_claim kind shard id).own (writing log) id (history_of log.first log.entries id)
    ∙ ap (λ b. cond b (own_entries log id ++ x ∷ []) (own_entries log id)) (id_itself id)

-- the votes of its kind
pub votes_claimed : (log : Log) (kind : Kind) (shard : ℕ) (id : BlobId) → IsLawful log
    → votes_of (entered log (claim_of kind shard id)) id kind ≡ voted log.f (writing log) (owners_of Next log) shard (votes_of log id kind)
votes_claimed log kind shard id lawful =
    ap (votes_with log.f (signers new id kind)) last_is
    ∙ votes_voted log.f last w shard (owners_of Next log) (signers log id kind) (signers new id kind) le here before
    (λ e s past. signers_late (owners_at log e) kind e s own past)
  where
    b : Body
    b = claim_of kind shard id

    new : Log
    new = entered log b

    own : List Entry
    own = own_entries log id

    w : ℕ
    w = writing log

    last : ℕ
    last = last_of kind own

    le : last ≤ w
    le = last_writing log id kind lawful

    last_is : last_of kind (own_entries new id) ≡ w
    last_is =
        ap (last_of kind) (own_claimed log kind shard id) ∙ last_push kind own (entry_in log b)
        ∙ (let most : ◌≡◌ {A = ℕ} (max last w) w = omega (arith, le) in rw (claims_so kind shard id) most)

    pushed : (e s : ℕ) → signers new id kind e s ≡ (signers log id kind e s || (nat_eq w e && signs_for (owners_at log e) kind s b))
    pushed e s =
        ap (λ (o : List ℕ). is_signer_among o (own_entries new id) kind e s) ((plain_stays log b (claim_plain kind shard id).0).owners e)
        ∙ ap (λ (l : List Entry). is_signer_among (owners_at log e) l kind e s) (own_claimed log kind shard id)
        ∙ signers_push (owners_at log e) own kind (entry_in log b) e s

    here : (s : ℕ) → signers new id kind w s ≡ (signers log id kind w s || same_node (owners_of Next log) shard s)
    here s =
        pushed w s
        ∙ ap (λ c. signers log id kind w s || c) (ap (λ c. c && signs_for (owners_at log w) kind s b) (eq-eqb w w refl) ∙ signs_one (owners_at log w) kind shard s b (signs_claim kind shard id))

    before : (e s : ℕ) → e < w → signers new id kind e s ≡ signers log id kind e s
    before e s lt =
        pushed e s
        ∙ ap (λ c. signers log id kind e s || c) (and_left (nat_eq w e) (signs_for (owners_at log e) kind s b) (ne_eqb w e (λ same. omega arith)))
        ∙ or-false (signers log id kind e s)

-- ---- What makes no claim of a kind.

-- adds nothing to the votes
votes_quiet : (log : Log) (b : Body) (kind : Kind) (id : BlobId) → is_plain b ≡ true → is_claim_of kind b ≡ false
    → own_entries (entered log b) id ≡ own_entries log id ++ entry_in log b ∷ [] → votes_of (entered log b) id kind ≡ votes_of log id kind
votes_quiet log b kind id plain none is =
    ap (votes_with log.f (signers (entered log b) id kind)) last_is
    ∙ votes_same log.f (last_of kind (own_entries log id)) (signers log id kind) (signers (entered log b) id kind) (λ e s le. same e s)
  where
    last_is : last_of kind (own_entries (entered log b) id) ≡ last_of kind (own_entries log id)
    last_is = ap (last_of kind) is ∙ last_push kind (own_entries log id) (entry_in log b) ∙ rw none refl

    same : (e s : ℕ) → signers (entered log b) id kind e s ≡ signers log id kind e s
    same e s =
        ap (λ (o : List ℕ). is_signer_among o (own_entries (entered log b) id) kind e s) ((plain_stays log b plain).owners e)
        ∙ ap (λ (l : List Entry). is_signer_among (owners_at log e) l kind e s) is
        ∙ signers_push (owners_at log e) (own_entries log id) kind (entry_in log b) e s
        ∙ ap (λ c. signers log id kind e s || c) (and_right (nat_eq (writing log) e) (signs_for (owners_at log e) kind s b) (signs_not (owners_at log e) kind s b none))
        ∙ or-false (signers log id kind e s)

-- and begins none
votes_anew : (log : Log) (b : Body) (kind : Kind) (id : BlobId) → is_claim_of kind b ≡ false
    → own_entries (entered log b) id ≡ entry_in log b ∷ [] → votes_of (entered log b) id kind ≡ no_votes
votes_anew log b kind id none is =
    ap (votes_with log.f (signers (entered log b) id kind)) last_is
    ∙ votes_none log.f (signers (entered log b) id kind) nobody
  where
    last_is : last_of kind (own_entries (entered log b) id) ≡ 0
    last_is = ap (last_of kind) is ∙ rw none refl

    nobody : (s : ℕ) → signers (entered log b) id kind 0 s ≡ false
    nobody s =
        ap (λ (l : List Entry). is_signer_among (owners_at (entered log b) 0) l kind 0 s) is
        ∙ ap (λ c. c || false) (and_right (nat_eq (writing log) 0) (signs_for (owners_at (entered log b) 0) kind s b) (signs_not (owners_at (entered log b) 0) kind s b none))

-- ---- The step.

-- by a claim of either kind
step_ack : (log : Log) (shard : ℕ) (id : BlobId) → IsLawful log → blob_record (entered log (Ack shard id)) id ≡ step (context_of log) (blob_record log id) (Ack shard id)
step_ack log shard id lawful =
    blob_same _ _ _ _ _ _
    (until_same log (Ack shard id) id _ refl (owned log (Ack shard id) id))
    (votes_claimed log Holds shard id lawful ∙ ap (λ (o : List ℕ). voted log.f (writing log) o shard (votes_of log id Holds)) (sym (writers_is log)))
    (votes_quiet log (Ack shard id) Denies id refl refl (own_claimed log Holds shard id))

step_attest : (log : Log) (shard : ℕ) (id : BlobId) → IsLawful log → blob_record (entered log (Attest shard id)) id ≡ step (context_of log) (blob_record log id) (Attest shard id)
step_attest log shard id lawful =
    blob_same _ _ _ _ _ _
    (until_same log (Attest shard id) id _ refl (owned log (Attest shard id) id))
    (votes_quiet log (Attest shard id) Holds id refl refl (own_claimed log Denies shard id))
    (votes_claimed log Denies shard id lawful ∙ ap (λ (o : List ℕ). voted log.f (writing log) o shard (votes_of log id Denies)) (sym (writers_is log)))

-- by a registration
step_register : (log : Log) (until : ℕ) (i id : BlobId) (own : List Entry) → own ≡ own_entries (entered log (Register i until)) id → names id (Register i until) ≡ true
    → Owned log (Register i until) id own → blob_record (entered log (Register i until)) id ≡ step (context_of log) (blob_record log id) (Register i until)
step_register log until i id own same named (Owned.stays is n) = absurd (cc)
step_register log until i id own same named (Owned.grows is n live) =
    let b : Body = Register i until in
    let grown : own_entries (entered log b) id ≡ own_entries log id ++ entry_in log b ∷ [] = sym same ∙ is in
    let longer : until_of (entered log b) id ≡ max (until_of log id) until = ap until_among grown ∙ until_push (own_entries log id) (entry_in log b) in
    let holds = votes_quiet log b Holds id refl refl grown in
    let denies = votes_quiet log b Denies id refl refl grown in
    rw (lt-leb (until_of log id) (reading log) (live refl)) (cc)
step_register log until i id own same named (Owned.anew is n r expired) =
    let b : Body = Register i until in
    let begun : own_entries (entered log b) id ≡ entry_in log b ∷ [] = sym same ∙ is in
    let most : ◌≡◌ {A = ℕ} (max 0 until) until = omega arith in
    let longer : until_of (entered log b) id ≡ until = ap until_among begun ∙ most in
    let holds = votes_anew log b Holds id refl begun in
    let denies = votes_anew log b Denies id refl begun in
    rw (le-leb (until_of log id) (reading log) expired) (cc)

-- the record of a blob after an entry that names it
pub record_step : (log : Log) (b : Body) (id : BlobId) → IsLawful log → names id b ≡ true → blob_record (entered log b) id ≡ step (context_of log) (blob_record log id) b
record_step log (Register i until) id lawful named = step_register log until i id (own_entries (entered log (Register i until)) id) refl named (owned log (Register i until) id)
record_step log (Ack shard i) id lawful named =
    subst (λ j. blob_record (entered log (Ack shard j)) id ≡ step (context_of log) (blob_record log id) (Ack shard j)) (sym (id_same i id named)) (step_ack log shard id lawful)
record_step log (Attest shard i) id lawful named =
    subst (λ j. blob_record (entered log (Attest shard j)) id ≡ step (context_of log) (blob_record log id) (Attest shard j)) (sym (id_same i id named)) (step_attest log shard id lawful)
record_step log (Ready shard) id lawful named = absurd (false≢true named)
record_step log (Begin owners) id lawful named = absurd (false≢true named)
record_step log Finish id lawful named = absurd (false≢true named)

-- a ledger without entries
pub record_start : (f first : ℕ) (owners : List ℕ) (id : BlobId) → blob_record (record { f = f; first = first; owners = owners; entries = [] }) id ≡ no_record
record_start f first owners id =
    let none = λ (kind : Kind). votes_none f (signers (record { f = f; first = first; owners = owners; entries = [] }) id kind) (λ s. refl) in
    blob_same _ _ _ _ _ _ refl (none Holds) (none Denies)
