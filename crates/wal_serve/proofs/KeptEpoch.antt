-- What serving answers leaves the epoch of the ledger, and who runs each shard in it, as they are.
use Rattle.wal_serve.proofs.Common.{◌≡◌, ℕ, ◌<◌, Bool, true, List, Option, None, Result, Ok, Err, refl, ap, ◌∙◌, arith, BlobId, MetaClash, FrameError, Frame, Ack, Attest, RegisterEntry, AckEntry, AttestEntry, read_of, Kind, Holds, Denies, RegisterAnswer, committee_size, Log, LedgerState, reading, owners_at, owners_of, entered, takes_in, Reply, ServeEnd, ServedState, named, ClaimEntered, Entered, Vouched, AnswersRequest, AnswersFrame, AnswersRead, Replies, Served, Serves, looked_at, more, none, read_past}
use Rattle.wal_shape.specs.declared.axis.Side.TheVariants.{Now}
use Rattle.wal_ledger.specs.declared.entry.Body.{Body}
use Rattle.wal_ledger.specs.declared.entry.Body.TheVariants.{Register}
use Rattle.wal_shape.specs.Owners.{node_of}
use Rattle.wal_ledger.specs.Answers.{Registers, claim_of}
use Rattle.wal_ledger.proofs.HandoverEntries.{is_plain, plain_stays}

-- the epoch in which blobs are read is the same, and so are the nodes of its shards
pub record KeepsEpoch (old new : Log) : Type 0 where
  pub reading : reading new ≡ reading old
  pub owners : owners_of Now new ≡ owners_of Now old

then : (a b c : Log) → KeepsEpoch a b → KeepsEpoch b c → KeepsEpoch a c
then a b c first next = record { reading = next.reading ∙ first.reading; owners = next.owners ∙ first.owners }

same_ledger : (old new : LedgerState) → new ≡ old → KeepsEpoch old.log new.log
same_ledger old new same = rw same (record { reading = refl; owners = refl })

-- what is asked of the log that serving began with holds of the one that it left
pub epoch_on : (fresh old new : Log) → old ≡ fresh → KeepsEpoch old new → reading fresh ≡ 0 → reading new ≡ 0
epoch_on fresh old new same keeps zero = keeps.reading ∙ ap reading same ∙ zero

-- if at first each node has the shard of its number, it has it as long as the epoch is kept
pub owners_on : (fresh old new : Log) (f g : ℕ) → old ≡ fresh → KeepsEpoch old new → g ≡ f → ((s : ℕ) → s < committee_size f → node_of (owners_of Now fresh) s ≡ s)
    → (s : ℕ) → s < committee_size g → node_of (owners_of Now new) s ≡ s
owners_on fresh old new f g same keeps one own s less =
    cc (keeps.owners, same, own s (rw one at less))

one_entry : (old new : LedgerState) (b : Body) → is_plain b ≡ true → new ≡ takes_in old b → KeepsEpoch old.log new.log
one_entry old new b plain is =
    let stays = plain_stays old.log b plain in
    rw is
    (record { reading = stays.reading; owners = ap (owners_at (entered old.log b)) stays.reading ∙ stays.owners (reading old.log) })

claimed : (kind : Kind) (old : LedgerState) (shard : ℕ) (id : BlobId) (r : Reply) (new : LedgerState) → ClaimEntered kind old shard id r new → KeepsEpoch old.log new.log
claimed Holds old shard id r new h =
    grind (arith, same_ledger old new, one_entry old new (claim_of Holds shard id) refl)
claimed Denies old shard id r new h =
    grind (arith, same_ledger old new, one_entry old new (claim_of Denies shard id) refl)

vouched : (kind : Kind) (old : ServedState) (id : BlobId) (r : Reply) (new : LedgerState) → Vouched kind old id r new → KeepsEpoch old.ledger.log new.log
vouched kind old id r new h = grind (arith, claimed, same_ledger old.ledger old.ledger refl)

in_committee : (kind : Kind) (old : LedgerState) (shard : ℕ) (id : BlobId) (r : Reply) (new : LedgerState) → Entered kind old shard id r new → KeepsEpoch old.log new.log
in_committee kind old shard id r new h = grind (arith, claimed, same_ledger old old refl)

registers : (old : LedgerState) (id : BlobId) (until : ℕ) (answer : RegisterAnswer) (new : LedgerState) → Registers old id until answer new → KeepsEpoch old.log new.log
registers old id until answer new h =
    grind (arith, same_ledger old new, one_entry old new (Register id until) refl)

module _ (digest : List ℕ → List ℕ) (may_want : Bool) (old new : ServedState) (frames : List (List ℕ)) (clash : Option MetaClash) where
  by_frame : (frame : Frame) → AnswersFrame digest may_want frame old frames clash new → KeepsEpoch old.ledger.log new.ledger.log
  by_frame (Ack id) h = rw h.4 (vouched Holds old (named id) h.0 h.1 h.2)
  by_frame (Attest id) h = rw h.4 (vouched Denies old (named id) h.0 h.1 h.2)
  by_frame (RegisterEntry id until) h = rw h.4 (registers old.ledger (named id) until h.2.0 h.1 h.2.1)
  by_frame (AckEntry shard id) h = rw h.4 (in_committee Holds old.ledger shard (named id) h.0 h.1 h.2)
  by_frame (AttestEntry shard id) h = rw h.4 (in_committee Denies old.ledger shard (named id) h.0 h.1 h.2)
  by_frame frame h = same_ledger old.ledger new.ledger (grind arith)

  by_read : (read : Result Frame FrameError) → AnswersRead digest may_want read old frames clash new → KeepsEpoch old.ledger.log new.ledger.log
  by_read (Ok frame) h = by_frame frame h
  by_read (Err fault) h = same_ledger old.ledger new.ledger (grind arith)

module _ (digest : List ℕ → List ℕ) (may_want : Bool) (room : ℕ) (fresh : ServedState) where
  by_reply : (mid new : ServedState) (payload : List ℕ) (frames : List (List ℕ)) (clash : Option MetaClash) → Replies (AnswersRequest digest may_want) room mid payload frames clash new
      → KeepsEpoch mid.ledger.log new.ledger.log
  by_reply mid _ payload _ _ (looked_at frames clash new few answers) = by_read digest may_want mid new frames clash (read_of payload) answers
  by_reply mid _ payload _ _ (read_past long) = same_ledger mid.ledger mid.ledger refl

  by_served : (taken : List ℕ) (frames : List (List ℕ)) (clash : Option MetaClash) (state : ServedState) → Served (AnswersRequest digest may_want) room fresh taken frames clash state
      → KeepsEpoch fresh.ledger.log state.ledger.log
  by_served _ _ _ _ none = same_ledger fresh.ledger fresh.ledger refl
  by_served _ _ _ _ (more front frames mid before sender payload some clash new fits replies) =
      then fresh.ledger.log mid.ledger.log new.ledger.log (by_served front frames None mid before) (by_reply mid new payload some clash replies)

  -- however serving ends
  pub kept_epoch : (limit : ℕ) (taken : List ℕ) (AtEnd SourceRose SinkRose : Type 0) (frames : List (List ℕ)) (state : ServedState) (end : ServeEnd)
      → Serves (AnswersRequest digest may_want) room limit fresh taken AtEnd SourceRose SinkRose frames state end → KeepsEpoch fresh.ledger.log state.ledger.log
  kept_epoch limit taken AtEnd SourceRose SinkRose frames state end serves = grind (arith, by_served)
