-- Ledgers that are alike at an identifier answer a request of it alike, and are alike then.
use Rattle.wal_served.proofs.Common.{◌≡◌, ℕ, ◌<◌, true, false, List, [], ◌∷◌, inl, inr, refl, sym, ap, ◌∙◌, arith, cases_lt, fold_push, BlobId, id_eq, AckAnswer, Body, Register, Entry, Kind, Denies, quorum_size, Log, History, LedgerState, reading, writing, names, history_after, own_entries, until_of, is_live, signers, signer_count, entered, takes_in, IsInvalid, IsOpen, MayClaim, MayRegister, Claims, Claimed, acked, claim_of, history_of-epoch, id_same, entry_in, is_plain, plain_stays, Owned, stays, grows, anew, owned, refused, reply_text, ack_reply, ClaimEntered, Registered, Entered, of_committee, of_none, AlikeLedgers, tells_entry, RegisterAnswer}
use Rattle.wal_served.proofs.Replies.{Reply, as_claim, of_claim, claim_plain}

-- ---- names

-- identifiers that differ are told apart
pub apart : (q id : BlobId) → (q ≡ id → ⊥) → id_eq q id ≡ false
apart q id other = grind (arith, id_same q id)

-- ---- alike

-- a ledger is like itself
pub alike_itself : (id : BlobId) (log : Log) → AlikeLedgers id log log
alike_itself id log = record { faults = refl; epoch = refl; moving = refl; owners = λ e. refl; own = refl }

-- of two that are alike to one, each is alike to the other
pub joined_ledgers : (id : BlobId) (one here there : Log) → AlikeLedgers id one here → AlikeLedgers id one there → AlikeLedgers id here there
joined_ledgers id one here there a b = record {
  faults = b.faults ∙ sym a.faults;
  epoch = b.epoch ∙ sym a.epoch;
  moving = b.moving ∙ sym a.moving;
  owners = λ e. b.owners e ∙ sym (a.owners e);
  own = b.own ∙ sym a.own;
}

-- an entry of another identifier
pub other_entered : (id : BlobId) (log : Log) (b : Body) → is_plain b ≡ true → names id b ≡ false → AlikeLedgers id log (entered log b)
other_entered id log b plain other =
    let same = plain_stays log b plain in
    record { faults = refl; epoch = same.reading; moving = same.moving; owners = same.owners; own = by (own_entries (entered log b) id) (owned log b id) }
  where
    by : (own : List Entry) → Owned log b id own → own ≡ own_entries log id
    by own (stays is n) = is
    by own (grows is n live) = cc
    by own (anew is n registers le) = cc

-- what an entry makes of own entries, by the epochs alone
abbrev own_after : BlobId → ℕ → ℕ → Body → List Entry → List Entry
own_after id epoch now b own = (history_after id (record { epoch = epoch; own = own }) (record { epoch = now; body = b })).own

own_entered : (id : BlobId) (log : Log) (b : Body) → own_entries (entered log b) id ≡ own_after id (reading log) (writing log) b (own_entries log id)
own_entered id log b =
    ap (λ (c : History). c.own) (fold_push (history_after id) (record { epoch = log.first; own = [] }) log.entries (entry_in log b))
    ∙ ap (λ (e : ℕ). own_after id e (writing log) b (own_entries log id)) (history_of-epoch log.first log.entries id)

module _ (id : BlobId) (one other : Log) (a : AlikeLedgers id one other) where
  pub same_writing : writing other ≡ writing one
  same_writing = rw (a.epoch, a.moving) refl

  pub same_until : until_of other id ≡ until_of one id
  same_until = rw a.own refl

  -- the identifier is live in both ledgers or in neither
  pub same_live : is_live other id ≡ is_live one id
  same_live = rw (a.epoch, a.own) refl

  same_count : (kind : Kind) (epoch : ℕ) → signer_count other id kind epoch ≡ signer_count one id kind epoch
  same_count kind epoch = rw (a.faults, a.owners epoch, a.own) refl

  signed_now : (kind : Kind) (shard : ℕ) → signers other id kind (writing other) shard ≡ signers one id kind (writing one) shard
  signed_now kind shard = rw (same_writing, a.owners (writing one), a.own) refl

  -- the same entry in both
  pub both_entered : (b : Body) → is_plain b ≡ true → AlikeLedgers id (entered one b) (entered other b)
  both_entered b plain =
      let here = plain_stays one b plain in
      let there = plain_stays other b plain in
      record {
        faults = a.faults;
        epoch = there.reading ∙ a.epoch ∙ sym here.reading;
        moving = there.moving ∙ a.moving ∙ sym here.moving;
        owners = λ e. there.owners e ∙ a.owners e ∙ sym (here.owners e);
        own = rw (own_entered id other b, own_entered id one b, same_writing, a.epoch, a.own) refl;
      }

  -- what is open in the one is open in the other
  pub open_too : IsOpen one id → IsOpen other id
  open_too is = record { live = same_live ∙ is.live; outlasts = omega (arith, same_writing, same_until, is.outlasts) }

  -- a claim that the one allows the other allows
  pub claim_too : (kind : Kind) (shard : ℕ) → MayClaim one kind shard id → MayClaim other kind shard id
  claim_too kind shard may = record { open_to_claims = open_too may.open_to_claims; first_time = signed_now kind shard ∙ may.first_time }

  -- what is invalid in the one is invalid in the other
  pub invalid_too : IsInvalid one id → IsInvalid other id
  invalid_too is = record {
    live = same_live ∙ is.live;
    quorum = (is.quorum.0, omega (arith, a.faults, same_count Denies is.quorum.0, is.quorum.1));
  }

-- ---- answers

-- a reply that tells of an entry that was made
abbrev pub IsMade : Reply → Type 0
IsMade r = tells_entry (reply_text r ∷ []) ≡ true

-- the other ledger answers so too, and is alike then; or it has room for no entry, and may say so where this answer tells of one
pub data Follows (id : BlobId) (other new : LedgerState) (Makes : Reply → LedgerState → Type 0) (r : Reply) : Type 0 where
  so_too : (then : LedgerState) → Makes r then → AlikeLedgers id new.log then.log → Follows id other new Makes r
  short : other.spare ≡ 0 → Makes (refused 10) other → IsMade r → Follows id other new Makes r

-- what follows from what is made
pub rewritten : (id : BlobId) (other new : LedgerState) (P Q : Reply → LedgerState → Type 0) (r : Reply) → ((q : Reply) (l : LedgerState) → P q l → Q q l) → Follows id other new P r → Follows id other new Q r
rewritten id other new P Q r f (so_too then is alike) = so_too then (f r then is) alike
rewritten id other new P Q r f (short none lacks made) = short none (f (refused 10) other lacks) made

module _ (id : BlobId) (one other : LedgerState) (a : AlikeLedgers id one.log other.log) (new : LedgerState) (Makes : Reply → LedgerState → Type 0) (r : Reply) where
  -- it says so, and leaves the ledger as it is
  both_same : new ≡ one → Makes r other → Follows id other new Makes r
  both_same same says = so_too other says (rw same a)

  -- the same entry is made where there is room
  grown : (b : Body) → is_plain b ≡ true → new ≡ takes_in one b → IsMade r → (0 < other.spare → Makes r (takes_in other b)) → (other.spare ≡ 0 → Makes (refused 10) other) → Follows id other new Makes r
  grown b plain is made says lacks = elim (cases_lt 0 other.spare) [
    | inl some ↦ so_too (takes_in other b) (says some) (rw is (both_entered id one.log other.log a b plain))
    | inr few ↦ short (omega (arith, few)) (lacks (omega (arith, few))) made
  ]

module _ (id : BlobId) (one other : LedgerState) (a : AlikeLedgers id one.log other.log) where
  -- a claim that is answered
  pub claim_entered : (shard : ℕ) (new : LedgerState) (kind : Kind) (r : Reply) → ClaimEntered kind one shard id r new → (r ≡ refused 10 → ⊥) → Follows id other new (ClaimEntered kind other shard id) r
  claim_entered shard new kind r c some = let claim = as_claim kind one shard id r new c in by claim.0 claim.1 claim.2
    where
      Makes : Reply → LedgerState → Type 0
      Makes = ClaimEntered kind other shard id

      says : (answer : AckAnswer) → r ≡ ack_reply answer → (then : LedgerState) → Claims kind other shard id (acked answer) then → Makes r then
      says answer e then h = of_claim kind other shard id r then (answer, h, e)

      quorum_same : quorum_size other.log.f ≡ quorum_size one.log.f
      quorum_same = rw a.faults refl

      counted : (count : ℕ) → Claimed kind one shard id count new → IsMade r → ((then : LedgerState) → Claimed kind other shard id count then → Makes r then) → Follows id other new Makes r
      counted count is made said =
          let b = claim_of kind shard id in
          let may = claim_too id one.log other.log a kind shard is.0 in
          let two = both_entered id one.log other.log a b (claim_plain kind shard id) in
          let same : signer_count (entered other.log b) id kind (writing (entered other.log b)) ≡ signer_count (entered one.log b) id kind (writing (entered one.log b))
          = rw (same_writing id (entered one.log b) (entered other.log b) two) (same_count id (entered one.log b) (entered other.log b) two kind (writing (entered one.log b))) in
          grown id one other a new Makes r b (claim_plain kind shard id) is.2 made (λ room. said (takes_in other b) (may, room, refl, rw is.2 at is.3 ∙ sym same))
          (λ none. of_claim kind other shard id (refused 10) other (AckAnswer.NoRoom, (may, none, refl), refl))

      by : (answer : AckAnswer) → Claims kind one shard id (acked answer) new → r ≡ ack_reply answer → Follows id other new Makes r
      by AckAnswer.Unregistered h e = both_same id one other a new Makes r h.1 (says AckAnswer.Unregistered e other (same_live id one.log other.log a ∙ h.0, refl))
      by AckAnswer.Expires h e =
          both_same id one other a new Makes r h.2 (says AckAnswer.Expires e other
          (same_live id one.log other.log a ∙ h.0, omega (arith, h.1, same_writing id one.log other.log a, same_until id one.log other.log a), refl))
      by AckAnswer.Already h e =
          both_same id one other a new Makes r h.2 (says AckAnswer.Already e other (open_too id one.log other.log a h.0, signed_now id one.log other.log a kind shard ∙ h.1, refl))
      by AckAnswer.NoRoom h e = absurd (some e)
      by (AckAnswer.Counted count) h e = counted count h.0 (rw e refl) (λ then c. says (AckAnswer.Counted count) e then (c, omega (arith, quorum_same, h.1)))
      by (AckAnswer.Certified count) h e = counted count h.0 (rw e refl) (λ then c. says (AckAnswer.Certified count) e then (c, omega (arith, quorum_same, h.1)))

  -- an entry of a shard that is answered
  pub entered_too : (kind : Kind) (shard : ℕ) (r : Reply) (new : LedgerState) → Entered kind one shard id r new → (r ≡ refused 10 → ⊥) → Follows id other new (Entered kind other shard id) r
  entered_too kind shard _ _ (of_committee r new less claim) some =
      rewritten id other new (ClaimEntered kind other shard id) (Entered kind other shard id) r (λ q l x. of_committee q l (rw a.faults less) x) (claim_entered shard new kind r claim some)
  entered_too kind shard _ _ (of_none outside) some =
      so_too other (of_none (λ less. outside (rw a.faults at less))) a

  -- a registration that the one allows the other allows
  pub register_too : (until : ℕ) → MayRegister one.log id until → MayRegister other.log id until
  register_too until may = record {
    beyond = omega (arith, same_writing id one.log other.log a, may.beyond);
    allowed = rw (a.moving, same_live id one.log other.log a) may.allowed;
  }

  -- a registration that is answered
  pub registered_too : (until : ℕ) (r : Reply) (new : LedgerState) → Registered one id until r new → (r ≡ refused 10 → ⊥) → Follows id other new (Registered other id until) r
  registered_too until r new (RegisterAnswer.Past, h, told) some =
      both_same id one other a new (Registered other id until) r h.1 (RegisterAnswer.Past, (omega (arith, h.0, same_writing id one.log other.log a), refl), told)
  registered_too until r new (RegisterAnswer.MovingExtension, h, told) some = absurd told
  registered_too until r new (RegisterAnswer.NoRoom, h, told) some = absurd (some told)
  registered_too until r new (RegisterAnswer.Registered most, h, told) some =
      let b = Register id until in
      let may = register_too until h.0 in
      let two = both_entered id one.log other.log a b refl in
      grown id one other a new (Registered other id until) r b refl h.2 (rw told refl)
      (λ room. (RegisterAnswer.Registered most, (may, room, refl, rw h.2 at h.3 ∙ sym (same_until id (entered one.log b) (entered other.log b) two)), told))
      (λ none. (RegisterAnswer.NoRoom, (may, none, refl), refl))
