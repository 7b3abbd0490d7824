-- Events of the ledger and the epoch come to a word and a state.
use Rattle.wal_protocol.proofs.Common.{◌≡◌, ◌⊎◌, ℕ, zero, suc, ◌+◌, ◌<◌, ◌≤◌, Bool, true, false, List, refl, sym, ◌∙◌, arith, ⊎_elim, inl, inr, true≢false, cases_lt, BlobId, Side, CertificateWord, Kind, Holds, Denies, quorum_size, is_moving, reading, writing, until_of, is_live, signers, signer_count, IsCertified, ready_shards, ready_total, entered, is_moving_extension, MayClaim, claim_of, settled, backs, MayForget, without_slivers, World, side_of, writing_side, is_present, is_correct, contents_of, held, keeps, RegisterStep, IsIgnored, MayPost, Declines, ClaimStep, AckStep, AttestStep, ForgetStep, BeginStep, HoldsAll, MayBeReady, IsUnready, ReadyStep, FinishStep, CertificateStep, Possible, AckWord, AttestWord, BeginWord, FinishWord, ForgetWord, ReadyWord, RegisterWord}
use Rattle.wal_protocol.specs.declared.said.Said.{Said}
use Rattle.wal_protocol.specs.inside.Saying.{Says}

-- ---- what is not impossible

-- what holds is possible
pub surely : {P : Type 0} → P → Possible P
surely p none = none p

-- what follows from the possible is possible
pub then : {P Q : Type 0} → Possible P → (P → Possible Q) → Possible Q
then p f none = p (λ x. f x none)

-- it is not impossible that a statement holds or fails
pub either : (P : Type 0) → Possible (P ⊎ (P → ⊥))
either P none = none (inr (λ p. none (inl p)))

-- whether something holds or not, something else is there
pub by_cases : {Q : Type 0} (P : Type 0) → (P → Possible Q) → ((P → ⊥) → Possible Q) → Possible Q
by_cases P holds fails = then (either P) (λ e. ⊎_elim holds fails e)

-- a Boolean is true or false
pub truth : (b : Bool) → (b ≡ true) ⊎ (b ≡ false)
truth true = inl refl
truth false = inr refl

-- ---- registrations

pub every_register : (old : World) (id : BlobId) (until : ℕ) → (word : RegisterWord) × (new : World) × RegisterStep old id until word new
every_register old id until = by (cases_lt (writing old.log) until) (truth (is_moving_extension old.log id))
  where
    by : (writing old.log < until) ⊎ (until ≤ writing old.log) → (is_moving_extension old.log id ≡ true) ⊎ (is_moving_extension old.log id ≡ false)
        → (word : RegisterWord) × (new : World) × RegisterStep old id until word new
    by (inr past) moves = (RegisterWord.RefusedPast, old, (past, refl))
    by (inl beyond) (inl moving) = (RegisterWord.RefusedMoving, old, (beyond, moving, refl))
    by (inl beyond) (inr still) = (RegisterWord.Until _, _, (record { beyond = beyond; allowed = still }, refl, refl))

-- ---- acknowledgements and attestations

module _ (kind : Kind) (old : World) (shard : ℕ) (id : BlobId) where
  abbrev HasSaid : Type 0
  HasSaid = (word : Said) × (new : World) × Says kind old shard id word new

  may_post : (Declines old kind shard id → ⊥) → MayPost old kind shard id
  may_post none right s lt same =
      ⊎_elim (λ holds. holds) (λ fails. absurd (none (right, s, lt, same, fails))) (truth (backs kind (held (side_of (writing_side old) old) s id)))

  says : (is_live old.log id ≡ true) ⊎ (is_live old.log id ≡ false) → (writing old.log < until_of old.log id) ⊎ (until_of old.log id ≤ writing old.log)
      → Declines old kind shard id ⊎ (Declines old kind shard id → ⊥) → (signers old.log id kind (writing old.log) shard ≡ true) ⊎ (signers old.log id kind (writing old.log) shard ≡ false)
      → HasSaid
  says (inr dead) outlasts may before = (Said.Unregistered, old, (dead, refl))
  says (inl live) (inr past) may before = (Said.Expires, old, (live, past, refl))
  says (inl live) (inl outlasts) (inl declines) before = (Said.Declined, old, (record { live = live; outlasts = outlasts }, declines, refl))
  says (inl live) (inl outlasts) (inr none) (inl before) = (Said.Already, old, ((record { live = live; outlasts = outlasts }, may_post none, before), refl))
  says (inl live) (inl outlasts) (inr none) (inr first) =
      let new : World = record old { log = entered old.log (claim_of kind shard id) } in
      let count = signer_count new.log id kind (writing new.log) in
      let first_time : MayClaim old.log kind shard id = record { open_to_claims = record { live = live; outlasts = outlasts }; first_time = first } in
      let claims : ClaimStep old kind shard id count new = record { first_time = first_time; may = may_post none; state = refl; counted = refl } in
      ⊎_elim (λ few. (Said.Counted count, new, (claims, few))) (λ enough. (Said.Quorum count, new, (claims, enough))) (cases_lt count (quorum_size old.log.f))

  every_said : Possible HasSaid
  every_said =
      then (either (Declines old kind shard id)) (λ may.
      surely (says (truth (is_live old.log id)) (cases_lt (writing old.log) (until_of old.log id)) may (truth (signers old.log id kind (writing old.log) shard))))

acked : (old : World) (shard : ℕ) (id : BlobId) (word : Said) (new : World) → Says Holds old shard id word new → (word : AckWord) × (new : World) × AckStep old shard id word new
acked old shard id Said.Unregistered new is = (AckWord.Unregistered, new, is)
acked old shard id Said.Expires new is = (AckWord.Expires, new, is)
acked old shard id Said.Declined new is = (AckWord.Declined, new, is)
acked old shard id Said.Already new is = (AckWord.Already, new, is)
acked old shard id (Said.Counted count) new is = (AckWord.Counted count, new, is)
acked old shard id (Said.Quorum count) new is = (AckWord.Certified count, new, is)

attested : (old : World) (shard : ℕ) (id : BlobId) (word : Said) (new : World) → Says Denies old shard id word new → (word : AttestWord) × (new : World) × AttestStep old shard id word new
attested old shard id Said.Unregistered new is = (AttestWord.Unregistered, new, is)
attested old shard id Said.Expires new is = (AttestWord.Expires, new, is)
attested old shard id Said.Declined new is = (AttestWord.Declined, new, is)
attested old shard id Said.Already new is = (AttestWord.Already, new, is)
attested old shard id (Said.Counted count) new is = (AttestWord.Counted count, new, is)
attested old shard id (Said.Quorum count) new is = (AttestWord.Invalid count, new, is)

pub every_ack : (old : World) (shard : ℕ) (id : BlobId) → Possible ((word : AckWord) × (new : World) × AckStep old shard id word new)
every_ack old shard id = then (every_said Holds old shard id) (λ said. surely (acked old shard id said.0 said.1 said.2))

pub every_attest : (old : World) (shard : ℕ) (id : BlobId) → Possible ((word : AttestWord) × (new : World) × AttestStep old shard id word new)
every_attest old shard id = then (every_said Denies old shard id) (λ said. surely (attested old shard id said.0 said.1 said.2))

-- ---- shards

-- the shard of a side is absent, faulty or correct
pub data Standing (w : World) (side : Side) (shard : ℕ) : Type 0 where
  absent : is_present side w ≡ false → Standing w side shard
  ignored : IsIgnored w side shard → Standing w side shard
  correct : is_correct side w shard ≡ true → Standing w side shard

-- how a shard stands on a side of the world
pub standing : (w : World) (side : Side) (shard : ℕ) → Standing w side shard
standing w side shard = grind (arith, absent, ignored, correct)

pub every_forget : (old : World) (side : Side) (shard : ℕ) (id : BlobId) → Possible ((word : ForgetWord) × (new : World) × ForgetStep old side shard id word new)
every_forget old side shard id = elim (standing old side shard) [
  | absent none ↦ surely (ForgetWord.Absent, old, (none, refl))
  | ignored faulty ↦ surely (ForgetWord.Ignored, old, (faulty, refl))
  | correct sound ↦
      by_cases (MayForget old.log (contents_of (side_of side old) shard) id)
      (λ may.
      let left = without_slivers (contents_of (side_of side old) shard) id in
      surely (ForgetWord.Done, keeps old side shard left, (sound, may, refl)))
      (λ none. surely (ForgetWord.Declined, old, (sound, none, refl)))
]

-- ---- the change of the epoch

pub every_begin : (old : World) (owners faulty stays : List ℕ) → (word : BeginWord) × (new : World) × BeginStep old owners faulty stays word new
every_begin old owners faulty stays =
    ⊎_elim
    (λ moving. (BeginWord.RefusedMoving, old, (moving, refl)))
    (λ still. ⊎_elim (λ early. (BeginWord.Epoch (reading old.log + 1), _, (still, early, refl, refl))) (λ last. (BeginWord.RefusedLastEpoch, old, (still, last, refl))) (cases_lt (reading old.log) 65535))
    (truth (is_moving old.log))

holds_all : (w : World) (shard : ℕ) → Possible (HoldsAll w shard) → HoldsAll w shard
holds_all w shard holds id must =
    ⊎_elim (λ is. is) (λ fails. absurd (holds (λ all. true≢false (sym (all id must) ∙ fails)))) (truth (settled (held w.next shard id)))

may_be_ready : (old : World) (shard : ℕ) → (IsUnready old shard → ⊥) → MayBeReady old shard
may_be_ready old shard none sound s lt same = holds_all old s (λ fails. none (sound, s, lt, same, fails))

pub every_ready : (old : World) (shard : ℕ) → Possible ((word : ReadyWord) × (new : World) × ReadyStep old shard word new)
every_ready old shard =
    then (either (IsUnready old shard)) (λ may. surely (by (truth (is_moving old.log)) may (truth (ready_shards old.log shard))))
  where
    by : (is_moving old.log ≡ true) ⊎ (is_moving old.log ≡ false) → IsUnready old shard ⊎ (IsUnready old shard → ⊥) → (ready_shards old.log shard ≡ true) ⊎ (ready_shards old.log shard ≡ false)
        → (word : ReadyWord) × (new : World) × ReadyStep old shard word new
    by (inr still) may before = (ReadyWord.RefusedNotMoving, old, (still, refl))
    by (inl moving) (inl unready) before = (ReadyWord.Declined, old, (moving, unready, refl))
    by (inl moving) (inr none) (inl before) = (ReadyWord.Already, old, (moving, may_be_ready old shard none, before, refl))
    by (inl moving) (inr none) (inr first) = (ReadyWord.Counted _, _, (moving, may_be_ready old shard none, first, refl, refl))

pub every_finish : (old : World) → (word : FinishWord) × (new : World) × FinishStep old word new
every_finish old =
    ⊎_elim
    (λ moving. ⊎_elim (λ few. (FinishWord.Waiting (ready_total old.log), old, (moving, refl, few, refl))) (λ enough. (FinishWord.Epoch (writing old.log), _, (moving, enough, refl, refl)))
    (cases_lt (ready_total old.log) (quorum_size old.log.f)))
    (λ still. (FinishWord.RefusedNotMoving, old, (still, refl)))
    (truth (is_moving old.log))

-- ---- certificates

-- the first place at which a count is enough
abbrev FirstEnough : (ℕ → ℕ) → ℕ → Type 0
FirstEnough count quorum = (e : ℕ) × (quorum ≤ count e) × ((k : ℕ) → k < e → count k < quorum)

first_enough : (count : ℕ → ℕ) (quorum n : ℕ) → ((k : ℕ) → k < n → count k < quorum) ⊎ FirstEnough count quorum
first_enough count quorum zero = inl (λ k lt. absurd (omega arith))
first_enough count quorum (suc n) =
    ⊎_elim
    (λ none. ⊎_elim
    (λ less. inl (λ k lt. grind (arith, none k)))
    (λ enough. inr (n, enough, none))
    (cases_lt (count n) quorum))
    (λ found. inr found)
    (first_enough count quorum n)

pub every_certificate : (w : World) (id : BlobId) → Possible ((word : CertificateWord) × CertificateStep w id word)
every_certificate w id =
    by_cases (IsCertified w.log id)
    (λ certified.
    let count : ℕ → ℕ = signer_count w.log id Holds in
    let enough = certified.quorum.1 in
    let found : FirstEnough count (quorum_size w.log.f) =
    ⊎_elim (λ none. let less = none certified.quorum.0 (omega arith) in absurd (omega arith)) (λ first. first) (first_enough count (quorum_size w.log.f) (certified.quorum.0 + 1)) in
    surely (CertificateWord.Certified found.0 (count found.0), record { live = certified.live; counted = refl; quorum = found.1; least = found.2 }))
    (λ none. surely (CertificateWord.Pending (signer_count w.log id Holds (writing w.log)), (none, refl)))
