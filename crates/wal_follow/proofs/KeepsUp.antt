-- What is kept of a ledger for some blobs is, after an entry, what the ledger then has for them.
use Rattle.std.proofs.Common.{◌≡◌, ℕ, zero, suc, ◌<◌, inl, inr, Bool, true, false, cond, nat_lt, nat_le, List, [], ◌∷◌, length, map, set, get_or, slice_get, Some, ◌+◌, refl, ap, sym, ◌∙◌, subst, arith}
use Rattle.std.proofs.lemmas.Bool.{cases_Bool, cases_lt, and_from, false≢true, lt-ltb, le-leb, ltb-true, ltb-false}
use Rattle.wal_shape.specs.declared.metadata.BlobId.{BlobId}
use Rattle.wal_shape.specs.Owners.{are_owners, every_below, is_closed, is_committee}
use Rattle.wal_ledger.specs.declared.entry.Body.{Body}
use Rattle.wal_ledger.specs.declared.entry.Body.TheVariants as saying
use Rattle.wal_ledger.specs.declared.entry.Kind.{Kind}
use Rattle.wal_ledger.specs.declared.entry.Kind.TheVariants.{Holds, Denies}
use Rattle.wal_ledger.specs.declared.answers.RegisterAnswer.{RegisterAnswer}
use Rattle.wal_ledger.specs.declared.answers.RegisterAnswer.TheVariants as registering
use Rattle.wal_ledger.specs.declared.answers.ReadyAnswer.{ReadyAnswer}
use Rattle.wal_ledger.specs.declared.answers.ReadyAnswer.TheVariants as readying
use Rattle.wal_ledger.specs.Answers.{MayClaim, Registers, Claims, Acks, Attests, acked, claim_of, is_moving_extension}
use Rattle.wal_ledger.specs.Kept.{IsLawful}
use Rattle.wal_ledger.specs.Ledger.{LedgerState, takes_in, entered as with_entry, names, reading, writing, is_moving, is_live, until_of, signers, signer_count, ready_shards, is_begin, is_finish}
use Rattle.wal_ledger.specs.Shards.{committee_size, quorum_size}
use Rattle.wal_ledger.proofs.RowsPlace.{id_same, id_itself}
use Rattle.wal_record.specs.Record.{BlobRecord, blob_record, no_record}
use Rattle.wal_record.specs.declared.outcome.Answer.{Answer}
use Rattle.wal_record.specs.declared.outcome.Answer.TheVariants as answering
use Rattle.wal_record.specs.declared.outcome.Said.{Said}
use Rattle.wal_record.specs.declared.outcome.Said.TheVariants as asking
use Rattle.wal_record.specs.Context.{Context, context_of, turn, writes}
use Rattle.wal_record.specs.Questions.{claim, ready_count, ack_word, attest_word}
use Rattle.wal_record.specs.Follow.{enter, IsPosted}
use Rattle.wal_record.proofs.Entering.{register_is, ack_is, attest_is, ready_count_is}
use Rattle.wal_record.proofs.Posting.{post_is}
use Rattle.wal_record.proofs.Turning.{record_kept, context_turn}
use Rattle.wal_record.proofs.Lawful.{lawful_kept}
use Rattle.wal_follow.specs.declared.item.Item.{Item}
use Rattle.wal_follow.specs.declared.item.Item.TheVariants.{Register, Ack, Attest, Ready, Begin, Finish}
use Rattle.wal_follow.specs.declared.outcome.Outcome.{Outcome}
use Rattle.wal_follow.specs.declared.outcome.Outcome.TheVariants as coming
use Rattle.wal_follow.specs.Outcomes.{registered, readied}
use Rattle.wal_follow.specs.Enter.{Kept, IsOf, entered, registered_at, claimed_at, with_context}
use Rattle.wal_follow.specs.Ledger.{kept_of, AreApart, Says, KeepsUp}

-- ---- records by place

module _ (old new : BlobId → BlobRecord) where
  map_same : (ids : List BlobId) → ((i : ℕ) (id : BlobId) → slice_get ids i ≡ Some id → new id ≡ old id)
      → map new ids ≡ map old ids
  map_same [] same = refl
  map_same (x ∷ ids) same = cc (same 0 x refl, map_same ids (λ i id at. same (suc i) id at))

  map_put : (ids : List BlobId) (place : ℕ) (id : BlobId) → slice_get ids place ≡ Some id
      → ((i : ℕ) (x : BlobId) → slice_get ids i ≡ Some x → (i ≡ place → ⊥) → new x ≡ old x)
      → map new ids ≡ set (map old ids) place (new id)
  map_put [] place id at other = absurd cc
  map_put (x ∷ ids) zero id at other =
      let is : x ≡ id = cc in
      rw (is, map_same ids (λ i y there. other (suc i) y there (λ e. absurd cc))) refl
  map_put (x ∷ ids) (suc place) id at other =
      cc (other 0 x refl (λ e. absurd cc), map_put ids place id at (λ i y there apart. other (suc i) y there (λ e. apart cc)))

get_map : (old : BlobId → BlobRecord) (ids : List BlobId) (place : ℕ) (id : BlobId) → slice_get ids place ≡ Some id
    → get_or (map old ids) place no_record ≡ old id
get_map old [] place id at = absurd cc
get_map old (x ∷ ids) zero id at = let is : x ≡ id = cc in rw is
get_map old (x ∷ ids) (suc place) id at = get_map old ids place id at

kept_same : (c d : Context) (r s : List BlobRecord) → c ≡ d → r ≡ s → ◌≡◌ {A = Kept} (record { context = c; blobs = r }) (record { context = d; blobs = s })
kept_same c d r s context blobs = cc

-- ---- a ledger that has room answers

-- claims of both kinds are answered alike
attests : (old new : LedgerState) (shard : ℕ) (id : BlobId) (said : Said) → Claims Denies old shard id (acked (ack_word said)) new → Attests old shard id (attest_word said) new
attests old new shard id (asking.Counted count) h = h
attests old new shard id (asking.Quorum count) h = h
attests old new shard id asking.Already h = h
attests old new shard id asking.Unregistered h = h
attests old new shard id asking.Expires h = h

module _ (old : LedgerState) (room : 0 < old.spare) where
  register_answers : (id : BlobId) (until : ℕ) → (answer : RegisterAnswer) × (new : LedgerState) × Registers old id until answer new
  register_answers id until =
      elim (cases_lt (writing old.log) until) [
        | inr past ↦ (registering.Past, old, (past, refl))
        | inl beyond ↦ elim (cases_Bool (is_moving_extension old.log id)) [
          | inl extends ↦ (registering.MovingExtension, old, (beyond, extends, refl))
          | inr allowed ↦
              let new = takes_in old (saying.Register id until) in
              (registering.Registered (until_of new.log id), new, (record { beyond = beyond; allowed = allowed }, room, refl, refl))
        ]
      ]

  claim_answers : (kind : Kind) (id : BlobId) (shard : ℕ) → (said : Said) × (new : LedgerState) × Claims kind old shard id (acked (ack_word said)) new
  claim_answers kind id shard =
      elim (cases_Bool (is_live old.log id)) [
        | inr over ↦ (asking.Unregistered, old, (over, refl))
        | inl live ↦ elim (cases_lt (writing old.log) (until_of old.log id)) [
          | inr ends ↦ (asking.Expires, old, (live, ends, refl))
          | inl outlasts ↦ elim (cases_Bool (signers old.log id kind (writing old.log) shard)) [
            | inl signed ↦ (asking.Already, old, (record { live = live; outlasts = outlasts }, signed, refl))
            | inr first ↦
                let new = takes_in old (claim_of kind shard id) in
                let count = signer_count new.log id kind (writing new.log) in
                let may : MayClaim old.log kind shard id = record { open_to_claims = record { live = live; outlasts = outlasts }; first_time = first } in
                elim (cases_lt count (quorum_size old.log.f)) [
                  | inl few ↦ (asking.Counted count, new, ((may, room, refl, refl), few))
                  | inr enough ↦ (asking.Quorum count, new, ((may, room, refl, refl), enough))
                ]
          ]
        ]
      ]

-- ---- entries that name a blob

module _ (ids : List BlobId) (old : LedgerState) (place : ℕ) (id : BlobId) (lawful : IsLawful old.log) (room : 0 < old.spare)
    (apart : AreApart ids) (at : slice_get ids place ≡ Some id) where
  abbrev context : Context
  context = context_of old.log

  abbrev blob : BlobRecord
  blob = blob_record old.log id

  -- what is kept then is what the new ledger has
  new_kept : (new : LedgerState) (body : Body) (answer : Answer) → IsPosted old.log body answer new.log → names id body ≡ true
      → ((x : BlobId) → names x body ≡ true → id ≡ x)
      → record { context = context; blobs = set (map (blob_record old.log) ids) place (enter context blob body).1 } ≡ kept_of ids new.log
  new_kept new body answer posted named alone =
      kept_same _ _ _ _ (sym posted.context)
      (sym (map_put (blob_record old.log) (blob_record new.log) ids place id at others
      ∙ ap (λ (t : Answer × BlobRecord). set (map (blob_record old.log) ids) place t.1) (posted.named id named)))
    where
      others : (i : ℕ) (x : BlobId) → slice_get ids i ≡ Some x → (i ≡ place → ⊥) → blob_record new.log x ≡ blob_record old.log x
      others i x there elsewhere =
          elim (cases_Bool (names x body)) [
            | inl it ↦ absurd (elsewhere (apart i place id (there ∙ ap (λ (y : BlobId). Some y) (sym (alone x it))) at))
            | inr other ↦ posted.other x other
          ]

  register_keeps : (until : ℕ) → (answer : RegisterAnswer) × (new : LedgerState) × Registers old id until answer new
      → KeepsUp ids old (saying.Register id until) (registered_at (kept_of ids old.log) place until)
  register_keeps until (answer, new, posts) =
      let told = register_is old new id until answer lawful room posts in
      let posted = post_is old new (saying.Register id until) (answering.Registration answer) lawful room posts in
      rw (get_map (blob_record old.log) ids place id at) (record {
        ledger = new;
        tells = (answer, posts, sym (ap (λ (t : RegisterAnswer × BlobRecord). registered t.0) told));
        lawful = posted.lawful;
        same = new_kept new (saying.Register id until) _ posted (id_itself id) (λ x h. id_same id x h);
      })

  ack_keeps : (shard : ℕ) → shard < committee_size old.log.f → (said : Said) × (new : LedgerState) × Claims Holds old shard id (acked (ack_word said)) new
      → KeepsUp ids old (saying.Ack shard id) (claimed_at Holds (kept_of ids old.log) place shard)
  ack_keeps shard below (said, new, claims) =
      let posts : Acks old shard id (ack_word said) new = claims in
      let told = ack_is old new id shard (ack_word said) lawful below room posts in
      let posted = post_is old new (saying.Ack shard id) (answering.Acknowledgement (ack_word said)) lawful room (below, posts) in
      rw (get_map (blob_record old.log) ids place id at) (record {
        ledger = new;
        tells = ((claim Holds context blob shard).0, subst (λ a. Acks old shard id a new) told.0 posts, refl);
        lawful = posted.lawful;
        same = new_kept new (saying.Ack shard id) _ posted (id_itself id) (λ x h. id_same id x h);
      })

  attest_keeps : (shard : ℕ) → shard < committee_size old.log.f → (said : Said) × (new : LedgerState) × Claims Denies old shard id (acked (ack_word said)) new
      → KeepsUp ids old (saying.Attest shard id) (claimed_at Denies (kept_of ids old.log) place shard)
  attest_keeps shard below (said, new, claims) =
      let posts : Attests old shard id (attest_word said) new = attests old new shard id said claims in
      let told = attest_is old new id shard (attest_word said) lawful below room posts in
      let posted = post_is old new (saying.Attest shard id) (answering.Attestation (attest_word said)) lawful room (below, posts) in
      rw (get_map (blob_record old.log) ids place id at) (record {
        ledger = new;
        tells = ((claim Denies context blob shard).0, subst (λ a. Attests old shard id a new) told.0 posts, refl);
        lawful = posted.lawful;
        same = new_kept new (saying.Attest shard id) _ posted (id_itself id) (λ x h. id_same id x h);
      })

-- ---- entries that name none

-- no shard is faulty, or carried
pub none_closed : (n : ℕ) → every_below n (λ shard. true) ≡ true
none_closed zero = refl
none_closed (suc n) = rw (none_closed n) refl

module _ (ids : List BlobId) (old : LedgerState) (lawful : IsLawful old.log) (room : 0 < old.spare) where
  unnamed : (body : Body) → ((x : BlobId) → names x body ≡ false) → (is_begin body ≡ true → is_moving old.log ≡ false)
      → (is_finish body ≡ true → is_moving old.log ≡ true)
      → record { context = turn (context_of old.log) body; blobs = map (blob_record old.log) ids } ≡ kept_of ids (with_entry old.log body)
  unnamed body none begins ends =
      kept_same _ _ _ _ (sym (context_turn old.log body lawful begins ends))
      (sym (map_same (blob_record old.log) (blob_record (with_entry old.log body)) ids (λ i x there. record_kept old.log body x lawful begins (none x))))

  ready_by : (shard : ℕ) → nat_lt shard (committee_size old.log.f) ≡ true → (moving already : Bool) → is_moving old.log ≡ moving → ready_shards old.log shard ≡ already
      → KeepsUp ids old (saying.Ready shard) (with_context (kept_of ids old.log)
      (cond {A = Outcome × Context} moving (let told = cond {A = ReadyAnswer × Context} already (readying.Already, context_of old.log) (let new = turn (context_of old.log) (saying.Ready shard) in (readying.Counted (ready_count new), new)) in (readied told.0, told.1))
      (coming.RefusedNotMoving, context_of old.log)))
  ready_by shard of false already moves here = record { ledger = old; tells = inl ((moves, refl), refl); lawful = lawful; same = refl }
  ready_by shard of true true moves here = record { ledger = old; tells = inr (moves, (readying.Already, (here, refl), refl)); lawful = lawful; same = refl }
  ready_by shard of true false moves here =
      let is = context_turn old.log (saying.Ready shard) lawful (λ h. absurd (false≢true h)) (λ h. absurd (false≢true h)) in
      let count = ready_count_is (with_entry old.log (saying.Ready shard)) ∙ ap ready_count is in
      record {
        ledger = takes_in old (saying.Ready shard);
        tells = inr (moves, (readying.Counted (ready_count (turn (context_of old.log) (saying.Ready shard))), (here, room, refl, sym count), refl));
        lawful = lawful_kept old.log (saying.Ready shard) lawful (and_from (is_moving old.log) (nat_lt shard (committee_size old.log.f)) moves of);
        same = unnamed (saying.Ready shard) (λ x. refl) (λ b. absurd (false≢true b)) (λ b. absurd (false≢true b));
      }

  begin_by : (owners : List ℕ) → are_owners (committee_size old.log.f) owners ≡ true → (moving below : Bool)
      → is_moving old.log ≡ moving → nat_lt (reading old.log) 65535 ≡ below
      → KeepsUp ids old (saying.Begin owners) (with_context (kept_of ids old.log)
      (cond {A = Outcome × Context} moving (coming.RefusedMoving, context_of old.log)
      (cond below (coming.Epoch (reading old.log + 1), turn (context_of old.log) (saying.Begin owners)) (coming.RefusedLastEpoch, context_of old.log))))
  begin_by owners of true below moves less = record { ledger = old; tells = (moves, refl); lawful = lawful; same = refl }
  begin_by owners of false false moves less =
      let most = ltb-false (reading old.log) 65535 less in
      let last : ◌≡◌ {A = ℕ} (reading old.log) 65535 = omega (arith, most, lawful.last) in
      record { ledger = old; tells = (moves, (last, refl)); lawful = lawful; same = refl }
  begin_by owners of false true moves less =
      record {
        ledger = takes_in old (saying.Begin owners);
        tells = (moves, refl, (record { epoch = ltb-true (reading old.log) 65535 less; committee = and_from (is_committee (committee_size old.log.f) owners []) true (and_from (are_owners (committee_size old.log.f) owners) (is_closed owners []) of (none_closed (length owners))) refl }, room, refl));
        lawful = lawful_kept old.log (saying.Begin owners) lawful (rw (moves, less) of);
        same = unnamed (saying.Begin owners) (λ x. refl) (λ b. moves) (λ b. absurd (false≢true b));
      }

  finish_by : (moving few : Bool) → is_moving old.log ≡ moving → nat_lt (ready_count (context_of old.log)) (quorum_size old.log.f) ≡ few
      → KeepsUp ids old saying.Finish (with_context (kept_of ids old.log)
      (cond {A = Outcome × Context} moving (cond few (coming.Waiting (ready_count (context_of old.log)), context_of old.log)
      (coming.Epoch (writes (context_of old.log)), turn (context_of old.log) saying.Finish))
      (coming.RefusedNotMoving, context_of old.log)))
  finish_by false few moves less = record { ledger = old; tells = (moves, refl); lawful = lawful; same = refl }
  finish_by true true moves less =
      record { ledger = old; tells = (moves, (sym (ready_count_is old.log), ltb-true (ready_count (context_of old.log)) (quorum_size old.log.f) less, refl)); lawful = lawful; same = refl }
  finish_by true false moves less =
      let enough = ltb-false (ready_count (context_of old.log)) (quorum_size old.log.f) less in
      record {
        ledger = takes_in old saying.Finish;
        tells = (moves, refl, (omega (arith, ready_count_is old.log, enough), room, refl));
        lawful = lawful_kept old.log saying.Finish lawful (and_from (is_moving old.log) (nat_le (quorum_size old.log.f) (ready_count (context_of old.log))) moves (le-leb (quorum_size old.log.f) (ready_count (context_of old.log)) enough));
        same = unnamed saying.Finish (λ x. refl) (λ b. absurd (false≢true b)) (λ b. moves);
      }

-- ---- any entry

pub keeps : (ids : List BlobId) (old : LedgerState) (item : Item) (body : Body) → IsLawful old.log → 0 < old.spare → AreApart ids → Says ids item body
    → IsOf (committee_size old.log.f) (length ids) item → KeepsUp ids old body (entered (kept_of ids old.log) item)
keeps ids old (Register place until) body lawful room apart (id, at, is) of = rw is (register_keeps ids old place id lawful room apart at until (register_answers old room id until))
keeps ids old (Ack place shard) body lawful room apart (id, at, is) of = rw is (ack_keeps ids old place id lawful room apart at shard of.1 (claim_answers old room Holds id shard))
keeps ids old (Attest place shard) body lawful room apart (id, at, is) of = rw is (attest_keeps ids old place id lawful room apart at shard of.1 (claim_answers old room Denies id shard))
keeps ids old (Ready shard) body lawful room apart is of =
    let below = lt-ltb shard (committee_size old.log.f) of in
    rw (is, below) (ready_by ids old lawful room shard below _ _ refl refl)
keeps ids old (Begin owners) body lawful room apart is of = rw is (begin_by ids old lawful room owners of _ _ refl refl)
keeps ids old Finish body lawful room apart is of = rw is (finish_by ids old lawful room _ _ refl refl)
