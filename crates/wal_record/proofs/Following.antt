-- A follower keeps what the ledger's entries say.
use Rattle.std.proofs.Common.{◌≡◌, ℕ, ◌≤◌, inl, inr, true, false, not, ◌&&◌, nat_lt, cond, List, [], ◌∷◌, fold, refl, sym, ap, ◌∙◌}
use Rattle.std.proofs.lemmas.Bool.{cases_Bool, and_parts, not-true, false≢true}
use Rattle.wal_shape.specs.declared.metadata.BlobId.{BlobId}
use Rattle.wal_shape.specs.Owners.{are_owners}
use Rattle.wal_ledger.specs.declared.entry.Body.{Body}
use Rattle.wal_ledger.specs.declared.entry.Body.TheVariants.{Register, Ack, Attest, Ready, Begin, Finish}
use Rattle.wal_ledger.specs.Shards.{committee_size}
use Rattle.wal_ledger.specs.Ledger.{Log, reading, entered, names, is_begin, is_finish, is_moving}
use Rattle.wal_ledger.specs.Kept.{IsLawful}
use Rattle.wal_ledger.proofs.RowsKept.{kept_new}
use Rattle.wal_record.specs.Record.{BlobRecord, blob_record}
use Rattle.wal_record.specs.Context.{Context, context_of, step, turn}
use Rattle.wal_record.specs.Follow.{takes, takes_all, Followed, follow}
use Rattle.wal_record.proofs.Stepping.{record_step}
use Rattle.wal_record.proofs.Turning.{record_kept, context_turn}
use Rattle.wal_record.proofs.Lawful.{lawful_kept}

-- what a ledger's entries say of a blob
abbrev pub kept_of : BlobId → Log → Followed
kept_of id log = record { context = context_of log; blob = blob_record log id }

kept_same : (c d : Context) (r s : BlobRecord) → c ≡ d → r ≡ s → ◌≡◌ {A = Followed} (record { context = c; blob = r }) (record { context = d; blob = s })
kept_same c d r s context blob = cc

begins : (log : Log) (body : Body) → takes (context_of log) body ≡ true → is_begin body ≡ true → is_moving log ≡ false
begins log (Begin owners) h is = not-true (is_moving log) (and_parts (not (is_moving log)) (nat_lt (reading log) 65535 && are_owners (committee_size log.f) owners) h).0
begins log (Register i until) h is = absurd (false≢true is)
begins log (Ack s i) h is = absurd (false≢true is)
begins log (Attest s i) h is = absurd (false≢true is)
begins log (Ready s) h is = absurd (false≢true is)
begins log Finish h is = absurd (false≢true is)

ends : (log : Log) (body : Body) → takes (context_of log) body ≡ true → is_finish body ≡ true → is_moving log ≡ true
ends log Finish h is = (and_parts (is_moving log) _ h).0
ends log (Begin owners) h is = absurd (false≢true is)
ends log (Register i until) h is = absurd (false≢true is)
ends log (Ack s i) h is = absurd (false≢true is)
ends log (Attest s i) h is = absurd (false≢true is)
ends log (Ready s) h is = absurd (false≢true is)

context_taken : (log : Log) (body : Body) → IsLawful log → takes (context_of log) body ≡ true → turn (context_of log) body ≡ context_of (entered log body)
context_taken log body lawful h = sym (context_turn log body lawful (begins log body h) (ends log body h))

follow_step : (id : BlobId) (log : Log) (body : Body) → IsLawful log → takes (context_of log) body ≡ true → follow id (kept_of id log) body ≡ kept_of id (entered log body)
follow_step id log body lawful taken =
    let context = context_taken log body lawful taken in
    elim (cases_Bool (names id body)) [
      | inl named ↦ kept_same _ _ _ _ context (ap (λ b. cond b (step (context_of log) (blob_record log id) body) (blob_record log id)) named ∙ sym (record_step log body id lawful named))
      | inr other ↦ kept_same _ _ _ _ context (ap (λ b. cond b (step (context_of log) (blob_record log id) body) (blob_record log id)) other ∙ sym (record_kept log body id lawful (begins log body taken) other))
    ]

pub follow_all : (id : BlobId) (log : Log) (bodies : List Body) → IsLawful log → takes_all (context_of log) bodies ≡ true
    → IsLawful (fold entered log bodies) × (fold (follow id) (record { context = context_of log; blob = blob_record log id }) bodies ≡ record { context = context_of (fold entered log bodies); blob = blob_record (fold entered log bodies) id })
follow_all id log [] lawful taken = (lawful, refl)
follow_all id log (body ∷ bodies) lawful taken =
    let parts = and_parts (takes (context_of log) body) (takes_all (turn (context_of log) body) bodies) taken in
    let rest = follow_all id (entered log body) bodies (lawful_kept log body lawful parts.0) (ap (λ (c : Context). takes_all c bodies) (sym (context_taken log body lawful parts.0)) ∙ parts.1) in
    (rest.0, ap (λ (k : Followed). fold (follow id) k bodies) (follow_step id log body lawful parts.0) ∙ rest.1)

-- a ledger without entries
pub lawful_new : (f first : ℕ) (owners : List ℕ) → 1 ≤ f → f ≤ 333 → first ≤ 65535 → are_owners (committee_size f) owners ≡ true → IsLawful (record { f = f; first = first; owners = owners; entries = [] })
lawful_new f first owners some few last owned = (kept_new f first owners 0 some few last owned).lawful
