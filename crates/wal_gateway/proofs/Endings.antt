-- How a get ends: a hit answers as a read of the payloads does, or the read's evidence contradicts the blob kept.
use Rattle.wal_gateway.proofs.Common.{◌≡◌, ℕ, Bool, true, List, Option, Some, None, MatchOption, ◌⊎◌, ⊎_elim, inl, inr, refl, sym, ap, ◌∙◌, cond, lookup, remove_entry, BlobId, id_eq, BlobMetadata, Basis, Slivers, Proof, Evidence, IsHeldBy, IsJudgedBy, Outcome, HasEvidence, IsDrawnFrom, IsEvidenceFor, IsMetadataIn, IsOnlyOutcome, IsOutcome, IsVerdict, GetAnswer, CheckedBlob, AnswersGet, Cache, Get, Hits, Misses, found_of, kept_blob, range_of, used, ContradictsKept, IsFreshOrContrary, arith, false, [], ◌∷◌, ◌++◌, Result, Ok, Err, IfOk, is_some, option_map, BlobShape, Found, AnswersAll, Leaves, entered, AreOnlyAnswers}
use Rattle.std.proofs.lemmas.Bool.{cases_Bool, false≢true}
use Rattle.std.specs.Str.{bytes_eq}
use Rattle.std.proofs.lemmas.Slice.Eq.{bytes_eq-Decides}
use Rattle.wal_evidence.specs.declared.evidence.Verdict.{Verdict}
use Rattle.std.specs.declared.alloc.AllocError.{AllocError}
use Rattle.wal_gateway.specs.Ends.{EndsGet}
use Rattle.wal_evidence.specs.declared.evidence.Verdict.TheVariants as told
use Rattle.wal_reader.specs.declared.outcome.Outcome.TheVariants as read
use Rattle.wal_gateway.proofs.Sound.{id_itself}
use Rattle.wal_gateway.proofs.OneRun.{hit_only, miss_only}
use Rattle.wal_gateway.proofs.Runs.{answered_more, only_more}

-- the blob that was used is in the list
used_kept : (cache : Cache) (id : BlobId) (blob : CheckedBlob) → kept_blob (used cache id blob) id ≡ Some blob
used_kept cache id blob = ap (λ (b : Bool). cond b (Some blob) (lookup (id_eq id) (remove_entry (id_eq id) cache.pairs))) (id_itself id)

module _ (digest : List ℕ → List ℕ) (id : List ℕ) (payloads : List (List ℕ)) where
  -- evidence from the payloads that leads to a blob makes it their outcome
  judged_outcome : (m : BlobMetadata) (basis : Basis) (bytes : List ℕ) → IsHeldBy digest m basis → IsMetadataIn digest id payloads m → IsDrawnFrom digest id payloads m basis
      → IsJudgedBy digest m basis (told.Bytes bytes) → IsOutcome digest id payloads (read.Bytes bytes)
  judged_outcome m (Slivers indices joined) bytes held one drawn judged =
      (m, one, indices, joined, drawn, held.count, judged)
  judged_outcome m (Proof p) bytes held one drawn judged = absurd (let is : told.Bytes bytes ≡ told.Reject = judged in cc)

  -- so it leads to no bytes that are not the outcome
  contrary : (verdict : Verdict) (evidence : Option Evidence) (cache : Cache) (key : BlobId) (blob : CheckedBlob) → key.0 ≡ id
      → kept_blob cache key ≡ Some blob → (IsOutcome digest id payloads (read.Bytes blob.bytes) → ⊥)
      → IsEvidenceFor digest id payloads verdict evidence → (e : Evidence) × (evidence ≡ Some e) × ContradictsKept digest cache key e
  contrary verdict evidence cache key blob key_is kept apart has = (
    has.0,
    has.1,
    record {
      blob = blob;
      kept = kept;
      evidence = rw key_is has.2;
      other = λ judged. apart (judged_outcome has.0.metadata has.0.basis blob.bytes has.2.held has.4 has.5 judged);
    },
  )

  -- a read's verdict is the blob in the list, or its evidence contradicts that blob
  fresh_or_contrary : (from size : ℕ) (outcome : Outcome) (evidence : Option Evidence) (cache : Cache) (key : BlobId) (blob : CheckedBlob) → key.0 ≡ id
      → kept_blob cache key ≡ Some blob → IsOnlyOutcome digest id payloads outcome → HasEvidence digest id payloads outcome evidence → IsVerdict outcome
      → (range_of from size blob.bytes ≡ found_of from size outcome) ⊎ ((e : Evidence) × (evidence ≡ Some e) × ContradictsKept digest cache key e)
  fresh_or_contrary from size (read.Bytes bytes) evidence cache key blob key_is kept only has verdict =
      ⊎_elim (λ is. inl (ap (range_of from size) (sym ((bytes_eq-Decides bytes blob.bytes).0 is))))
      (λ is. inr (contrary (told.Bytes bytes) evidence cache key blob key_is kept
      (λ outcome.
      let same : read.Bytes blob.bytes ≡ read.Bytes bytes = only (read.Bytes blob.bytes) outcome in
      let bytes_are : bytes ≡ blob.bytes = cc in
      false≢true (sym is ∙ (bytes_eq-Decides bytes blob.bytes).1 bytes_are)) has)) (cases_Bool (bytes_eq bytes blob.bytes))
  fresh_or_contrary from size read.Reject evidence cache key blob key_is kept only has verdict =
      inr (contrary told.Reject evidence cache key blob key_is kept
      (λ outcome. let same : read.Bytes blob.bytes ≡ read.Reject = only (read.Bytes blob.bytes) outcome in cc) has)
  fresh_or_contrary from size outcome evidence cache key blob key_is kept only has verdict = absurd verdict

-- of a get that is a hit
pub hit_fresh : (digest : List ℕ → List ℕ) (old : Cache) (get : Get) (answer : GetAnswer) (new : Cache) → AnswersGet digest old get answer new → answer.hit ≡ true
    → IsFreshOrContrary digest new get answer
hit_fresh digest old get answer new answers hit = by (kept_blob old get.id) answers
  where
    by : (o : Option CheckedBlob) → MatchOption o (Misses digest old get answer new) (λ blob. Hits old get blob answer new) → IsFreshOrContrary digest new get answer
    by None misses = absurd (false≢true (sym (ap (λ (a : GetAnswer). a.hit) misses.2) ∙ hit))
    by (Some blob) hits = λ fresh is verdict.
        let kept : kept_blob new get.id ≡ Some blob = rw hits.1 (used_kept old get.id blob) in
        let here = fresh_or_contrary digest get.id.0 get.payloads get.from get.size fresh.outcome fresh.evidence new get.id blob refl kept is.1 is.2 verdict in
        let found : answer.found ≡ range_of get.from get.size blob.bytes = ap (λ (a : GetAnswer). a.found) hits.0 in
        rw found here

-- ---- how a get ends, and what follows

-- a range that was found is that of the blob in the list
in_blob : (from size : ℕ) (o : Option CheckedBlob) (found : Found) → Some found ≡ option_map (λ blob. range_of from size blob.bytes) o
    → (blob : CheckedBlob) × (o ≡ Some blob) × (found ≡ range_of from size blob.bytes)
in_blob from size o found is = grind arith

module _ (digest : List ℕ → List ℕ) (old : Cache) (get : Get) where
  -- a hit
  pub ends_hit : (result : Option Found) (found : Found) (new : Cache) → result ≡ Some found
      → result ≡ option_map (λ blob. range_of get.from get.size blob.bytes) (kept_blob old get.id)
      → ((blob : CheckedBlob) → kept_blob old get.id ≡ Some blob → new ≡ used old get.id blob) → EndsGet digest old get (Ok (record { hit = true; found = found })) new
  ends_hit result found new some is leaves =
      let of = in_blob get.from get.size (kept_blob old get.id) found (sym some ∙ is) in
      let answer : GetAnswer = record { hit = true; found = found } in
      let hits : Hits old get of.0 answer new = (cc (of.2), leaves of.0 of.1) in
      (rw of.1 hits, hit_only digest old get of.0 answer new of.1 hits)

  -- a miss
  ends_miss : (outcome : Outcome) (answer : GetAnswer) (new : Cache) → kept_blob old get.id ≡ None → IsOutcome digest get.id.0 get.payloads outcome
      → IsOnlyOutcome digest get.id.0 get.payloads outcome → answer ≡ record { hit = false; found = found_of get.from get.size outcome } → Leaves digest old get outcome new
      → EndsGet digest old get (Ok answer) new
  ends_miss outcome answer new none is only answer_is leaves =
      (rw none (outcome, is, answer_is, leaves), miss_only digest old get outcome answer new none only answer_is leaves)

  -- where the read gives a blob
  pub ends_bytes : (outcome : Outcome) (evidence : Option Evidence) (shape : BlobShape) (bytes : List ℕ) (found : Found) (new : Cache) → kept_blob old get.id ≡ None
      → IsOutcome digest get.id.0 get.payloads outcome → IsOnlyOutcome digest get.id.0 get.payloads outcome → HasEvidence digest get.id.0 get.payloads outcome evidence
      → outcome ≡ read.Bytes bytes → ((e : Evidence) → evidence ≡ Some e → shape ≡ record { format = e.metadata.format; f = e.metadata.f; length = e.metadata.length })
      → found ≡ range_of get.from get.size bytes → new ≡ entered old get.id (record { shape = shape; bytes = bytes })
      → EndsGet digest old get (Ok (record { hit = false; found = found })) new
  ends_bytes outcome evidence shape bytes found new none is only has outcome_is shape_is found_is new_is =
      let here = rw outcome_is at has in
      ends_miss (read.Bytes bytes) (record { hit = false; found = found }) new none (rw outcome_is at is)
      (rw outcome_is at only) (cc (found_is)) (here.0.metadata, here.4, cc (new_is, shape_is here.0 here.1))

  -- and where it gives none
  leaves_none : (outcome : Outcome) → ((bytes : List ℕ) → outcome ≡ read.Bytes bytes → ⊥) → Leaves digest old get outcome old
  leaves_none (read.Bytes bytes) other = absurd (other bytes refl)
  leaves_none outcome other = refl

  -- a get that finds nothing kept, and no bytes, answers its outcome and leaves the cache
  pub ends_none : (outcome : Outcome) (answer : GetAnswer) → kept_blob old get.id ≡ None → IsOutcome digest get.id.0 get.payloads outcome
      → IsOnlyOutcome digest get.id.0 get.payloads outcome → ((bytes : List ℕ) → outcome ≡ read.Bytes bytes → ⊥)
      → answer ≡ record { hit = false; found = found_of get.from get.size outcome } → EndsGet digest old get (Ok answer) old
  ends_none outcome answer none is only other answer_is = ends_miss outcome answer old none is only answer_is (leaves_none outcome other)

  -- ---- what follows
  hit_of : (answer : GetAnswer) (new : Cache) (o : Option CheckedBlob) → MatchOption o (Misses digest old get answer new) (λ blob. Hits old get blob answer new) → answer.hit ≡ is_some o
  hit_of answer new o ends = grind arith

  pub ends_hits : (result : Result GetAnswer AllocError) (new : Cache) → EndsGet digest old get result new → IfOk result (λ answer. answer.hit ≡ is_some (kept_blob old get.id))
  ends_hits (Ok answer) new ends = hit_of answer new (kept_blob old get.id) ends.0
  ends_hits (Err e) new ends = tt

  -- with the answer of this get, all gets so far have their answers
  pub ends_all : (result : Result GetAnswer AllocError) (new : Cache) → EndsGet digest old get result new → (start : Cache) (gets : List Get) (answers : List GetAnswer)
      → AnswersAll digest start gets answers old → IfOk result (λ answer. AnswersAll digest start (gets ++ get ∷ []) (answers ++ answer ∷ []) new)
  ends_all (Ok answer) new ends start gets answers all = answered_more digest start gets answers old get answer new all ends.0
  ends_all (Err e) new ends start gets answers all = tt

  -- with the answer of this get, the answers so far are the only ones
  pub ends_only : (result : Result GetAnswer AllocError) (new : Cache) → EndsGet digest old get result new → (start : Cache) (gets : List Get) (answers : List GetAnswer)
      → AreOnlyAnswers digest start gets answers old → IfOk result (λ answer. AreOnlyAnswers digest start (gets ++ get ∷ []) (answers ++ answer ∷ []) new)
  ends_only (Ok answer) new ends start gets answers all = only_more digest start gets answers old get answer new all ends.1
  ends_only (Err e) new ends start gets answers all = tt

  -- an answer that is a hit is that of a fresh read, or what is kept is contradicted
  pub ends_fresh : (result : Result GetAnswer AllocError) (new : Cache) → EndsGet digest old get result new
      → IfOk result (λ answer. answer.hit ≡ true → IsFreshOrContrary digest new get answer)
  ends_fresh (Ok answer) new ends = hit_fresh digest old get answer new ends.0
  ends_fresh (Err e) new ends = tt
