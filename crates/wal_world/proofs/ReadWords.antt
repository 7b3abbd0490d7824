-- What a read is said to come to.
use Rattle.wal_world.proofs.Common.{◌≡◌, ℕ, List, Option, Some, refl, sym, subst, BlobId, Reply, Outcome, IsOutcome, HasEvidence, Taken, World, Rules, ReadStep, ReadCollides, two_metadata, other_answer, read_payloads, ReadsTo, outcome_told, rules_of, CollidesOn, both_metadata, another_answer, IsTold, ReadsOn, IsTaken, Bytes, Reject, Word, Collided}
use Rattle.wal_evidence.specs.declared.evidence.Evidence.{Evidence}
use Rattle.wal_evidence.specs.declared.evidence.Verdict.TheVariants as verdict
use Rattle.wal_event.specs.declared.line.ReadWord.{ReadWord}
use Rattle.wal_protocol.specs.declared.first.First.TheVariants.{Judged}

pub reads_is : (digest : List ℕ → List ℕ) (id : BlobId) (payloads : List (List ℕ)) (o : Outcome) (found : Option Evidence) (word : ReadWord) (e : Evidence)
    → o ≡ outcome_told word → found ≡ Some e → IsOutcome digest id.0 payloads o → HasEvidence digest id.0 payloads o found → ReadsTo digest id payloads word (Some e)
reads_is digest id payloads o found word e same there outcome evidence = (rw same at outcome, rw (same, there) at evidence)

pub told_bytes : (digest : List ℕ → List ℕ) (f : ℕ) (old new : World) (id : BlobId) (payloads : List (List ℕ)) (bytes : List ℕ) (e : Evidence) (t : Taken ReadWord)
    → ReadsTo digest id payloads (Bytes bytes) (Some e) → IsTold digest old id (Judged e (verdict.Bytes bytes)) (Bytes bytes) new t
    → IsTaken digest (λ word. ReadsOn (rules_of digest f) old id payloads word new) (CollidesOn (rules_of digest f) old id payloads × (new ≡ old)) t
told_bytes digest f old new id payloads bytes e (Word said) reads h =
    subst (λ (w : ReadWord). ReadsOn (rules_of digest f) old id payloads w new) (sym h.0) (record { evidence = e; reads = reads; agreed = h.1 })
told_bytes digest f old new id payloads bytes e (Collided c) reads h =
    (h.0, (another_answer (Bytes bytes) (verdict.Bytes bytes) e reads refl h.1, h.2))

pub told_reject : (digest : List ℕ → List ℕ) (f : ℕ) (old new : World) (id : BlobId) (payloads : List (List ℕ)) (e : Evidence) (t : Taken ReadWord)
    → ReadsTo digest id payloads Reject (Some e) → IsTold digest old id (Judged e verdict.Reject) Reject new t
    → IsTaken digest (λ word. ReadsOn (rules_of digest f) old id payloads word new) (CollidesOn (rules_of digest f) old id payloads × (new ≡ old)) t
told_reject digest f old new id payloads e (Word said) reads h =
    subst (λ (w : ReadWord). ReadsOn (rules_of digest f) old id payloads w new) (sym h.0) (record { evidence = e; reads = reads; agreed = h.1 })
told_reject digest f old new id payloads e (Collided c) reads h =
    (h.0, (another_answer Reject verdict.Reject e reads refl h.1, h.2))

reads_of : (r : Rules) (w new : World) (id : BlobId) (replies : List Reply) (word : ReadWord) → ReadsOn r w id (read_payloads r w id replies) word new → ReadStep r w id replies word new
reads_of r w new id replies (Bytes bytes) h = record { evidence = h.evidence; reads = h.reads; agrees = h.agreed.0; state = h.agreed.1 }
reads_of r w new id replies Reject h = record { evidence = h.evidence; reads = h.reads; agrees = h.agreed.0; state = h.agreed.1 }
reads_of r w new id replies word h = h

collides_of : (r : Rules) (w : World) (id : BlobId) (replies : List Reply) → CollidesOn r w id (read_payloads r w id replies) → ReadCollides r w id replies
collides_of r w id replies (both_metadata h) = two_metadata h
collides_of r w id replies (another_answer word told e reads is differs) = other_answer word told e reads is differs

-- the step of a read, by the network after it gathered the replies
pub read_step : (digest : List ℕ → List ℕ) (w mid new : World) (id : BlobId) (replies : List Reply) (payloads : List (List ℕ)) (t : Taken ReadWord) → mid ≡ w
    → payloads ≡ read_payloads (rules_of digest w.log.f) w id replies
    → IsTaken digest (λ word. ReadsOn (rules_of digest mid.log.f) mid id payloads word new) (CollidesOn (rules_of digest mid.log.f) mid id payloads × (new ≡ mid)) t
    → IsTaken digest (λ word. ReadStep (rules_of digest w.log.f) w id replies word new) (ReadCollides (rules_of digest w.log.f) w id replies × (new ≡ w)) t
read_step digest w mid new id replies payloads (Word said) same gathered h = reads_of (rules_of digest w.log.f) w new id replies said (rw (same, gathered) at h)
read_step digest w mid new id replies payloads (Collided c) same gathered h =
    let is = rw (same, gathered) at h in
    (is.0, (collides_of (rules_of digest w.log.f) w id replies is.1.0, is.1.1))
