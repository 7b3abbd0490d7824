use Rattle.wal_network.proofs.Common.{◌≡◌, ◌≢◌, ◌∙◌, ℕ, List, length, refl, sym, ap, BlobId, Verdict, First, Judged, Written, verdict_of}
use Rattle.wal_evidence.specs.declared.evidence.Basis.{Basis}
use Rattle.wal_evidence.specs.declared.evidence.Basis.TheVariants as basis
use Rattle.wal_evidence.specs.declared.evidence.Evidence.{Evidence}
use Rattle.wal_evidence.specs.declared.evidence.Verdict.TheVariants.{Bytes}
use Rattle.wal_evidence.specs.Evidence.{IsEvidence, IsJudgedBy}
use Rattle.wal_extract.specs.Contrary.{ContradictsBlob}
use Rattle.wal_theorem.specs.Instance.{rules_of, IsBackedBy}
use Rattle.wal_theorem.proofs.InstanceReads.{read_backed, write_backed}
use Rattle.wal_theorem.proofs.OneReading.{one_judgement}
use Rattle.wal_network.specs.Promised.{Answers, read, wrote, Contradict, shape_in}
use Rattle.wal_network.proofs.laws.every_answer.Goals as goal

module _ (digest : List ℕ → List ℕ) (size : (text : List ℕ) → length (digest text) ≡ 32) (f : ℕ) (id : BlobId) where
  -- what an answer rests on
  backed : (first : First) → Answers (rules_of digest f) id first → IsBackedBy digest f id first
  backed _ (read payloads word evidence told reads tells) = read_backed digest f id payloads word evidence told reads tells
  backed _ (wrote format blob message honest) = write_backed digest size f format blob id message honest

  -- evidence has one verdict
  one_verdict_of : (e : Evidence) (b : Basis) (told other : Verdict) → e.basis ≡ b → IsEvidence digest id.0 e → IsJudgedBy digest e.metadata b told → IsJudgedBy digest e.metadata b other → told ≡ other
  one_verdict_of e (basis.Slivers indices joined) told other is evidence judged next =
      one_judgement digest e.metadata indices joined evidence.committed.fit (rw is at evidence.held) told other judged next
  one_verdict_of e (basis.Proof proof) told other is evidence judged next = judged ∙ sym next

  against : (e : Evidence) (told : Verdict) (blob : List ℕ) → IsBackedBy digest f id (Judged e told) → (is : IsBackedBy digest f id (Written blob)) → told ≢ Bytes blob → ContradictsBlob digest (shape_in is.0 f blob) blob e
  against e told blob judged is differ = record {
    id = id.0;
    identifier = is.1;
    evidence = judged.0;
    other = λ same. differ (one_verdict_of e e.basis told (Bytes blob) refl judged.0 judged.1 same);
  }

  by : (one other : First) → IsBackedBy digest f id one → IsBackedBy digest f id other → verdict_of one ≢ verdict_of other → Contradict digest f one other
  by (Judged one told) (Judged other said) a b differ =
      record { id = id.0; left = a.0; right = b.0; left_verdict = told; right_verdict = said; left_judged = a.1; right_judged = b.1; differ = differ }
  by (Judged one told) (Written blob) a b differ = (b.0, against one told blob a b differ)
  by (Written blob) (Judged other said) a b differ = (a.0, against other said blob b a (λ same. differ (sym same)))
  by (Written blob) (Written other) a b differ = (a.0, b.0, λ same. differ (ap Bytes same), record { id = id.0; left = a.1; right = b.1 })

pub returns : goal.returns
returns g c =
    let digest = g.H.Hash32.digest in
    let size = g.met.H.Hash32.size in
    record { agree = λ f id one other answers also. by digest size f id one other (backed digest size f id one answers) (backed digest size f id other also) }
