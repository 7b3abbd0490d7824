-- The answers for one metadata: the verdict on enough slivers, or their number.
use Rattle.wal_reader.proofs.Common.{◌≡◌, ℕ, ◌≤◌, List, length, refl, arith, inl, inr, Option, None, Result, Ok, Err, IfOk, row_count, BlobMetadata, EncodingProof, MetaClash, AreDigestedFor, Verdict, Short, NoMetadata, Collision, ReadAnswer, IsFirstBadProof, NoBadProof, AreFirstTwo, Collects, Decides, HasMetadata, HoldsFew, IsAnswer, IsEvidenceFor, IsMetadataIn, IsOnlyOutcome, IsAnswerOf, told_outcome}
use Rattle.wal_tree.specs.Collision.{IsCollision}
use Rattle.wal_evidence.specs.declared.evidence.Basis.TheVariants.{Slivers, Proof}
use Rattle.wal_evidence.specs.declared.evidence.Evidence.{Evidence}
use Rattle.wal_evidence.specs.declared.evidence.Verdict.TheVariants as told
use Rattle.wal_reader.proofs.Collections.{collects_few, enough_are_held}
use Rattle.wal_reader.proofs.FirstOnes.{first_two}
use Rattle.wal_reader.proofs.OneOutcome.{HasFew, only_collision, only_none, only_refuted, only_short, only_verdict}

module _ (digest : List ℕ → List ℕ) (id : List ℕ) where
  -- an outcome that is a verdict, and its evidence
  outcome_of_verdict : (payloads : List (List ℕ)) (verdict : Verdict) (evidence : Option Evidence)
      → Decides digest id payloads verdict → IsOnlyOutcome digest id payloads (told_outcome verdict)
      → IsEvidenceFor digest id payloads verdict evidence
      → IsAnswer digest id payloads (record { outcome = told_outcome verdict; evidence = evidence })
  outcome_of_verdict payloads (told.Bytes bytes) evidence decides only proves = (decides, only, proves)
  outcome_of_verdict payloads told.Reject evidence decides only proves = (inl decides, only, proves)

  -- the answer that evidence leads to is the answer for the payloads
  pub settled : {E : Type 0} (m : BlobMetadata) (payloads : List (List ℕ)) (indices joined : List ℕ)
      (metadata : BlobMetadata) (is js : List ℕ) (r : Result ReadAnswer E) → IsMetadataIn digest id payloads m
      → Collects digest id m payloads indices joined → row_count m.f ≤ length indices → metadata ≡ m → is ≡ indices
      → js ≡ joined → IfOk r (IsAnswerOf digest (record { metadata = metadata; basis = Slivers is js }))
      → IfOk r (IsAnswer digest id payloads)
  settled m payloads indices joined metadata is js (Err e) one collects enough same_m same_is same_js given = tt
  settled m payloads indices joined metadata is js (Ok answer) one collects enough same_m same_is same_js given =
      let of = rw (same_m, same_is, same_js) at given in
      let count : length indices ≡ row_count m.f =
      omega (arith, collects_few digest id m payloads indices joined collects, enough) in
      let held = enough_are_held digest id m payloads indices joined collects count in
      rw of.3 (outcome_of_verdict payloads of.0 answer.evidence (m, one, indices, joined, collects, count, of.1)
      (only_verdict digest id payloads m indices joined of.0
      (record { one = one; collects = collects; count = count; only = of.2 }))
      (_, of.4, record { committed = one.0.4.1; held = held }, of.1, one, collects))

  has_few : (m : BlobMetadata) (payloads : List (List ℕ)) (have : ℕ) → IsMetadataIn digest id payloads m
      → (few : HoldsFew digest id m payloads have) → HasFew digest id payloads m few.0 few.1
  has_few m payloads have one few = record { one = one; collects = few.2; few = omega (arith, few.3, few.4) }

  -- a bad proof is the answer for the payloads
  pub refuted : {E : Type 0} (m : BlobMetadata) (payloads : List (List ℕ)) (have : ℕ) (p : EncodingProof)
      (metadata : BlobMetadata) (q : EncodingProof) (r : Result ReadAnswer E) → IsMetadataIn digest id payloads m
      → HoldsFew digest id m payloads have → IsFirstBadProof digest id m payloads p → metadata ≡ m → q ≡ p
      → IfOk r (IsAnswerOf digest (record { metadata = metadata; basis = Proof q }))
      → IfOk r (IsAnswer digest id payloads)
  refuted m payloads have p metadata q (Err e) one few first same_m same_p given = tt
  refuted m payloads have p metadata q (Ok answer) one few first same_m same_p given =
      let of = rw (same_m, same_p) at given in
      rw (of.3, of.1) (
        inr (m, one, have, few, p, first),
        only_refuted digest id payloads m few.0 few.1 p (has_few m payloads have one few) first,
        (_, of.4, record { committed = one.0.4.1; held = first.4.1 }, refl, one, (have, few, first)),
      )

  -- and where there is none, the number of slivers is
  pub short : (m : BlobMetadata) (payloads : List (List ℕ)) (have need : ℕ) (answer : ReadAnswer)
      → IsMetadataIn digest id payloads m → HoldsFew digest id m payloads have → need ≡ row_count m.f
      → NoBadProof digest id m payloads → answer ≡ record { outcome = Short have need; evidence = None }
      → IsAnswer digest id payloads answer
  short m payloads have need answer one few is_need none is =
      let has = has_few m payloads have one few in
      rw (is, is_need, few.3) (
        (m, one, (few.0, few.1, few.2, refl, has.few), refl, none),
        only_short digest id payloads m few.0 few.1 has none,
        refl,
      )

  -- no metadata
  pub absent : (payloads : List (List ℕ)) (answer : ReadAnswer)
      → ((m : BlobMetadata) → HasMetadata digest id payloads m → ⊥)
      → answer ≡ record { outcome = NoMetadata; evidence = None } → IsAnswer digest id payloads answer
  absent payloads answer none is = rw is (none, only_none digest id payloads none, refl)

  -- two metadata
  pub collided : (payloads : List (List ℕ)) (a b : BlobMetadata) (clash : MetaClash) (answer : ReadAnswer)
      → AreFirstTwo digest id payloads a b → IsCollision digest clash.left clash.right
      → AreDigestedFor digest a b clash.left clash.right
      → answer ≡ record { outcome = Collision clash; evidence = None } → IsAnswer digest id payloads answer
  collided payloads a b clash answer two collides texts is =
      let differ = first_two digest id payloads a b two in
      rw is ((a, b, two, collides, texts), only_collision digest id payloads a b clash differ.0 differ.1 differ.2, refl)
