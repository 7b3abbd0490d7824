-- Payloads have one outcome: their metadata is one, and so are its slivers in them and the verdict on these.
use Rattle.wal_reader.proofs.Common.{◌≡◌, ◌≢◌, ◌⊎◌, ℕ, ◌<◌, List, length, refl, sym, ap, ◌∙◌, arith, inl, inr, ⊎_elim, row_count, BlobMetadata, EncodingProof, MetaClash, Verdict, Judges, Outcome, Bytes, Reject, Short, NoMetadata, Collision, CarriesBadProof, IsFirstBadProof, NoBadProof, AreFirstTwo, Collects, Decides, HasMetadata, HoldsFew, IsMetadataIn, IsOnlyOutcome, IsOutcome, told_outcome}
use Rattle.wal_evidence.specs.declared.evidence.Verdict.TheVariants as told
use Rattle.wal_reader.proofs.FirstOnes.{first_not_none, first_two}
use Rattle.wal_reader.proofs.Collections.{one_collection}

-- enough slivers, and the one verdict on them
pub record HasVerdict (digest : List ℕ → List ℕ) (id : List ℕ) (payloads : List (List ℕ)) (m : BlobMetadata) (indices joined : List ℕ) (verdict : Verdict) : Type 0 where
  pub one : IsMetadataIn digest id payloads m
  pub collects : Collects digest id m payloads indices joined
  pub count : length indices ≡ row_count m.f
  pub only : (other : Verdict) → Judges digest m indices joined other → other ≡ verdict

-- too few slivers
pub record HasFew (digest : List ℕ → List ℕ) (id : List ℕ) (payloads : List (List ℕ)) (m : BlobMetadata) (indices joined : List ℕ) : Type 0 where
  pub one : IsMetadataIn digest id payloads m
  pub collects : Collects digest id m payloads indices joined
  pub few : length indices < row_count m.f

module _ (digest : List ℕ → List ℕ) (id : List ℕ) (payloads : List (List ℕ)) where
  -- where the payloads have one metadata, no two differ
  pub no_two : (m a b : BlobMetadata) → IsMetadataIn digest id payloads m → HasMetadata digest id payloads a
      → HasMetadata digest id payloads b → a ≡ b
  no_two m a b one has_a has_b = one.1 a has_a ∙ sym (one.1 b has_b)

  -- payloads that carry one metadata do not carry two
  pub not_two : (m a b : BlobMetadata) → IsMetadataIn digest id payloads m → AreFirstTwo digest id payloads a b → ⊥
  not_two m a b one two =
      let differ = first_two digest id payloads a b two in
      differ.2 (no_two m a b one differ.0 differ.1)

  -- of one metadata there is one collection
  same_slivers : (m other : BlobMetadata) (is js ks ls : List ℕ) → other ≡ m → Collects digest id other payloads is js
      → Collects digest id m payloads ks ls → (is ≡ ks) × (js ≡ ls)
  same_slivers m other is js ks ls same a b =
      one_collection digest id m payloads is js ks ls (rw same at a) b

  -- where there are enough, there is one verdict
  one_decided : (m : BlobMetadata) (indices joined : List ℕ) (verdict other : Verdict)
      → HasVerdict digest id payloads m indices joined verdict → Decides digest id payloads other → other ≡ verdict
  one_decided m indices joined verdict other has found =
      let same = has.one.1 found.0 found.1.0 in
      let slivers = same_slivers m found.0 found.2 found.3 indices joined same found.4 has.collects in
      has.only other (rw (same, slivers.0, slivers.1) at found.6)

  -- slivers that are enough are not few
  enough_not_few : (m other : BlobMetadata) (is js ks ls : List ℕ) → other ≡ m → Collects digest id other payloads is js
      → length is ≡ row_count other.f → Collects digest id m payloads ks ls → length ks < row_count m.f → ⊥
  enough_not_few m other is js ks ls same enough count few less =
      let slivers = same_slivers m other is js ks ls same enough few in
      absurd (omega (arith, ap length slivers.0, ap (λ (x : BlobMetadata). row_count x.f) same, count, less))

  -- and not where there are few
  not_decided : (m : BlobMetadata) (indices joined : List ℕ) (verdict : Verdict)
      → HasFew digest id payloads m indices joined → Decides digest id payloads verdict → ⊥
  not_decided m indices joined verdict has found =
      enough_not_few m found.0 found.2 found.3 indices joined (has.one.1 found.0 found.1.0) found.4 found.5 has.collects
      has.few

  -- nor are there few where there are enough
  not_few : (m other : BlobMetadata) (indices joined : List ℕ) (verdict : Verdict) (have : ℕ)
      → HasVerdict digest id payloads m indices joined verdict → IsMetadataIn digest id payloads other
      → HoldsFew digest id other payloads have → ⊥
  not_few m other indices joined verdict have has one few =
      enough_not_few other m indices joined few.0 few.1 (one.1 m has.one.0) has.collects has.count few.2
      (omega (arith, few.3, few.4))

  -- which is the outcome, and no other is
  pub only_verdict : (m : BlobMetadata) (indices joined : List ℕ) (verdict : Verdict)
      → HasVerdict digest id payloads m indices joined verdict → IsOnlyOutcome digest id payloads (told_outcome verdict)
  only_verdict m indices joined verdict has (Bytes bytes) found =
      ap told_outcome (one_decided m indices joined verdict (told.Bytes bytes) has found)
  only_verdict m indices joined verdict has Reject (inl found) =
      ap told_outcome (one_decided m indices joined verdict told.Reject has found)
  only_verdict m indices joined verdict has Reject (inr found) =
      absurd (not_few m found.0 indices joined verdict found.2 has found.1 found.3)
  only_verdict m indices joined verdict has (Short have need) found =
      absurd (not_few m found.0 indices joined verdict have has found.1 found.2)
  only_verdict m indices joined verdict has NoMetadata found = absurd (found m has.one.0)
  only_verdict m indices joined verdict has (Collision clash) found = absurd (not_two m found.0 found.1 has.one found.2)

  -- where they are few, the outcome is that of the first bad proof, or their number
  few_come_to : (m : BlobMetadata) (indices joined : List ℕ) → HasFew digest id payloads m indices joined
      → (outcome : Outcome) → IsOutcome digest id payloads outcome
      → ((outcome ≡ Reject) × ((p : EncodingProof) × IsFirstBadProof digest id m payloads p))
      ⊎ ((outcome ≡ Short (length indices) (row_count m.f)) × NoBadProof digest id m payloads)
  few_come_to m indices joined has (Bytes bytes) found =
      absurd (not_decided m indices joined (told.Bytes bytes) has found)
  few_come_to m indices joined has Reject (inl found) = absurd (not_decided m indices joined told.Reject has found)
  few_come_to m indices joined has Reject (inr found) =
      inl (refl, (found.4, rw (has.one.1 found.0 found.1.0) at found.5))
  few_come_to m indices joined has (Short have need) found =
      let same = has.one.1 found.0 found.1.0 in
      let slivers = same_slivers m found.0 found.2.0 found.2.1 indices joined same found.2.2 has.collects in
      inr (cc (found.2.3, found.3, slivers.0, same), rw same at found.4)
  few_come_to m indices joined has NoMetadata found = absurd (found m has.one.0)
  few_come_to m indices joined has (Collision clash) found = absurd (not_two m found.0 found.1 has.one found.2)

  -- with few slivers and a bad proof, the only outcome is to reject
  pub only_refuted : (m : BlobMetadata) (indices joined : List ℕ) (p : EncodingProof)
      → HasFew digest id payloads m indices joined → IsFirstBadProof digest id m payloads p
      → IsOnlyOutcome digest id payloads Reject
  only_refuted m indices joined p has first other found =
      ⊎_elim (λ bad. rw bad.0 refl)
      (λ good. absurd (first_not_none (CarriesBadProof digest id m) payloads p first good.1))
      (few_come_to m indices joined has other found)

  -- and where there is none, their number is the outcome
  pub only_short : (m : BlobMetadata) (indices joined : List ℕ) → HasFew digest id payloads m indices joined
      → NoBadProof digest id m payloads → IsOnlyOutcome digest id payloads (Short (length indices) (row_count m.f))
  only_short m indices joined has none other found =
      ⊎_elim
      (λ bad. absurd (first_not_none (CarriesBadProof digest id m) payloads bad.1.0 bad.1.1 none))
      (λ good. rw good.0 refl)
      (few_come_to m indices joined has other found)

  -- where there is no metadata, nothing else is known
  pub only_none : ((m : BlobMetadata) → HasMetadata digest id payloads m → ⊥)
      → IsOnlyOutcome digest id payloads NoMetadata
  only_none none NoMetadata found = refl
  only_none none Reject (inl found) = absurd (none found.0 found.1.0)
  only_none none Reject (inr found) = absurd (none found.0 found.1.0)
  only_none none (Collision clash) two = absurd (none two.0 (first_two digest id payloads two.0 two.1 two.2).0)
  only_none none other found = absurd (none found.0 found.1.0)

  -- where there are two, they collide
  pub only_collision : (a b : BlobMetadata) (clash : MetaClash) → HasMetadata digest id payloads a
      → HasMetadata digest id payloads b → a ≢ b → IsOnlyOutcome digest id payloads (Collision clash)
  only_collision a b clash has_a has_b differ (Collision other) found = tt
  only_collision a b clash has_a has_b differ NoMetadata found = absurd (found a has_a)
  only_collision a b clash has_a has_b differ Reject (inl one) = absurd (differ (no_two one.0 a b one.1 has_a has_b))
  only_collision a b clash has_a has_b differ Reject (inr one) = absurd (differ (no_two one.0 a b one.1 has_a has_b))
  only_collision a b clash has_a has_b differ other found = absurd (differ (no_two found.0 a b found.1 has_a has_b))
