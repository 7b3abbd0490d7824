-- Payloads have one outcome, but for the two texts of a collision, and one evidence for it.
use Rattle.wal_theorem.proofs.Common.{◌≡◌, ℕ, ◌+◌, ◌*◌, ◌/◌, ◌%◌, ◌<◌, List, length, take, Option, Some, refl, sym, ap, ap₂, ◌∙◌, arith, ⊎_elim, get_or_default, region, row_count, column_count, symbol_size, BlobMetadata, IsMetadata, EncodingProof, symbol_size-least, source_of, AreBytes, bytes_of_part, bytes_within, AreSlivers, through_unique, read_of, Basis, Slivers, Evidence, Verdict, AreHeld, IsHeldBy, Judges, sliver_bytes, one_verdict, Outcome, CarriesBadProof, IsFirstBadProof, Collects, Decides, HasEvidence, HasMetadata, HoldsFew, IsDrawnFrom, IsEvidenceFor, IsMetadataIn, IsOnlyOutcome, IsOutcome, enough_are_held, one_collection, first_two, one_first, one_proof, HasFew, HasVerdict, only_verdict, only_refuted, only_short, only_none, only_collision, Bytes, Reject, Proof, Short, NoMetadata, Collision}
use Rattle.std.proofs.lemmas.Nat.{div_below, mod_below, div-add-mod'}
use Rattle.wal_kernel.proofs.Regions.{region-byte}

-- ---- slivers that hold

-- joined regions of bytes are bytes
bytes_by_regions : (count s : ℕ) (d : List ℕ) → 0 < s → length d ≡ count * s
    → ((k : ℕ) → k < count → AreBytes (region s d k)) → AreBytes d
bytes_by_regions count s d some long each =
    bytes_within d (λ i inside.
    let below : i / s < count = div_below i s count some (omega (arith, inside, long)) in
    let place : s * (i / s) + i % s ≡ i = omega (arith, div-add-mod' i s) in
    rw (region-byte s d (i / s) (i % s) (mod_below i s some), place) at (each (i / s) below (i % s)))

module _ (digest : List ℕ → List ℕ) (m : BlobMetadata) (is js : List ℕ) (fit : IsMetadata m)
    (held : AreHeld digest m is js) where
  -- they are the slivers of a matrix
  pub held_slivers : AreSlivers m.f (symbol_size m.f m.length) is js
  held_slivers =
      let s = symbol_size m.f m.length in
      let least = symbol_size-least m.f m.length in
      let positive = least.positive in
      let some : 0 < sliver_bytes m = grind arith in
      record {
        few = fit.shape.1;
        even = least.even;
        some = omega arith;
        count = held.count;
        distinct = held.distinct;
        below = λ k d l. rw (get_or_default is k d 0 l) (held.held k l).within;
        size = held.size;
        bytes = bytes_by_regions (row_count m.f) (sliver_bytes m) js some held.size
            (λ k l. let sliver = held.held k (omega (arith, l, held.count)) in
            rw sliver.is_word.begins at
            (bytes_of_part (column_count m.f * s) 0 sliver.word (bytes_within sliver.word sliver.is_word.coded.fits)));
      }

  -- and there is one verdict on them
  pub one_judgement : (a b : Verdict) → Judges digest m is js a → Judges digest m is js b → a ≡ b
  one_judgement a b judged other =
      let s = symbol_size m.f m.length in
      let same = through_unique m.f s is js judged.0 other.0 held_slivers judged.1 other.1 in
      one_verdict digest m (take m.length (source_of m.f s other.0)) a b (rw same at judged.2) other.2

-- ---- the first payload that carries something

-- one proof that is bad for a metadata
pub one_bad_proof : (digest : List ℕ → List ℕ) (id : List ℕ) (m : BlobMetadata) (payloads : List (List ℕ)) (p q : EncodingProof)
    → IsFirstBadProof digest id m payloads p → IsFirstBadProof digest id m payloads q → p ≡ q
one_bad_proof digest id m payloads p q =
    one_first (CarriesBadProof digest id m) (λ payload x y a b. one_proof (read_of payload) id x y a.0 b.0) payloads p q

-- ---- one outcome

module _ (digest : List ℕ → List ℕ) (id : List ℕ) (payloads : List (List ℕ)) where
  -- a metadata of the identifier is a metadata
  pub metadata_fits : (m : BlobMetadata) → HasMetadata digest id payloads m → IsMetadata m
  metadata_fits m has = has.4.1.fit

  has_verdict : (verdict : Verdict) → (found : Decides digest id payloads verdict) → HasVerdict digest id payloads found.0 found.2 found.3 verdict
  has_verdict verdict found =
      let held = enough_are_held digest id found.0 payloads found.2 found.3 found.4 found.5 in
      record {
        one = found.1;
        collects = found.4;
        count = found.5;
        only = λ other judged.
            one_judgement digest found.0 found.2 found.3 (metadata_fits found.0 found.1.0) held other verdict judged found.6;
      }

  has_few : (m : BlobMetadata) (have : ℕ) → IsMetadataIn digest id payloads m → (few : HoldsFew digest id m payloads have) → HasFew digest id payloads m few.0 few.1
  has_few m have one few = record { one = one; collects = few.2; few = rw few.3 at few.4 }

  -- the outcome of payloads is the only one
  pub only_outcome : (o : Outcome) → IsOutcome digest id payloads o → IsOnlyOutcome digest id payloads o
  only_outcome (Bytes bytes) is =
      only_verdict digest id payloads is.0 is.2 is.3 (Bytes bytes) (has_verdict (Bytes bytes) is)
  only_outcome Reject is =
      ⊎_elim
      (λ decides. only_verdict digest id payloads decides.0 decides.2 decides.3 Reject (has_verdict Reject decides))
      (λ refutes. only_refuted digest id payloads refutes.0 refutes.3.0 refutes.3.1 refutes.4 (has_few refutes.0 refutes.2 refutes.1 refutes.3) refutes.5)
      is
  only_outcome (Short have need) is =
      rw (is.2.3, is.3) (only_short digest id payloads is.0 is.2.0 is.2.1 (has_few is.0 have is.1 is.2) is.4)
  only_outcome NoMetadata is = only_none digest id payloads is
  only_outcome (Collision clash) is =
      let two = first_two digest id payloads is.0 is.1 is.2 in
      only_collision digest id payloads is.0 is.1 clash two.0 two.1 two.2

  -- ---- one evidence

  -- enough slivers, and too few
  not_both : (m : BlobMetadata) (is js : List ℕ) (have : ℕ) → Collects digest id m payloads is js → length is ≡ row_count m.f → HoldsFew digest id m payloads have → ⊥
  not_both m is js have collects count few =
      let same = one_collection digest id m payloads is js few.0 few.1 collects few.2 in
      omega (arith, ap length same.0, count, few.3, few.4)

  one_basis : (m : BlobMetadata) (a b : Basis) → IsDrawnFrom digest id payloads m a → IsDrawnFrom digest id payloads m b → IsHeldBy digest m a → IsHeldBy digest m b → a ≡ b
  one_basis m (Slivers is js) (Slivers ks ls) drawn other held also =
      let same = one_collection digest id m payloads is js ks ls drawn other in cc (same.0, same.1)
  one_basis m (Slivers is js) (Proof q) drawn other held also = absurd (not_both m is js other.0 drawn held.count other.1)
  one_basis m (Proof p) (Slivers ks ls) drawn other held also = absurd (not_both m ks ls drawn.0 other also.count drawn.1)
  one_basis m (Proof p) (Proof q) drawn other held also = cc (one_bad_proof digest id m payloads p q drawn.2 other.2)

  -- evidence that leads to a verdict is the only one
  pub one_evidence : (u v : Verdict) (a b : Option Evidence) → IsEvidenceFor digest id payloads u a → IsEvidenceFor digest id payloads v b → a ≡ b
  one_evidence u v a b is_a is_b =
      let same : is_a.0.metadata ≡ is_b.0.metadata = is_b.4.1 is_a.0.metadata is_a.4.0 in
      let basis = one_basis is_b.0.metadata is_a.0.basis is_b.0.basis (rw same at is_a.5) is_b.5 (rw same at is_a.2.held) is_b.2.held in
      let evidence : BlobMetadata → Basis → Option Evidence = λ m x. Some (record { metadata = m; basis = x }) in
      is_a.1 ∙ ap₂ evidence same basis ∙ sym is_b.1

  -- so an outcome has one
  pub outcome_evidence : (o : Outcome) (a b : Option Evidence) → HasEvidence digest id payloads o a → HasEvidence digest id payloads o b → a ≡ b
  outcome_evidence (Bytes bytes) a b is_a is_b = one_evidence (Bytes bytes) (Bytes bytes) a b is_a is_b
  outcome_evidence Reject a b is_a is_b = one_evidence Reject Reject a b is_a is_b
  outcome_evidence o a b is_a is_b = is_a ∙ sym is_b

  -- a rejection has evidence
  pub reject_evidence : IsOutcome digest id payloads Reject → (e : Evidence) × HasEvidence digest id payloads Reject (Some e)
  reject_evidence is =
      ⊎_elim
      (λ decides.
      let m = decides.0 in
      let e : Evidence = record { metadata = m; basis = Slivers decides.2 decides.3 } in
      let held = enough_are_held digest id m payloads decides.2 decides.3 decides.4 decides.5 in
      (e, (e, refl, record { committed = decides.1.0.4.1; held = held }, decides.6, decides.1, decides.4)))
      (λ refutes.
      let m = refutes.0 in
      let e : Evidence = record { metadata = m; basis = Proof refutes.4 } in
      (e, (e, refl, record { committed = refutes.1.0.4.1; held = refutes.5.4.1 }, refl, refutes.1, (refutes.2, refutes.3, refutes.5))))
      is
