-- Evidence for a metadata that does not lead to the blob of the metadata's matrix has a part that is not the matrix's own.
use Rattle.wal_extract.proofs.Common.{◌≡◌, ◌≢◌, ℕ, ◌*◌, ◌<◌, List, length, slice_get, slice_index, Some, sym, ap, ◌∙◌, arith, ⊎_elim, get_or_default, get_or_from_slice_get, slice_get_within, region, Opening, symbol_size, BlobMetadata, IsMetadata, IsCodedMatrix, primary_of, HoldsOpening, metadata_over, Slivers, Bytes, AreHeld, CommitsMatrix, IsJudgedBy, sliver_bytes, shape_of, true_verdict, HaveFalseOpening, HaveFalseSliver, OpeningsMeet, SliversMeet}
use Rattle.wal_shape.specs.EncodingProof.{EncodingProof}
use Rattle.wal_evidence.specs.BadProof.{IsBadProof}
use Rattle.wal_evidence.proofs.FalseOpenings.{false_opening}
use Rattle.wal_evidence.proofs.FalseSlivers.{matrix_holds}
use Rattle.wal_evidence.proofs.OneLine.{no_opening}
use Rattle.wal_evidence.proofs.SameOrNot.{all_or_some, same_or_not}
use Rattle.wal_extract.proofs.OneRoot.{held_one_root}

-- the matrix of a metadata has codewords of its symbols
coded : (digest : List ℕ → List ℕ) (m : BlobMetadata) (blob e : List ℕ) → CommitsMatrix digest m blob e → IsCodedMatrix m.f (symbol_size m.f m.length) e
unfolding metadata_over
coded digest m blob e is = rw (ap (λ (x : BlobMetadata). x.length) is.1) is.0.coded

-- the metadata of a matrix is the one over it, for its own shape
own_metadata : (digest : List ℕ → List ℕ) (m : BlobMetadata) (blob e : List ℕ) → CommitsMatrix digest m blob e → m ≡ metadata_over digest (shape_of m) e
unfolding metadata_over
own_metadata digest m blob e is =
    let long : length blob ≡ m.length = sym (ap (λ (x : BlobMetadata). x.length) is.1) in
    is.1 ∙ ap (λ (n : ℕ). metadata_over digest (record { format = m.format; f = m.f; length = n }) e) long

module _ (digest : List ℕ → List ℕ) (m : BlobMetadata) (blob e : List ℕ) (fit : IsMetadata m) (is : CommitsMatrix digest m blob e) where
  module _ (indices joined : List ℕ) (held : AreHeld digest m indices joined) where
    -- held slivers have one root with those of the matrix
    pub slivers_meet : SliversMeet digest m.f (symbol_size m.f m.length) e indices joined
    slivers_meet = record {
      each = λ k below. held_one_root _ _ _ _ _ _ fit.shape (held.held k below)
          (matrix_holds digest m blob e (slice_index indices k) is (held.held k below).within);
    }

    -- and one of them is not its own where they do not lead to its blob
    pub false_sliver : (IsJudgedBy digest m (Slivers indices joined) (Bytes blob) → ⊥)
        → HaveFalseSliver m.f (symbol_size m.f m.length) e indices joined
    false_sliver wrong =
        let own : ℕ → List ℕ = λ k. primary_of m.f (symbol_size m.f m.length) e (slice_index indices k) in
        let given : ℕ → List ℕ = λ k. region (sliver_bytes m) joined k in
        let found : (k : ℕ) × (k < length indices) × (own k ≢ given k) =
        ⊎_elim (λ all. absurd (wrong (true_verdict digest m (Slivers indices joined) blob fit (e, is.0, is.1, all))))
        (λ some. some) (all_or_some _ _ (length indices) (λ k below. same_or_not (own k) (given k))) in
        record {
          below = λ k d below. omega (arith, (held.held k below).within, get_or_default indices k d 0 below);
          long = held.size ∙ ap (λ n. n * sliver_bytes m) (sym held.count);
          place = found.0;
          within = found.1;
          apart = λ same. found.2 (sym same);
        }

  module _ (p : EncodingProof) (bad : IsBadProof digest m p) where
    holds_at : (k : ℕ) (o : Opening) → slice_get p.openings k ≡ Some o → HoldsOpening digest m p.axis p.index o
    holds_at k o there =
        let held = bad.line.enough.held k no_opening (slice_get_within p.openings k o there) in
        rw (get_or_from_slice_get p.openings k o no_opening there) at held

    -- openings of a bad proof are committed by the metadata over the matrix
    pub openings_meet : OpeningsMeet digest (shape_of m) e p
    openings_meet = record { each = λ k o there. rw (← own_metadata digest m blob e is) (holds_at k o there) }

    -- and one of them has not its symbol
    pub false_one : HaveFalseOpening m.f (symbol_size m.f m.length) e p
    false_one =
        let found = false_opening digest m p blob e fit.shape bad is in
        record {
          long = (coded digest m blob e is).size;
          index = found.4.within;
          crosses = λ k o there. (holds_at k o there).cross;
          place = found.0;
          opening = found.1;
          there = found.2;
          apart = found.3;
        }
