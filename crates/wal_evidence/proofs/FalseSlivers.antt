-- Held slivers are those of the matrix of a blob that the metadata commits, or one of them is not, under the same root.
use Rattle.wal_evidence.proofs.Common.{◌≡◌, ◌≢◌, ◌⊎◌, ℕ, ◌<◌, List, length, slice_index, sym, inl, inr, ⊎_elim, region, Primary, BlobShape, shard_count, symbol_size, BlobMetadata, IsMetadata, primary_of, HoldsSliver, Basis, Slivers, Proof, Verdict, Bytes, CommitsMatrix, HasFalseSliver, IsHeldBy, IsJudgedBy, sliver_bytes}
use Rattle.wal_commit.proofs.HonestOpenings.{honest_sliver}
use Rattle.wal_evidence.proofs.FalseOpenings.{false_opening, length_is}
use Rattle.wal_evidence.proofs.SameOrNot.{all_or_some, same_or_not}
use Rattle.wal_evidence.proofs.Verdicts.{true_blob}

-- the metadata of a matrix commits its primary slivers
pub matrix_holds : (digest : List ℕ → List ℕ) (m : BlobMetadata) (blob e : List ℕ) (i : ℕ) → CommitsMatrix digest m blob e → i < shard_count m.f
    → HoldsSliver digest m Primary i (primary_of m.f (symbol_size m.f m.length) e i)
matrix_holds digest m blob e i is l =
    let shape : BlobShape = record { format = m.format; f = m.f; length = length blob } in
    rw (← is.1, ← length_is digest m blob e is) at (honest_sliver digest Primary shape e i is.0.coded l)

-- the verdict is the blob that the metadata commits, or a sliver is false
pub true_or_false : (digest : List ℕ → List ℕ) (m : BlobMetadata) (basis : Basis) (verdict : Verdict) → IsMetadata m → IsHeldBy digest m basis
    → ((other : Verdict) → IsJudgedBy digest m basis other → other ≡ verdict) → (blob e : List ℕ) → CommitsMatrix digest m blob e
    → (verdict ≡ Bytes blob) ⊎ HasFalseSliver digest m e basis
true_or_false digest m (Slivers indices joined) verdict fit held only blob e is =
    let own : ℕ → List ℕ = λ k. primary_of m.f (symbol_size m.f m.length) e (slice_index indices k) in
    let given : ℕ → List ℕ = λ k. region (sliver_bytes m) joined k in
    ⊎_elim
    (λ all. inl (true_blob digest m (Slivers indices joined) verdict fit only blob
    (e, is.0, is.1, λ k l. sym (all k l))))
    (λ found.
    let here = held.held found.0 found.1 in
    inr (found.0, found.1, found.2, here, matrix_holds digest m blob e (slice_index indices found.0) is here.within))
    (all_or_some (λ k. given k ≡ own k) (λ k. given k ≢ own k) (length indices) (λ k l. same_or_not (given k) (own k)))
true_or_false digest m (Proof p) verdict fit held only blob e is = inr (false_opening digest m p blob e fit.shape held is)
