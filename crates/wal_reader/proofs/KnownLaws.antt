-- What is held for one metadata, payload by payload.
use Rattle.wal_reader.proofs.Common.{◌≡◌, ℕ, List, [], ◌∷◌, ◌++◌, length, refl, sym, ap, ◌∙◌, arith, ⊎_elim, append_assoc, Option, Some, None, cases_lt, All-push, row_count, BlobMetadata, EncodingProof, Known, CarriesBadProof, CarriesSliver, Collects, HasParts, IsEnough, IsProofFound}
use Rattle.wal_reader.proofs.Collections.{collects_few, collects_full, collects_none, collects_passed}

-- nothing is held of no payloads
pub parts_none : (digest : List ℕ → List ℕ) (id : List ℕ) (k : Known) → k.work.f ≡ k.metadata.f → k.collected.indices.items ≡ []
    → k.collected.joined.items ≡ [] → k.proof ≡ None → HasParts digest id k []
parts_none digest id k same no_indices no_joined no_proof =
    record {
      f = same;
      slivers = rw (no_indices, no_joined) (collects_none digest id k.metadata);
      proof = λ few. rw no_proof (λ i d below. absurd (omega arith));
    }

-- a payload that carries no bad proof, and one that follows a bad proof
pub proof_more : (digest : List ℕ → List ℕ) (id : List ℕ) (m : BlobMetadata) (payloads : List (List ℕ)) (payload : List ℕ) (proof : Option EncodingProof)
    → ((p : EncodingProof) → proof ≡ None → CarriesBadProof digest id m payload p → ⊥)
    → IsProofFound digest id m payloads proof → IsProofFound digest id m (payloads ++ payload ∷ []) proof
proof_more digest id m payloads payload None good found =
    All-push (λ q. (p : EncodingProof) → CarriesBadProof digest id m q p → ⊥) payloads payload found (λ p. good p refl)
proof_more digest id m payloads payload (Some p) good found =
    let seam = append_assoc found.0 (found.1 ∷ found.2) (payload ∷ []) in
    (found.0, found.1, found.2 ++ payload ∷ [], cc (found.3, seam), found.4, found.5)

-- enough slivers are held already
pub parts_enough : (digest : List ℕ → List ℕ) (id : List ℕ) (k : Known) (payloads : List (List ℕ)) (payload : List ℕ) → IsEnough k
    → HasParts digest id k payloads → HasParts digest id k (payloads ++ payload ∷ [])
parts_enough digest id k payloads payload enough was =
    record {
      f = was.f;
      slivers = collects_full digest id k.metadata payloads (payload ∷ []) k.collected.indices.items k.collected.joined.items (omega arith) was.slivers;
      proof = λ few. absurd (omega arith);
    }

-- where they are too few, the proof is the first one
pub parts_found : (digest : List ℕ → List ℕ) (id : List ℕ) (k : Known) (payloads : List (List ℕ)) → (IsEnough k → ⊥) → HasParts digest id k payloads
    → IsProofFound digest id k.metadata payloads k.proof
parts_found digest id k payloads short was =
    was.proof (omega (arith, short, collects_few digest id k.metadata payloads _ k.collected.joined.items was.slivers))

-- the slivers with that of one more payload, and the proof where they are still too few
pub parts_more : (digest : List ℕ → List ℕ) (id : List ℕ) (old new : Known) (payloads : List (List ℕ)) (payload : List ℕ) → (IsEnough old → ⊥)
    → new.metadata ≡ old.metadata → new.work.f ≡ old.metadata.f
    → Collects digest id old.metadata (payloads ++ payload ∷ []) new.collected.indices.items new.collected.joined.items
    → ((IsEnough new → ⊥) → IsProofFound digest id old.metadata payloads old.proof → IsProofFound digest id old.metadata (payloads ++ payload ∷ []) new.proof)
    → HasParts digest id old payloads → HasParts digest id new (payloads ++ payload ∷ [])
parts_more digest id old new payloads payload short same f collects found was =
    record {
      f = f ∙ ap (λ (m : BlobMetadata). m.f) (sym same);
      slivers = rw same collects;
      proof = λ still. rw same (found (λ e. omega (arith, e, still)) (parts_found digest id old payloads short was));
    }

-- a payload that carries nothing for the metadata
pub parts_past : (digest : List ℕ → List ℕ) (id : List ℕ) (k : Known) (payloads : List (List ℕ)) (payload : List ℕ)
    → ((index : ℕ) (bytes : List ℕ) → CarriesSliver digest id k.metadata payload index bytes → ⊥)
    → ((p : EncodingProof) → CarriesBadProof digest id k.metadata payload p → ⊥)
    → HasParts digest id k payloads → HasParts digest id k (payloads ++ payload ∷ [])
parts_past digest id k payloads payload no_sliver no_proof was =
    let is = k.collected.indices.items in
    let js = k.collected.joined.items in
    let few = collects_few digest id k.metadata payloads is js was.slivers in
    ⊎_elim
    (λ less.
    parts_more digest id k k payloads payload (λ e. omega (arith, e, less)) refl was.f
    (collects_passed digest id k.metadata payloads payload is js (λ i b less carries. absurd (no_sliver i b carries)) was.slivers)
    (λ still found. proof_more digest id k.metadata payloads payload k.proof (λ p none carries. no_proof p carries) found) was)
    (λ least. parts_enough digest id k payloads payload (omega arith) was)
    (cases_lt (length is) (row_count k.metadata.f))
