-- A payload that is longer than any that can matter changes nothing.
use Rattle.wal_reader.proofs.Common.{◌≡◌, ℕ, ◌+◌, ◌*◌, ◌<◌, ◌≤◌, List, [], ◌∷◌, ◌++◌, length, get_or, ap, arith, ⊎_elim, length-append, All, cases_lt, get_or_past, Primary, column_count, sliver_symbols, symbol_size, BlobMetadata, proof_text, EncodingProof, length-metadata_text, text_size-most, IsBytes, Metadata, Sliver, Proof, length-sliver_frame, read_is, Known, CarriesBadProof, CarriesMetadata, CarriesSliver, HasKnown, HasParts, IsEnough, longest_part}
use Rattle.std.proofs.Math.Nat.{mul-le-mul_right}
use Rattle.wal_evidence.proofs.ProofSizes.{bad_proof_long, narrow}
use Rattle.wal_reader.proofs.HeardLaws.{first_still, one_still}
use Rattle.wal_reader.proofs.KnownLaws.{parts_enough, parts_past}

abbrev Bytewise : List ℕ → Type 0
Bytewise bytes = All (λ b. b < 256) bytes

in_range : (bytes : List ℕ) → Bytewise bytes → IsBytes bytes
in_range bytes fit i =
    ⊎_elim (λ inside. fit i 0 inside) (λ past. let none : get_or bytes i 0 ≡ 0 = get_or_past bytes i 0 past in omega arith) (cases_lt i (length bytes))

-- a metadata has at most so many bytes
metadata_long : (digest : List ℕ → List ℕ) (id : List ℕ) (m : BlobMetadata) (payload : List ℕ) → Bytewise payload → CarriesMetadata digest id m payload
    → length payload ≤ 64012
metadata_long digest id m payload fit carries =
    let is = read_is payload (Metadata m) (in_range payload fit) carries.0 in
    omega (arith, ap length is.1, length-metadata_text m is.0, text_size-most m.format m.f, is.0.shape.1)

-- and so has a held sliver
sliver_long : (digest : List ℕ → List ℕ) (id : List ℕ) (m : BlobMetadata) (payload : List ℕ) (index : ℕ) (bytes : List ℕ) → Bytewise payload
    → CarriesSliver digest id m payload index bytes → length payload ≤ longest_part m
sliver_long digest id m payload index bytes fit carries =
    let is = read_is payload (Sliver id Primary index bytes) (in_range payload fit) carries.0 in
    omega (arith, ap length is.1, length-sliver_frame id Primary index bytes is.0.id_size, carries.1.size)

-- and a bad proof
proof_long : (digest : List ℕ → List ℕ) (id : List ℕ) (m : BlobMetadata) (payload : List ℕ) (p : EncodingProof) → Bytewise payload
    → CarriesBadProof digest id m payload p → length payload ≤ longest_part m
proof_long digest id m payload p fit carries =
    let is = read_is payload (Proof id p) (in_range payload fit) carries.0 in
    let s = symbol_size m.f m.length in
    let most : sliver_symbols p.axis m.f * (s + 327) ≤ column_count m.f * (s + 327) = mul-le-mul_right (s + 327) (narrow p.axis m.f) in
    let long = bad_proof_long digest m p carries.1 is.0.1 in
    omega (arith, ap length is.1, is.0.0, length-append id (proof_text p), long, most)

-- beside what is known
past_parts : (digest : List ℕ → List ℕ) (id : List ℕ) (k : Known) (payloads : List (List ℕ)) (payload : List ℕ) → HasKnown digest id k payloads → Bytewise payload
    → 64012 < length payload → (HasParts digest id k payloads → HasParts digest id k (payloads ++ payload ∷ [])) → HasKnown digest id k (payloads ++ payload ∷ [])
past_parts digest id k payloads payload was fit long parts = (
  one_still digest id payloads payload k.metadata was.0
      (λ other carries. let short = metadata_long digest id other payload fit carries in absurd (omega arith)),
  parts was.1,
  first_still digest id payloads payload k.metadata was.2,
)

-- if enough is known, a payload of more than 64012 bytes changes nothing
pub past_enough : (digest : List ℕ → List ℕ) (id : List ℕ) (k : Known) (payloads : List (List ℕ)) (payload : List ℕ) → IsEnough k → HasKnown digest id k payloads
    → Bytewise payload → 64012 < length payload → HasKnown digest id k (payloads ++ payload ∷ [])
past_enough digest id k payloads payload enough was fit long = past_parts digest id k payloads payload was fit long (parts_enough digest id k payloads payload enough)

-- a payload longer than 64012 bytes and than any part changes nothing of what is known
pub past_known : (digest : List ℕ → List ℕ) (id : List ℕ) (k : Known) (payloads : List (List ℕ)) (payload : List ℕ) → HasKnown digest id k payloads
    → Bytewise payload → 64012 < length payload → longest_part k.metadata < length payload → HasKnown digest id k (payloads ++ payload ∷ [])
past_known digest id k payloads payload was fit long longer =
    past_parts digest id k payloads payload was fit long
    (parts_past digest id k payloads payload
    (λ index bytes carries. let short = sliver_long digest id k.metadata payload index bytes fit carries in omega arith)
    (λ p carries. let short = proof_long digest id k.metadata payload p fit carries in omega arith))
