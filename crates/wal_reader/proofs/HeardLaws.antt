-- The metadata of payloads, and one payload more.
use Rattle.wal_reader.proofs.Common.{◌≡◌, ◌≢◌, ℕ, List, [], ◌∷◌, ◌++◌, refl, ◌∙◌, arith, ⊎_elim, append_assoc, length-append, Any, get_or_append_left, BlobMetadata, MetaClash, read_of, Known, AreFirstTwo, IsFirstOther, CarriesMetadata, HasMetadata, IsFirstMetadata, IsMetadataIn, Two, CarriesNoPart, HasKept, HasKnown, HasParts, Sifts, none}
use Rattle.std.proofs.lemmas.List.Quantifiers.{Any-push}
use Rattle.wal_reader.proofs.Gathering.{any_push_cases, one_metadata}
use Rattle.wal_reader.proofs.KnownLaws.{parts_past}

-- what holds of some payload holds of some payload of a longer list
pub any_front : (P : List ℕ → Type 0) (payloads more : List (List ℕ)) → Any P payloads → Any P (payloads ++ more)
any_front P payloads more (k, x, below, at, holds) =
    (k, x, omega (arith, length-append payloads more), get_or_append_left payloads more x k below ∙ at, holds)

-- a payload without metadata
pub none_still : (digest : List ℕ → List ℕ) (id : List ℕ) (payloads : List (List ℕ)) (payload : List ℕ) → ((m : BlobMetadata) → HasMetadata digest id payloads m → ⊥)
    → ((m : BlobMetadata) → CarriesMetadata digest id m payload → ⊥) → (m : BlobMetadata) → HasMetadata digest id (payloads ++ payload ∷ []) m → ⊥
none_still digest id payloads payload before here m has =
    ⊎_elim (before m) (here m) (any_push_cases (CarriesMetadata digest id m) payloads payload has)

-- a payload with no other metadata
pub one_still : (digest : List ℕ → List ℕ) (id : List ℕ) (payloads : List (List ℕ)) (payload : List ℕ) (m : BlobMetadata) → IsMetadataIn digest id payloads m
    → ((other : BlobMetadata) → CarriesMetadata digest id other payload → other ≡ m) → IsMetadataIn digest id (payloads ++ payload ∷ []) m
one_still digest id payloads payload m one here = (
  any_front (CarriesMetadata digest id m) payloads (payload ∷ []) one.0,
  λ other has. ⊎_elim (one.1 other) (here other) (any_push_cases (CarriesMetadata digest id other) payloads payload has),
)

-- a payload with the first metadata
pub one_new : (digest : List ℕ → List ℕ) (id : List ℕ) (payloads : List (List ℕ)) (payload : List ℕ) (m : BlobMetadata) → ((x : BlobMetadata) → HasMetadata digest id payloads x → ⊥)
    → CarriesMetadata digest id m payload → IsMetadataIn digest id (payloads ++ payload ∷ []) m
one_new digest id payloads payload m before carries = (
  Any-push (CarriesMetadata digest id m) payloads payload carries,
  λ other has. ⊎_elim (λ old. absurd (before other old)) (λ new. one_metadata (read_of payload) other m new.0 carries.0)
      (any_push_cases (CarriesMetadata digest id other) payloads payload has),
)

-- the frame of a metadata carries no part
pub no_part : (digest : List ℕ → List ℕ) (id : List ℕ) (payload : List ℕ) (m : BlobMetadata) → CarriesMetadata digest id m payload → CarriesNoPart id payload
no_part digest id payload m carries =
    (λ index bytes e. absurd (cc (carries.0, e)), λ p e. absurd (cc (carries.0, e)))

-- what is held behind a metadata that came last
pub known_new : (digest : List ℕ → List ℕ) (id : List ℕ) (k : Known) (payloads : List (List ℕ)) (payload : List ℕ) (m : BlobMetadata)
    → ((x : BlobMetadata) → HasMetadata digest id payloads x → ⊥) → CarriesMetadata digest id m payload → k.metadata ≡ m → HasParts digest id k payloads
    → HasKnown digest id k (payloads ++ payload ∷ [])
known_new digest id k payloads payload m before carries same held =
    let idle = no_part digest id payload m carries in (
      rw same (one_new digest id payloads payload m before carries),
      parts_past digest id k payloads payload (λ index bytes is. idle.0 index bytes is.0) (λ p is. idle.1 p is.0) held,
      rw same (payloads, payload, [], refl, carries, before),
    )

-- the first metadata stays the first
pub first_still : (digest : List ℕ → List ℕ) (id : List ℕ) (payloads : List (List ℕ)) (payload : List ℕ) (m : BlobMetadata) → IsFirstMetadata digest id payloads m
    → IsFirstMetadata digest id (payloads ++ payload ∷ []) m
first_still digest id payloads payload m first =
    let seam = append_assoc first.0 (first.1 ∷ first.2) (payload ∷ []) in
    (first.0, first.1, first.2 ++ payload ∷ [], cc (first.3, seam), first.4, first.5)

-- what is held where one more payload has no other metadata
pub known_still : (digest : List ℕ → List ℕ) (id : List ℕ) (old new : Known) (payloads : List (List ℕ)) (payload : List ℕ) (m : BlobMetadata) → m ≡ old.metadata
    → new.metadata ≡ old.metadata → ((other : BlobMetadata) → CarriesMetadata digest id other payload → other ≡ m)
    → (HasParts digest id old payloads → HasParts digest id new (payloads ++ payload ∷ [])) → HasKnown digest id old payloads
    → HasKnown digest id new (payloads ++ payload ∷ [])
known_still digest id old new payloads payload m is same only takes was = (
  rw same (one_still digest id payloads payload old.metadata was.0 (λ other carries. only other carries ∙ is)),
  takes was.1,
  rw same (first_still digest id payloads payload old.metadata was.2),
)

-- one more payload with the first other metadata
pub two_new : (digest : List ℕ → List ℕ) (id : List ℕ) (payloads : List (List ℕ)) (payload : List ℕ) (m other : BlobMetadata) → IsMetadataIn digest id payloads m
    → IsFirstMetadata digest id payloads m → CarriesMetadata digest id other payload → other ≢ m → AreFirstTwo digest id (payloads ++ payload ∷ []) m other
two_new digest id payloads payload m other one first carries apart =
    (first_still digest id payloads payload m first, (payloads, payload, [], refl, carries, apart, one.1))

-- two metadata that differ stay
pub two_still : (digest : List ℕ → List ℕ) (id : List ℕ) (clash : MetaClash) (payloads : List (List ℕ)) (payload : List ℕ) → HasKept digest id (Two clash) payloads
    → HasKept digest id (Two clash) (payloads ++ payload ∷ [])
two_still digest id clash payloads payload was =
    let other = was.2.1 in
    let seam = append_assoc other.0 (other.1 ∷ other.2) (payload ∷ []) in
    let still : IsFirstOther digest id (payloads ++ payload ∷ []) was.0 was.1 =
    (other.0, other.1, other.2 ++ payload ∷ [], cc (other.3, seam), other.4, other.5, other.6) in
    (was.0, was.1, (first_still digest id payloads payload was.0 was.2.0, still), was.3, was.4)

-- nothing is kept of no payloads
pub kept_none : (digest : List ℕ → List ℕ) (id : List ℕ) (items : List (List ℕ)) → items ≡ [] → ((m : BlobMetadata) → HasMetadata digest id [] m → ⊥) × Sifts id items []
kept_none digest id items empty = (λ m has. absurd (omega (arith, has.2)), rw empty none)
