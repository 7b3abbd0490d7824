-- One metadata is known, or two differ, by what payloads carry and a shard holds.
use Rattle.wal_theorem.proofs.Common.{⊎_elim, ◌≡◌, ◌≢◌, ℕ, List, None, sym, ap, ◌∙◌, BlobId, BlobMetadata, HasMetadata, IsMetadataIn, Parts, HoldsMetadata, Knows, IsKnown, one_held}

module _ (digest : List ℕ → List ℕ) (id : BlobId) (parts : Parts) (payloads : List (List ℕ)) where
  -- all that are known are m
  abbrev pub AllKnown : BlobMetadata → Type 0
  AllKnown m = (other : BlobMetadata) → Knows digest id parts payloads other → other ≡ m

  -- where the payloads carry it alone, and nothing is held, or it is held too
  pub known_alone : (m : BlobMetadata) → IsMetadataIn digest id.0 payloads m → parts.metadata ≡ None → AllKnown m
  known_alone m is none other known = ⊎_elim (is.1 other) (λ holds. cc (none, holds.spelled)) known

  pub known_beside : (m : BlobMetadata) → IsMetadataIn digest id.0 payloads m → HoldsMetadata parts m → AllKnown m
  known_beside m is holds other known = ⊎_elim (is.1 other) (λ held. one_held parts other m held holds) known

  -- where it is held, and the payloads carry none
  pub held_alone : (m : BlobMetadata) → ((other : BlobMetadata) → HasMetadata digest id.0 payloads other → ⊥) → HoldsMetadata parts m → AllKnown m
  held_alone m none holds other known = ⊎_elim (λ found. absurd (none other found)) (λ held. one_held parts other m held holds) known

  pub is_known : (f : ℕ) (m : BlobMetadata) → Knows digest id parts payloads m → AllKnown m → m.f ≡ f → IsKnown digest f id parts payloads m
  is_known f m knows all faults = record { known = knows; only = all; faults = faults }

  -- and where its f is another one, none is that has this f
  pub is_unfit : (f : ℕ) (m : BlobMetadata) → AllKnown m → m.f ≢ f → (other : BlobMetadata) → Knows digest id parts payloads other → other.f ≢ f
  is_unfit f m all unfit other knows faults = unfit (sym (ap (λ (x : BlobMetadata). x.f) (all other knows)) ∙ faults)

  -- nothing is known
  pub none_known : ((m : BlobMetadata) → HasMetadata digest id.0 payloads m → ⊥) → parts.metadata ≡ None → (m : BlobMetadata) → Knows digest id parts payloads m → ⊥
  none_known none empty m known = ⊎_elim (none m) (λ holds. absurd (cc (empty, holds.spelled))) known
