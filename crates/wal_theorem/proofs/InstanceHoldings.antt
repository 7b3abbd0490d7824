-- What a shard holds stays sound and only grows when a part is added.
use Rattle.wal_theorem.proofs.Common.{inl, inr, refl, ◌≡◌, ◌⊎◌, ℕ, List, true, Option, Some, None, ap, ◌∙◌, BlobId, BlobMetadata, Part, Parts, part_of, with_part, Contents, parts_at, part_at, with_bytes, HoldsMetadata, IsSound, has_proof, kept, IsAbove, AreAbove, HoldsBadProof, arith, one_held, own_metadata, some_of, IsOwnMetadata}
use Rattle.wal_shard.proofs.Changes.{insert_changes, same_id}

-- there is nothing, or something
pub none_or_some : (o : Option (List ℕ)) → (o ≡ None) ⊎ ((x : List ℕ) × (o ≡ Some x))
none_or_some None = inl refl
none_or_some (Some x) = inr (x, refl)

-- ---- one part more

-- a part that was held is held still
pub more_above : (p : Parts) (part : Part) (bytes : List ℕ) → part_of p part ≡ None → IsAbove p (with_part p part (Some bytes))
more_above p part bytes none other x at = grind arith

-- what holds under each identifier, and of the part with what was there, holds then
pub each_put : (P : BlobId → Parts → Type 0) (m : Contents) (id : BlobId) (part : Part) (bytes : List ℕ) → ((q : BlobId) → P q (parts_at m q))
    → P id (with_part (parts_at m id) part (Some bytes)) → (q : BlobId) → P q (parts_at (with_bytes m id part bytes) q)
each_put P m id part bytes was here q =
    grind (arith, (insert_changes m id (with_part (parts_at m id) part (Some bytes))).at q, same_id q id, was q)

-- a put of a part that was not held only adds
pub above_put : (m : Contents) (id : BlobId) (part : Part) (bytes : List ℕ) → part_at m id part ≡ None → AreAbove m (with_bytes m id part bytes)
above_put m id part bytes none =
    each_put (λ q p. IsAbove (parts_at m q) p) m id part bytes (λ q p x at. at) (more_above (parts_at m id) part bytes none)

-- what is kept where the part isn't held
pub kept_holds : (P : Contents → Type 0) (m : Contents) (id : BlobId) (part : Part) (bytes : List ℕ) → P m
    → (part_at m id part ≡ None → P (with_bytes m id part bytes)) → P (kept m id part bytes)
kept_holds P m id part bytes stays more = grind arith

pub above_kept : (m : Contents) (id : BlobId) (part : Part) (bytes : List ℕ) → AreAbove m (kept m id part bytes)
above_kept m id part bytes = kept_holds (AreAbove m) m id part bytes (λ q p x at. at) (above_put m id part bytes)

-- what is above b is above all that b is above
pub above_both : (a b c : Contents) → AreAbove a b → AreAbove b c → AreAbove a c
above_both a b c first second id part bytes at = second id part bytes (first id part bytes at)

-- ---- soundness

-- the metadata that is held is the identifier's
pub held_own : (digest : List ℕ → List ℕ) (f : ℕ) (id : List ℕ) (shard : ℕ) (p : Parts) → IsSound digest f id shard p → (m : BlobMetadata) → HoldsMetadata p m → IsOwnMetadata digest f id p m
held_own digest f id shard p was m holds =
    let own = own_metadata digest f shard id p was (rw holds.spelled) in
    rw (one_held p own.0 m own.1.held holds) at own.1

-- a proof that is held is bad for the metadata that is held
pub refuted : (digest : List ℕ → List ℕ) (f : ℕ) (id : BlobId) (shard : ℕ) (p : Parts) → IsSound digest f id.0 shard p → has_proof p ≡ true → HoldsBadProof digest id p
refuted digest f id shard p was has =
    let own = own_metadata digest f shard id.0 p was (grind arith) in
    let q = was.proof own.0 _ own.1.held (some_of p.proof (grind arith)) in
    (own.0, record { held = own.1.held; committed = own.1.commits }, q.0, some_of p.proof (grind arith) ∙ ap Some q.2, q.3)
