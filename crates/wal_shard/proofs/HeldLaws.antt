-- What sound holdings hold: the metadata, and how long each part is.
use Rattle.wal_shard.proofs.Common.{◌≡◌, ◌↔◌, ℕ, ◌+◌, ◌*◌, ◌≤◌, Bool, Option, Some, IsTrue, IsSome, List, [], length, sym, ap, ◌∙◌, subst, unwrap_or, arith, Axis, shard_count, column_count, symbol_size, most_bytes, BlobMetadata, IsMetadata, held_index, metadata_text, proof_text, text_size, EncodingProof, IsProof, proof_shown, length-metadata_text, text_size-least, text_size-most, Parts, part_of, with_part, HoldsSliver, IsBadProof, Sliver, Proof, sliver_part, HoldsMetadata, IsSound, Verifies, IsOwnMetadata}
use Rattle.wal_shape.specs.declared.proof.ProofRef.{ProofRef}
use Rattle.wal_shape.proofs.ProofLaws.{proof_text-injective, IsProof-spelled}
use Rattle.wal_shape.specs.declared.part.Part.TheVariants as parts
use Rattle.wal_shard.proofs.Sizes.{bad_proof_most, sliver_most, sliver_short}
use Rattle.wal_shard.proofs.Soundness.{one_metadata, sliver_sound, proof_sound}

-- an option that is some bytes is Some of them
pub some_of : (o : Option (List ℕ)) → IsSome o → o ≡ Some (unwrap_or o [])
some_of o h = grind arith

module _ (digest : List ℕ → List ℕ) (f : ℕ) (shard : ℕ) (id : List ℕ) (p : Parts) where
  -- the metadata that is held is the identifier's
  pub own_metadata : IsSound digest f id shard p → IsSome p.metadata → (m : BlobMetadata) × IsOwnMetadata digest f id p m
  own_metadata s some =
      let had = s.metadata (unwrap_or p.metadata []) (some_of p.metadata some) in
      (had.0, record { held = had.1; commits = had.2; faults = had.3 })

  -- metadata with the bytes that are held
  pub read_own : (m : BlobMetadata) (bytes : List ℕ) → IsSound digest f id shard p → IsSome p.metadata → bytes ≡ unwrap_or p.metadata [] → IsMetadata m → metadata_text m ≡ bytes
      → IsOwnMetadata digest f id p m
  read_own m bytes s some same fit text =
      let own = own_metadata s some in
      let held : HoldsMetadata p m = record { fit = fit; spelled = cc (some_of p.metadata some, same, text) } in
      subst (IsOwnMetadata digest f id p) (one_metadata p own.0 m own.1.held held) own.1

  own_size : (m : BlobMetadata) → IsOwnMetadata digest f id p m → length (unwrap_or p.metadata []) ≡ text_size m.format m.f
  own_size m own = ap (λ (o : Option (List ℕ)). length (unwrap_or o [])) own.held.spelled ∙ length-metadata_text m own.held.fit

  -- metadata that is held has 10 to 64011 bytes
  pub metadata_between : IsSound digest f id shard p → IsSome p.metadata → (10 ≤ length (unwrap_or p.metadata [])) × (length (unwrap_or p.metadata []) ≤ 64011)
  metadata_between s some =
      let own = own_metadata s some in
      omega (arith, own_size own.0 own.1, text_size-least own.0.format own.0.f, text_size-most own.0.format own.0.f, own.1.held.fit.shape.1)

  pub metadata_fits : IsSound digest f id shard p → IsSome p.metadata → length (unwrap_or p.metadata []) ≤ 11 + 64 * shard_count f
  metadata_fits s some =
      let own = own_metadata s some in
      omega (arith, own_size own.0 own.1, text_size-most own.0.format own.0.f, own.1.faults)

  -- a sliver verifies
  pub sliver_verified : (m : BlobMetadata) (axis : Axis) (index : ℕ) (bytes : List ℕ) (r : Bool) → IsOwnMetadata digest f id p m
      → index ≡ held_index m.format m.f axis shard → IsTrue r ↔ HoldsSliver digest m axis index bytes
      → IsTrue r ↔ Verifies digest f shard p (Sliver id axis index bytes)
  sliver_verified m axis index bytes r own at holds = (
    (λ t. (m, own.held, at, holds.0 t)),
    (λ v. holds.1 (subst (λ x. HoldsSliver digest x axis index bytes) (one_metadata p v.0 m v.1 own.held) v.3)),
  )

  pub sliver_misplaced : (m : BlobMetadata) (axis : Axis) (index : ℕ) (bytes : List ℕ) → IsOwnMetadata digest f id p m
      → (index ≡ held_index m.format m.f axis shard → ⊥) → Verifies digest f shard p (Sliver id axis index bytes) → ⊥
  sliver_misplaced m axis index bytes own not v =
      not (subst (λ x. index ≡ held_index x.format x.f axis shard) (one_metadata p v.0 m v.1 own.held) v.2)

  -- one that is held does
  pub held_verifies : (m : BlobMetadata) (axis : Axis) (index : ℕ) (bytes : List ℕ) → IsSound digest f id shard p → IsOwnMetadata digest f id p m
      → index ≡ held_index m.format m.f axis shard → part_of p (sliver_part axis) ≡ Some bytes → Verifies digest f shard p (Sliver id axis index bytes)
  held_verifies m axis index bytes s own at e =
      (m, own.held, at, subst (λ i. HoldsSliver digest m axis i bytes) (sym at) (s.slivers axis m bytes own.held e))

  pub held_proof_verifies : (m : BlobMetadata) (q : EncodingProof) → IsSound digest f id shard p → IsOwnMetadata digest f id p m → IsProof q
      → p.proof ≡ Some (proof_text q) → Verifies digest f shard p (Proof id q)
  held_proof_verifies m q s own fit e =
      let has = s.proof m (proof_text q) own.held e in
      (m, own.held, subst (IsBadProof digest m) (sym (proof_text-injective q has.0 fit has.1 has.2)) has.3)

  pub proof_verified : (m : BlobMetadata) (q : EncodingProof) (r : Bool) → IsOwnMetadata digest f id p m → IsTrue r ↔ IsBadProof digest m q
      → IsTrue r ↔ Verifies digest f shard p (Proof id q)
  proof_verified m q r own bad =
      ((λ t. (m, own.held, bad.0 t)), (λ v. bad.1 (subst (λ x. IsBadProof digest x q) (one_metadata p v.0 m v.1 own.held) v.2)))

  pub verified_short : (axis : Axis) (index : ℕ) (bytes : List ℕ) → Verifies digest f shard p (Sliver id axis index bytes) → length bytes ≤ most_bytes
  verified_short axis index bytes v = sliver_short digest v.0 axis index bytes v.1.fit v.3

  -- with a sliver that verifies the parts are sound again
  pub sliver_then : (axis : Axis) (index : ℕ) (bytes : List ℕ) → Verifies digest f shard p (Sliver id axis index bytes) → IsSound digest f id shard p
      → IsSound digest f id shard (with_part p (sliver_part axis) (Some bytes))
  sliver_then axis index bytes v s =
      sliver_sound digest f shard id axis p v.0 bytes v.1 (subst (λ i. HoldsSliver digest v.0 axis i bytes) v.2 v.3) s

  -- with a proof that verifies the parts are sound again
  pub proof_then : (q : EncodingProof) → Verifies digest f shard p (Proof id q) → IsProof q → IsSound digest f id shard p
      → IsSound digest f id shard (with_part p parts.Proof (Some (proof_text q)))
  proof_then q v fit s = proof_sound digest f shard id p v.0 q v.1 v.2 fit s

  -- beside a part metadata is held
  pub beside : (axis : Axis) → IsSound digest f id shard p → IsSome (part_of p (sliver_part axis)) → IsSome p.metadata
  beside axis s some = grind (arith, s.alone)

  -- beside a proof metadata is held
  pub beside_proof : IsSound digest f id shard p → IsSome p.proof → IsSome p.metadata
  beside_proof s some = grind (arith, s.alone)

  pub sliver_fits : (axis : Axis) → IsSound digest f id shard p → IsSome (part_of p (sliver_part axis)) → length (unwrap_or (part_of p (sliver_part axis)) []) ≤ column_count f * symbol_size f most_bytes
  sliver_fits axis s some =
      let own = own_metadata s (beside axis s some) in
      let holds = s.slivers axis own.0 _ own.1.held (some_of (part_of p (sliver_part axis)) some) in
      rw (← own.1.faults) (sliver_most digest own.0 axis _ _ own.1.held.fit holds)

  pub proof_fits : IsSound digest f id shard p → IsSome p.proof → length (unwrap_or p.proof []) ≤ 5 + column_count f * (symbol_size f most_bytes + 327)
  proof_fits s some =
      let own = own_metadata s (beside_proof s some) in
      let has = s.proof own.0 (unwrap_or p.proof []) own.1.held (some_of p.proof some) in
      rw (← own.1.faults, has.2) (bad_proof_most digest own.0 has.0 own.1.held.fit has.3 has.1)

-- what is lent as a proof has a spelling
pub proof_fit : (p : ProofRef) → IsProof (proof_shown p)
unfolding proof_shown
proof_fit p = IsProof-spelled p.head p.bytes.now p.whole
