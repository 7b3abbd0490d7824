-- What a recovery keeps is sound.
use Rattle.wal_shard.proofs.Common.{◌≡◌, ℕ, cond, is_some, Option, Some, None, List, Result, Ok, Err, refl, sym, ap, ◌∙◌, subst, OnOk, OnErr, BlobId, Axis, BlobMetadata, IsMetadata, held_index, metadata_text, proof_text, EncodingProof, IsProof, Part, with_part, Contents, parts_at, part_at, with_bytes, Commits, HoldsSliver, IsBadProof, sliver_part, HoldsMetadata, IsSound, kept, AreSound}
use Rattle.wal_shape.specs.declared.part.Part.TheVariants as parts
use Rattle.wal_shard.proofs.Changes.{insert_changes, changed_there}
use Rattle.wal_shard.proofs.Soundness.{put_sound, metadata_sound, sliver_sound, proof_sound}

module _ (digest : List ℕ → List ℕ) (f shard : ℕ) where
  kept_by : (c : Contents) (id : BlobId) (part : Part) (bytes : List ℕ) (o : Option (List ℕ)) → AreSound digest f shard c
      → (o ≡ None → IsSound digest f id.0 shard (with_part (parts_at c id) part (Some bytes)))
      → AreSound digest f shard (cond (is_some o) c (with_bytes c id part bytes))
  kept_by c id part bytes None s new = put_sound digest f shard c id part bytes s (new refl)
  kept_by c id part bytes (Some x) s new = s

  -- whether a part that was not held was stored or not
  pub after_keep : {E : Type 0} (c n : Contents) (id : BlobId) (part : Part) (bytes : List ℕ) (r : Result (Unit {0}) E) → part_at c id part ≡ None → OnOk r (n ≡ with_bytes c id part bytes)
      → OnErr r (n ≡ c) → AreSound digest f shard c → AreSound digest f shard (kept c id part bytes) → AreSound digest f shard n
  after_keep c n id part bytes (Ok done) none stored refused s new =
      let all : kept c id part bytes ≡ with_bytes c id part bytes = ap (λ (o : Option (List ℕ)). cond (is_some o) c (with_bytes c id part bytes)) none in
      subst (AreSound digest f shard) (all ∙ sym stored) new
  after_keep c n id part bytes (Err why) none stored refused s new = subst (AreSound digest f shard) (sym refused) s

  pub kept_metadata_sound : (c : Contents) (id : BlobId) (m : BlobMetadata) → Commits digest id.0 m → m.f ≡ f → AreSound digest f shard c
      → AreSound digest f shard (kept c id parts.Metadata (metadata_text m))
  kept_metadata_sound c id m commits faults s =
      kept_by c id parts.Metadata (metadata_text m) (part_at c id parts.Metadata) s (λ none. metadata_sound digest f shard id.0 (parts_at c id) m commits faults none (s id))

  pub kept_sliver_sound : (c : Contents) (id : BlobId) (m : BlobMetadata) (axis : Axis) (bytes : List ℕ) → HoldsMetadata (parts_at c id) m
      → HoldsSliver digest m axis (held_index m.format m.f axis shard) bytes → AreSound digest f shard c → AreSound digest f shard (kept c id (sliver_part axis) bytes)
  kept_sliver_sound c id m axis bytes has holds s =
      kept_by c id (sliver_part axis) bytes (part_at c id (sliver_part axis)) s (λ none. sliver_sound digest f shard id.0 axis (parts_at c id) m bytes has holds (s id))

  pub kept_proof_sound : (c : Contents) (id : BlobId) (m : BlobMetadata) (q : EncodingProof) → HoldsMetadata (parts_at c id) m
      → IsBadProof digest m q → IsProof q → AreSound digest f shard c → AreSound digest f shard (kept c id parts.Proof (proof_text q))
  kept_proof_sound c id m q has bad fit s =
      kept_by c id parts.Proof (proof_text q) (part_at c id parts.Proof) s (λ none. proof_sound digest f shard id.0 (parts_at c id) m q has bad fit (s id))

kept_held_by : (c : Contents) (id : BlobId) (m : BlobMetadata) (o : Option (List ℕ)) → part_at c id parts.Metadata ≡ o → IsMetadata m
    → ((other : List ℕ) → o ≡ Some other → other ≡ metadata_text m)
    → HoldsMetadata (parts_at (cond (is_some o) c (with_bytes c id parts.Metadata (metadata_text m))) id) m
kept_held_by c id m None e fit same =
    let put = insert_changes c id (with_part (parts_at c id) parts.Metadata (Some (metadata_text m))) in
    record { fit = fit; spelled = ap (λ p. p.metadata) (changed_there c _ id _ put) }
kept_held_by c id m (Some x) e fit same =
    record { fit = fit; spelled = e ∙ ap (λ (t : List ℕ). Some t) (same x refl) }

-- the metadata that is kept is held
pub kept_held : (c : Contents) (id : BlobId) (m : BlobMetadata) → IsMetadata m → ((other : List ℕ) → part_at c id parts.Metadata ≡ Some other → other ≡ metadata_text m)
    → HoldsMetadata (parts_at (kept c id parts.Metadata (metadata_text m)) id) m
kept_held c id m fit same = kept_held_by c id m (part_at c id parts.Metadata) refl fit same
