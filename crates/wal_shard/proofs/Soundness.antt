-- What is held stays sound.
use Rattle.wal_shard.proofs.Common.{cond_both, ◌≡◌, ℕ, Option, Some, None, List, Result, Ok, Err, refl, sym, ap, ◌∙◌, subst, unwrap_or, arith, OnOk, OnErr, eq_by_cmp, get-empty, BlobId, Axis, Primary, Secondary, id_cmp, BlobMetadata, held_index, metadata_text, proof_text, EncodingProof, IsProof, metadata_text-injective, Part, Parts, no_parts, part_of, with_part, Contents, parts_at, with_bytes, without_part, Commits, HoldsSliver, IsBadProof, Log, is_live, sliver_part, HoldsMetadata, IsSound, without_slivers, without_dead, AreSound}
use Rattle.std.specs.FinMap as map
use Rattle.wal_shape.specs.declared.part.Part.TheVariants as parts
use Rattle.wal_shard.proofs.Changes.{ChangesAt, same_id, insert_changes, with_parts_changes, retained}

-- one metadata is held
pub one_metadata : (p : Parts) (m n : BlobMetadata) → HoldsMetadata p m → HoldsMetadata p n → m ≡ n
one_metadata p m n a b = metadata_text-injective m n a.fit b.fit (cc (a.spelled, b.spelled))

-- where neither sliver is held, none of an axis is, beside any metadata
no_sliver : (axis : Axis) (p : Parts) (o : Option (List ℕ)) (bytes : List ℕ) → p.primary ≡ None → p.secondary ≡ None
    → part_of (with_part p parts.Metadata o) (sliver_part axis) ≡ Some bytes → ⊥
no_sliver axis p o bytes a b e = grind arith

-- the slivers beside another proof are the same
same_proof_slivers : (axis : Axis) (p : Parts) (o : Option (List ℕ)) → part_of (with_part p parts.Proof o) (sliver_part axis) ≡ part_of p (sliver_part axis)
same_proof_slivers axis p o = grind arith

module _ (digest : List ℕ → List ℕ) (f : ℕ) (shard : ℕ) where
  -- nothing is sound
  pub none_sound : (id : List ℕ) → IsSound digest f id shard no_parts
  none_sound id = record {
    metadata = λ bytes e. absurd cc;
    alone = λ e. (refl, refl, refl);
    slivers = λ axis m bytes h e. absurd (cc h.spelled);
    proof = λ m bytes h e. absurd cc;
  }

  pub metadata_sound : (id : List ℕ) (p : Parts) (m : BlobMetadata) → Commits digest id m → m.f ≡ f → p.metadata ≡ None → IsSound digest f id shard p
      → IsSound digest f id shard (with_part p parts.Metadata (Some (metadata_text m)))
  metadata_sound id p m commits faults none s =
      let empty = s.alone none in
      record {
        metadata = λ bytes e. (m, record { fit = commits.fit; spelled = refl }, commits, faults);
        alone = λ e. absurd cc;
        slivers = λ axis n bytes h e. absurd (no_sliver axis p (Some (metadata_text m)) bytes empty.0 empty.1 e);
        proof = λ n bytes h e. absurd (cc (empty.2, e));
      }

  -- the metadata of a holding with another sliver is the same
  before : (axis : Axis) (p : Parts) (o : Option (List ℕ)) (m : BlobMetadata) → HoldsMetadata (with_part p (sliver_part axis) o) m → HoldsMetadata p m
  before Primary p o m h = record { fit = h.fit; spelled = h.spelled }
  before Secondary p o m h = record { fit = h.fit; spelled = h.spelled }

  -- with another sliver of an axis, or none
  part_sound : (id : List ℕ) (axis : Axis) (p : Parts) (o : Option (List ℕ)) → (p.metadata ≡ None → o ≡ None)
      → ((m : BlobMetadata) (bytes : List ℕ) → HoldsMetadata p m → o ≡ Some bytes
      → HoldsSliver digest m axis (held_index m.format m.f axis shard) bytes)
      → IsSound digest f id shard p → IsSound digest f id shard (with_part p (sliver_part axis) o)
  part_sound id Primary p o alone fits s = record {
    metadata = λ text e. let had = s.metadata text e in (had.0, record { fit = had.1.fit; spelled = had.1.spelled }, had.2, had.3);
    alone = λ e. (alone e, (s.alone e).1, (s.alone e).2);
    slivers = elim [
      | Primary ↦ λ n text h e. fits n text (before Primary p o n h) e
      | Secondary ↦ λ n text h e. s.slivers Secondary n text (before Primary p o n h) e
    ];
    proof = λ n text h e. s.proof n text (before Primary p o n h) e;
  }
  part_sound id Secondary p o alone fits s = record {
    metadata = λ text e. let had = s.metadata text e in (had.0, record { fit = had.1.fit; spelled = had.1.spelled }, had.2, had.3);
    alone = λ e. ((s.alone e).0, alone e, (s.alone e).2);
    slivers = elim [
      | Primary ↦ λ n text h e. s.slivers Primary n text (before Secondary p o n h) e
      | Secondary ↦ λ n text h e. fits n text (before Secondary p o n h) e
    ];
    proof = λ n text h e. s.proof n text (before Secondary p o n h) e;
  }

  pub sliver_sound : (id : List ℕ) (axis : Axis) (p : Parts) (m : BlobMetadata) (bytes : List ℕ) → HoldsMetadata p m
      → HoldsSliver digest m axis (held_index m.format m.f axis shard) bytes → IsSound digest f id shard p
      → IsSound digest f id shard (with_part p (sliver_part axis) (Some bytes))
  sliver_sound id axis p m bytes held holds s =
      part_sound id axis p (Some bytes) (λ none. absurd (cc (none, held.spelled))) (λ n text h e.
      let same : bytes ≡ text = cc in
      rw (← one_metadata p m n held h, ← same) holds) s

  -- without a sliver
  pub without_sliver_sound : (id : List ℕ) (axis : Axis) (p : Parts) → IsSound digest f id shard p → IsSound digest f id shard (with_part p (sliver_part axis) None)
  without_sliver_sound id axis p s = part_sound id axis p None (λ none. refl) (λ n text h e. absurd cc) s

  pub proof_sound : (id : List ℕ) (p : Parts) (m : BlobMetadata) (q : EncodingProof) → HoldsMetadata p m → IsBadProof digest m q → IsProof q
      → IsSound digest f id shard p → IsSound digest f id shard (with_part p parts.Proof (Some (proof_text q)))
  proof_sound id p m q held bad fit s = record {
    metadata = λ text e. let had = s.metadata text e in (had.0, record { fit = had.1.fit; spelled = had.1.spelled }, had.2, had.3);
    alone = λ e. absurd (cc (e, held.spelled));
    slivers = λ axis n text h e. s.slivers axis n text (record { fit = h.fit; spelled = h.spelled }) (sym (same_proof_slivers axis p (Some (proof_text q))) ∙ e);
    proof = λ n text h e. (q, fit, cc, rw (← one_metadata p m n held (record { fit = h.fit; spelled = h.spelled })) bad);
  }

  -- contents that changed under one identifier
  pub changed_sound : (c n : Contents) (id : BlobId) (p : Parts) → ChangesAt c id p n → AreSound digest f shard c → IsSound digest f id.0 shard p → AreSound digest f shard n
  changed_sound c n id p h s new q =
      subst (IsSound digest f q.0 shard) (sym (h.at q))
      (cond_both (eq_by_cmp id_cmp q id) p (parts_at c q) (IsSound digest f q.0 shard) (λ e. rw (same_id q id e) new) (λ other. s q))

  -- contents stay sound if the parts of the identifier to which bytes are put do
  pub put_sound : (c : Contents) (id : BlobId) (part : Part) (bytes : List ℕ) → AreSound digest f shard c
      → IsSound digest f id.0 shard (with_part (parts_at c id) part (Some bytes)) → AreSound digest f shard (with_bytes c id part bytes)
  put_sound c id part bytes s new =
      changed_sound c (with_bytes c id part bytes) id (with_part (parts_at c id) part (Some bytes)) (insert_changes c id (with_part (parts_at c id) part (Some bytes))) s new

  -- whether a part was stored or not
  pub after_put : {E : Type 0} (c n : Contents) (id : BlobId) (part : Part) (bytes : List ℕ) (r : Result (Unit {0}) E) → OnOk r (n ≡ with_bytes c id part bytes) → OnErr r (n ≡ c)
      → AreSound digest f shard c → IsSound digest f id.0 shard (with_part (parts_at c id) part (Some bytes)) → AreSound digest f shard n
  after_put c n id part bytes (Ok done) stored refused s new = rw stored (put_sound c id part bytes s new)
  after_put c n id part bytes (Err why) stored refused s new = rw refused s

  without_one_sound : (c : Contents) (id : BlobId) (axis : Axis) → AreSound digest f shard c → AreSound digest f shard (without_part c id (sliver_part axis))
  without_one_sound c id axis s =
      let p = with_part (parts_at c id) (sliver_part axis) None in
      changed_sound c (without_part c id (sliver_part axis)) id p (with_parts_changes c id p) s (without_sliver_sound id.0 axis (parts_at c id) (s id))

  pub without_slivers_sound : (c : Contents) (id : BlobId) → AreSound digest f shard c → AreSound digest f shard (without_slivers c id)
  without_slivers_sound c id s = without_one_sound (without_part c id parts.Primary) id Secondary (without_one_sound c id Primary s)

  pub without_dead_sound : (log : Log) (c : Contents) → AreSound digest f shard c → AreSound digest f shard (without_dead log c)
  without_dead_sound log c s q =
      subst (IsSound digest f q.0 shard) (sym (retained c (is_live log) q))
      (cond_both (is_live log q) (parts_at c q) no_parts (IsSound digest f q.0 shard) (λ live. s q) (λ dead. none_sound q.0))

  -- contents with nothing in them are sound
  pub empty_sound : AreSound digest f shard map.empty
  empty_sound q = subst (IsSound digest f q.0 shard) (sym (ap (λ o. unwrap_or o no_parts) (get-empty id_cmp q))) (none_sound q.0)
