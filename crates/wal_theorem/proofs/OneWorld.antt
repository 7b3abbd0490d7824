-- The rules of the world leave no choice but the texts of a collision: so its steps and runs leave none.
use Rattle.wal_theorem.proofs.Common.{silent, replies, ◌≡◌, ◌≢◌, ◌⊎◌, ℕ, List, [], ◌∷◌, ◌++◌, length, Option, None, refl, sym, ap, ◌∙◌, arith, ⊎_elim, inl, inr, true≢false, BlobId, Axis, Format, MetaClash, IsShape, sliver_symbols, BlobMetadata, held_index, EncodingProof, extended_unique, metadata_over, one_opening, one_recovery, Frame, frame_text, ReadWord, RecoverWord, Evidence, openings_in, IsFirstBadProof, NoBadProof, SameOutcome, HasTwo, Outcome, first_not_none, only_collision, CarriesBadProof, Parts, Contents, parts_at, OpeningReply, given, not_held, no_shard, SymbolReplies, metadata_reply, proof_reply, kept_sliver, kept_proof, desk_of, IsMessageOf, SymbolReply, outcome_told, ReadsTo, Knows, IsKnown, OwnOpeningsComeTo, RecoversTo, rules_of, Inconsistent, Short, Sliver, OpeningFrame, Bytes, NoMetadata, Proof, Collision, one_held}
use Rattle.wal_recover.specs.declared.outcome.Recovered.{Recovered}
use Rattle.wal_shard.proofs.OnePut.{puts_once}
use Rattle.wal_theorem.proofs.OneReading.{metadata_fits, one_bad_proof, only_outcome, outcome_evidence}
use Rattle.wal_protocol.proofs.OneWord.{Only, SamePut}

-- ---- honest messages

abbrev id_of : List ℕ → BlobId
id_of bytes = record { 0 = bytes }

one_message : (digest : List ℕ → List ℕ) (f : ℕ) (format : Format) (blob : List ℕ) (i j : BlobId) (a b : ℕ → List Frame) → IsMessageOf digest f format blob i a
    → IsMessageOf digest f format blob j b → (i ≡ j) × (a ≡ b)
one_message digest f format blob i j a b p q =
    let d = p.is_metadata in
    let e = q.is_metadata in
    let matrix = extended_unique f blob d.0 e.0 d.3.1 d.1 e.1 in
    let same : p.metadata ≡ q.metadata =
    d.2 ∙ ap (λ (x : List ℕ). metadata_over digest (record { format = format; f = f; length = length blob }) x) matrix ∙ sym e.2 in
    let ids : i.0 ≡ j.0 = cc (p.identifier, same, q.identifier) in
    (ap id_of ids, cc (p.frames, same, ids, matrix, q.frames))

-- ---- replies to a shard that recovers

module _ (digest : List ℕ → List ℕ) (id : List ℕ) (helper : ℕ) (p : Parts) (axis : Axis) where
  abbrev opening_payload : ℕ → ℕ → List ℕ → List ℕ → List (List ℕ)
  opening_payload index cross symbol path = frame_text (OpeningFrame id axis index (record { cross = cross; symbol = symbol; path = path })) ∷ []

  one_opening_reply : (index : ℕ) (a b : List (List ℕ)) → OpeningReply digest id helper p axis index a → OpeningReply digest id helper p axis index b → a ≡ b
  one_opening_reply index a b (given m sliver o has at within cross is) (given n other q has_n at_n within_n cross_n is_n) =
      let same = one_held p m n has has_n in
      let bytes : sliver ≡ other = cc in
      let one = one_opening digest n axis index other o q has_n.fit.shape.1 (rw (same, bytes) at is) is_n in
      let crosses : o.cross ≡ q.cross = rw same at cross ∙ sym cross_n in
      let payload = opening_payload index in
      let same_payload : payload o.cross o.symbol o.path ≡ payload q.cross q.symbol q.path = rw (crosses, one.0, one.1) in
      same_payload
  one_opening_reply index a b (given m sliver o has at within cross is) (not_held none) = absurd cc
  one_opening_reply index a b (given m sliver o has at within cross is) (no_shard n has_n outside) =
      absurd (outside (rw (one_held p n m has_n has) within))
  one_opening_reply index a b (not_held none) (given n other q has_n at_n within_n cross_n is_n) = absurd cc
  one_opening_reply index a b (no_shard m has outside) (given n other q has_n at_n within_n cross_n is_n) =
      absurd (outside (rw (one_held p m n has has_n) within_n))
  one_opening_reply index a b s t = refl

  one_symbols : (index : ℕ) (a b : List (List ℕ)) → SymbolReplies digest id helper p axis index a → SymbolReplies digest id helper p axis index b → a ≡ b
  one_symbols index a b s t =
      s.2 ∙ ap (λ (x : List (List ℕ)). metadata_reply p ++ (x ++ proof_reply id p)) (one_opening_reply index s.0 t.0 s.1 t.1) ∙ sym t.2

one_symbol_reply : (digest : List ℕ → List ℕ) (id : BlobId) (helper : ℕ) (p : Parts) (axis : Axis) (shard : ℕ) (a b : List (List ℕ)) → SymbolReply digest id helper p axis shard a
    → SymbolReply digest id helper p axis shard b → a ≡ b
one_symbol_reply digest id helper p axis shard a b (replies m x has s) (replies n y has_n t) =
    one_symbols digest id.0 helper p axis (held_index n.format n.f axis shard) a b
    (rw (one_held p m n has has_n) at s) t
one_symbol_reply digest id helper p axis shard a b (silent none) (replies n y has t) = absurd (cc (none, has.spelled))
one_symbol_reply digest id helper p axis shard a b (replies m x has s) (silent nothing) = absurd (cc (nothing, has.spelled))
one_symbol_reply digest id helper p axis shard a b s t = refl

-- ---- reads

-- a word is that of its outcome
told_once : (w v : ReadWord) → outcome_told w ≡ outcome_told v → w ≡ v
told_once w v same = grind arith

outcome_same : (w : ReadWord) (o : Outcome) → SameOutcome (outcome_told w) o → outcome_told w ≡ o
outcome_same (Bytes bytes) o same = same
outcome_same w o same = same

no_collision : (w : ReadWord) (clash : MetaClash) → outcome_told w ≡ Collision clash → ⊥
no_collision w clash same = grind arith

one_reading : (digest : List ℕ → List ℕ) (id : BlobId) (payloads : List (List ℕ)) (w v : ReadWord) (a b : Option Evidence) → ReadsTo digest id payloads w a → ReadsTo digest id payloads v b
    → (w ≡ v) × (a ≡ b)
one_reading digest id payloads w v a b p q =
    let same =
    outcome_same w (outcome_told v) (only_outcome digest id.0 payloads (outcome_told v) q.0 (outcome_told w) p.0) in
    (told_once w v same, outcome_evidence digest id.0 payloads (outcome_told v) a b (rw same at p.1) q.1)

reading_one : (digest : List ℕ → List ℕ) (id : BlobId) (payloads : List (List ℕ)) (w : ReadWord) (a : Option Evidence) → ReadsTo digest id payloads w a → HasTwo digest id.0 payloads → ⊥
reading_one digest id payloads w a p two =
    let clash : MetaClash = record { left = []; right = [] } in
    no_collision w clash
    (outcome_same w (Collision clash) (only_collision digest id.0 payloads two.0 two.1 clash two.2 two.3 two.4 (outcome_told w) p.0))

-- ---- recoveries

module _ (digest : List ℕ → List ℕ) (f : ℕ) (id : BlobId) (shard : ℕ) (axis : Axis) (old : Contents) (payloads : List (List ℕ)) where
  -- what the openings come to by a metadata, and what is made of it
  abbrev Rests : BlobMetadata → Recovered → RecoverWord → Contents → Type 0
  Rests m (Sliver bytes) w new = (w ≡ Sliver bytes) × (new ≡ kept_sliver old id m axis bytes)
  Rests m (Inconsistent p) w new = (w ≡ Inconsistent) × (new ≡ kept_proof old id m p)
  Rests m (Short have) w new =
      ((p : EncodingProof) × IsFirstBadProof digest id.0 m payloads p × (w ≡ Proof) × (new ≡ kept_proof old id m p))
      ⊎ (NoBadProof digest id.0 m payloads × (w ≡ Short have (sliver_symbols axis m.f)) × (new ≡ old))

  -- no metadata is known that has the committee's f, or one is
  abbrev Comes : RecoverWord → Contents → Type 0
  Comes w new =
      (((m : BlobMetadata) → Knows digest id (parts_at old id) payloads m → m.f ≢ f) × (w ≡ NoMetadata) × (new ≡ old))
      ⊎ ((m : BlobMetadata) × IsKnown digest f id (parts_at old id) payloads m × (found : Recovered) × OwnOpeningsComeTo digest id shard axis payloads m found × Rests m found w new)

  comes : (w : RecoverWord) (new : Contents) → RecoversTo digest f id shard axis old payloads w new → Comes w new
  comes NoMetadata new r = inl (r.0, refl, r.1)
  comes (Sliver bytes) new r = inr (r.0, r.1, Sliver bytes, r.2, (refl, r.3))
  comes Inconsistent new r = inr (r.0, r.1, Inconsistent r.2, r.3, (refl, r.4))
  comes Proof new r = inr (r.0, r.1, Short r.2, r.3, inl (r.4, r.5, refl, r.6))
  comes (Short have need) new r =
      inr (r.0, r.1, Short have, r.2, inr (r.3, cc (r.4), r.5))
  comes w new r = absurd r

  one_rest : (m : BlobMetadata) (found : Recovered) (w v : RecoverWord) (x y : Contents) → Rests m found w x → Rests m found v y → (w ≡ v) × (x ≡ y)
  one_rest m (Short have) w v x y (inl (a, is, w_is, x_is)) (inl (b, also, v_is, y_is)) = let same = one_bad_proof digest id.0 m payloads a b is also in grind arith
  one_rest m (Short have) w v x y (inl (a, is, w_is, x_is)) (inr (none, v_is, y_is)) = absurd (first_not_none (CarriesBadProof digest id.0 m) payloads a is none)
  one_rest m (Short have) w v x y (inr (none, w_is, x_is)) (inl (b, also, v_is, y_is)) = absurd (first_not_none (CarriesBadProof digest id.0 m) payloads b also none)
  one_rest m (Short have) w v x y (inr (none, w_is, x_is)) (inr (nothing, v_is, y_is)) = grind arith
  one_rest m found w v x y p q = (p.0 ∙ sym q.0, p.1 ∙ sym q.1)

  -- a metadata that is known is one
  known_shape : (m : BlobMetadata) → Knows digest id (parts_at old id) payloads m → IsShape m.f m.length
  known_shape m known = ⊎_elim (λ has. (metadata_fits digest id.0 payloads m has).shape) (λ holds. holds.fit.shape) known

  one_coming : (w v : RecoverWord) (x y : Contents) → Comes w x → Comes v y → (w ≡ v) × (x ≡ y)
  one_coming w v x y (inl (none, w_is, x_is)) (inl (nothing, v_is, y_is)) = grind arith
  one_coming w v x y (inl (none, w_is, x_is)) (inr (n, known, found, opens, rests)) = absurd (none n known.known known.faults)
  one_coming w v x y (inr (m, known, found, opens, rests)) (inl (none, v_is, y_is)) = absurd (none m known.known known.faults)
  one_coming w v x y (inr (m, known, found, opens, rests)) (inr (n, known_n, other, opens_n, rests_n)) =
      let index = held_index n.format n.f axis shard in
      let same_m = known_n.only m known.known in
      let same =
      one_recovery digest n axis index (openings_in id.0 axis index payloads)
      (known_shape n known_n.known) found other (rw same_m at opens) opens_n in
      one_rest n other w v x y (rw (same_m, same) at rests) rests_n

-- THE RULES leave no choice but the texts of a collision
pub only_rules : (digest : List ℕ → List ℕ) (f : ℕ) → Only (rules_of digest f)
only_rules digest f = record {
  put_frame = λ bytes a b p q. cc (p.0, q.0);
  puts = λ log shard old frame a b x y p q.
      puts_once digest (desk_of f shard None log) old frame SamePut (λ a. (refl, λ fails. refl)) (λ c d. (refl, λ fails. absurd (true≢false fails))) a b x y p.1 q.1;
  message = λ format blob i j a b. one_message digest f format blob i j a b;
  symbol_reply = λ id helper parts axis shard a b. one_symbol_reply digest id helper parts axis shard a b;
  reads = λ id payloads w v a b. one_reading digest id payloads w v a b;
  reads_one = λ id payloads w a. reading_one digest id payloads w a;
  recovers = λ id shard axis old payloads w v x y p q.
      one_coming digest f id shard axis old payloads w v x y (comes digest f id shard axis old payloads w x p) (comes digest f id shard axis old payloads v y q);
}
