-- What is held and sound is replied, in bytes.
use Rattle.wal_theorem.proofs.Common.{IsSome, ◌≡◌, ⊎_elim, ℕ, ◌*◌, ◌<◌, List, [], ◌∷◌, ◌++◌, length, Option, Some, None, All, refl, sym, ap, subst, ◌∙◌, arith, cases_lt, All-nil, All-cons, All-append, region, BlobId, Axis, Format, shard_count, symbol_size, crossing, BlobMetadata, held_index, sliver_part, axis_number, metadata_text, spelled_metadata-text, path_over, AreBytes, bytes_of_part, bytes_within, bytes_joined, identifier_text, identifier_is, frame_text, metadata_frame, metadata_kind, sliver_frame, target_text, Parts, part_of, HoldsMetadata, IsSound, OpeningReply, given, not_held, no_shard, payload_if, metadata_reply, primary_reply, proof_reply, read_reply_of, SymbolReply, silent, replies, IsOfBytes, IsDigest, byte_first, path_bytes, text_bytes, is_32, number16_bytes, number32_bytes, Primary, Metadata, Proof, OpeningFrame, Opening, own_metadata, beside, beside_proof}
use Rattle.wal_shape.specs.MetadataReading.{spelled_metadata}
use Rattle.wal_theorem.proofs.InstanceHoldings.{none_or_some}
use Rattle.wal_theorem.proofs.TextBytes.{OpeningBytes, body_bytes}

-- ---- texts

axis_small : (axis : Axis) → axis_number axis < 256
axis_small axis = grind arith

kind_small : (format : Format) → metadata_kind format < 256
kind_small format = grind arith

target_bytes : (id : List ℕ) (axis : Axis) (index : ℕ) → AreBytes id → AreBytes (target_text id axis index)
target_bytes id axis index are = search (arith, bytes_joined, byte_first, axis_small, number16_bytes)

sliver_frame_bytes : (id : List ℕ) (axis : Axis) (index : ℕ) (bytes : List ℕ) → AreBytes id → AreBytes bytes → AreBytes (sliver_frame id axis index bytes)
sliver_frame_bytes id axis index bytes are_id are = search (arith, bytes_joined, byte_first, target_bytes id axis index are_id, number32_bytes)

module _ (digest : List ℕ → List ℕ) (is : IsDigest digest) where
  -- ---- replies

  -- what a shard holds, and its metadata, if it holds one
  module _ (f : ℕ) (id : BlobId) (shard : ℕ) (p : Parts) (sound : IsSound digest f id.0 shard p) (bytes : IsOfBytes p) where
    id_bytes : IsSome p.metadata → AreBytes id.0
    id_bytes some =
        let own = own_metadata digest f shard id.0 p sound some in
        subst AreBytes (sym (own.1.commits.identifier ∙ identifier_is digest own.0))
        (is_32 digest is (identifier_text digest own.0) (text_bytes digest is own.0 (bytes Metadata (metadata_text own.0) own.1.held.spelled))).bytes

    each_if : (o : Option (List ℕ)) (payload : List ℕ → List ℕ) → ((text : List ℕ) → o ≡ Some text → AreBytes (payload text)) → All AreBytes (payload_if o payload)
    each_if None payload are = All-nil AreBytes
    each_if (Some text) payload are = All-cons AreBytes (payload text) [] (are text refl) (All-nil AreBytes)

    metadata_bytes : All AreBytes (metadata_reply p)
    metadata_bytes = each_if p.metadata (λ text. metadata_frame (spelled_metadata text)) (λ text at.
        let held = sound.metadata text at in
        let m = held.0 in
        let e : text ≡ metadata_text m = cc (at, held.1.spelled) in
        let again : spelled_metadata text ≡ m = ap spelled_metadata e ∙ spelled_metadata-text m held.1.fit in
        subst (λ (x : BlobMetadata). AreBytes (metadata_frame x)) (sym again)
        (byte_first (metadata_kind m.format) (metadata_text m) (kind_small m.format) (bytes Metadata (metadata_text m) held.1.spelled)))

    -- where it holds more, it holds a metadata
    proof_replied : All AreBytes (proof_reply id.0 p)
    proof_replied = each_if p.proof (λ text. 0x13 ∷ (id.0 ++ text)) (λ text at.
        let own = id_bytes (beside_proof digest f shard id.0 p sound (rw at)) in
        byte_first 0x13 (id.0 ++ text) (omega arith) (bytes_joined id.0 text own (bytes Proof text at)))

    primary_replied : All AreBytes (primary_reply id.0 shard p)
    primary_replied = each_if p.primary (λ text. sliver_frame id.0 Primary shard text) (λ text at.
        sliver_frame_bytes id.0 Primary shard text (id_bytes (beside digest f shard id.0 p Primary sound (rw at))) (bytes Primary text at))

    pub read_replied : All AreBytes (read_reply_of id.0 shard p)
    read_replied =
        All-append AreBytes (metadata_reply p) (primary_reply id.0 shard p ++ proof_reply id.0 p) metadata_bytes
        (All-append AreBytes (primary_reply id.0 shard p) (proof_reply id.0 p) primary_replied proof_replied)

    -- the opening that a sliver gives
    abbrev Opened : Axis → ℕ → Type 0
    Opened axis index = (payloads : List (List ℕ)) × OpeningReply digest id.0 shard p axis index payloads × All AreBytes payloads

    opening_replied : (axis : Axis) (index : ℕ) (m : BlobMetadata) → HoldsMetadata p m → Opened axis index
    opening_replied axis index m holds =
        ⊎_elim
        (λ none. ([], not_held none, All-nil AreBytes))
        (λ some. ⊎_elim
        (λ below.
        let held = sound.slivers (crossing axis) m some.0 holds some.1 in
        let s = symbol_size m.f m.length in
        let word_bytes = bytes_within held.word held.is_word.coded.fits in
        let o : Opening = record { cross = held_index m.format m.f (crossing axis) shard; symbol = region s held.word index; path = path_over digest s held.word index } in
        let body : OpeningBytes o = record { symbol = bytes_of_part s (s * index) held.word word_bytes; path = path_bytes digest is s held.word index word_bytes } in
        let text : AreBytes (frame_text (OpeningFrame id.0 axis index o)) =
        byte_first 0x12 _ (omega arith) (bytes_joined (target_text id.0 axis index) _ (target_bytes id.0 axis index (id_bytes (rw holds.spelled))) (body_bytes o body)) in (
          frame_text (OpeningFrame id.0 axis index o) ∷ [],
          given m some.0 o holds some.1 below refl (record { word = held.word; is_word = held.is_word; symbol = refl; path = refl }),
          All-cons AreBytes (frame_text (OpeningFrame id.0 axis index o)) [] text (All-nil AreBytes),
        ))
        (λ past. ([], no_shard m holds (λ below. omega (arith, below, past)), All-nil AreBytes))
        (cases_lt index (shard_count m.f)))
        (none_or_some (part_of p (sliver_part (crossing axis))))

    pub symbol_replied : (axis : Axis) (to : ℕ) → (payloads : List (List ℕ)) × SymbolReply digest id shard p axis to payloads × All AreBytes payloads
    symbol_replied axis to =
        ⊎_elim
        (λ none. ([], silent none, All-nil AreBytes))
        (λ some.
        let held = sound.metadata some.0 some.1 in
        let m = held.0 in
        let opened = opening_replied axis (held_index m.format m.f axis to) m held.1 in
        let all = metadata_reply p ++ (opened.0 ++ proof_reply id.0 p) in (
          all,
          replies m all held.1 (opened.0, opened.1, refl),
          All-append AreBytes (metadata_reply p) (opened.0 ++ proof_reply id.0 p) metadata_bytes (All-append AreBytes opened.0 (proof_reply id.0 p) opened.2 proof_replied),
        ))
        (none_or_some p.metadata)
