-- A frame that is read is spelled so, and what is spelled so is read: each frame has one spelling, and no spelling begins another.
use Rattle.wal_frame.proofs.Common.{◌≡◌, ℕ, ◌+◌, Bool, true, false, cond, eqb, List, [], ◌∷◌, ◌++◌, length, Result, Ok, Err, refl, arith, IfOk, IfErr, w32, eqb-true, append-nil, length-append, Axis, Format, One, Two, BlobMetadata, IsMetadata, number_text, metadata_text, body_text, IsBytes, IsBytes-drop, length-body_text, FrameError, BadKind, Frame, Metadata, Sliver, Opening, Proof, Read, Symbol, Ack, Attest, Forget, Answer, Clash, RegisterEntry, AckEntry, AttestEntry, IsFrame, metadata_kind, target_text, sliver_frame, frame_text, frame_shown, Gives, IsPlaceBelow, metadata_at, metadata2_at, sliver_at, opened_at, proof_at, name_at, symbol_at, answer_at, clash_at, register_at, entry_at, made, target_with, request_at, fields_at, ended, read_of}
use Rattle.wal_shape.specs.declared.opening.Opening as single
use Rattle.wal_frame.specs.declared.frame.FrameRef.{FrameRef}
use Rattle.wal_frame.proofs.FieldLaws.{ended_ok, target, length-target}
use Rattle.wal_frame.proofs.KindLaws.{Outcome, IsRead, ending, made_again, sliver, sliver_of, sliver_is, opened, opened_of, opened_is, proof_is, proof_behind, name, name_is, symbol_of, symbol_is, answer, answer_of, answer_is, clash, clash_of, clash_is, register, register_of, register_is, entry, entry_is, metadata_is, metadata2_is, metadata_behind, metadata2_behind}

-- ---- what is spelled is read

metadata_of_kind : (format : Format) (m : BlobMetadata) (rest : List ℕ) → m.format ≡ format → IsMetadata m → fields_at (metadata_kind format) (metadata_text m ++ rest) ≡ ended (Metadata m) rest
unfolding fields_at
metadata_of_kind One m rest is h = metadata_behind m rest is h
metadata_of_kind Two m rest is h = metadata2_behind m rest is h

-- behind the spelling of a frame nothing may follow
pub read_behind : (x : Frame) (rest : List ℕ) → IsFrame x → read_of (frame_text x ++ rest) ≡ ended x rest
unfolding read_of fields_at request_at sliver_at opened_at name_at symbol_at answer_at clash_at register_at entry_at
read_behind (Metadata m) rest h = metadata_of_kind m.format m rest refl h
read_behind (Sliver id axis index content) rest h =
    sliver.again Frame (ending sliver_of) ((target_with id axis index, length content), content) rest
    ((record { id_size = h.id_size; index_most = h.index_most }, h.size_most), refl)
read_behind (Opening id axis index o) rest h =
    opened.again Frame (ending opened_of) (target_with id axis index, o) rest h
read_behind (Proof id p) rest h = proof_behind (target_with id p.axis p.index) p.openings rest h.0 h.1
read_behind (Read id) rest h = made_again name (λ x. x) Read id rest h
read_behind (Symbol id axis index) rest h = target.again Frame (ending symbol_of) (target_with id axis index) rest h
read_behind (Ack id) rest h = made_again name (λ x. x) Ack id rest h
read_behind (Attest id) rest h = made_again name (λ x. x) Attest id rest h
read_behind (Forget id) rest h = made_again name (λ x. x) Forget id rest h
read_behind (Answer code a b) rest h =
    answer.again Frame (ending answer_of) ((code, a), b) rest
    ((h.code_most, omega (arith, h.a_fits)), omega (arith, h.b_fits))
read_behind (Clash left right) rest h =
    clash.again Frame (ending clash_of) (left, right) rest (h.left_most, h.right_most)
read_behind (RegisterEntry id until) rest h = register.again Frame (ending register_of) (id, until) rest h
read_behind (AckEntry shard id) rest h =
    made_again entry (λ e. e) (λ e. AckEntry e.0 e.1) (shard, id) rest (h.index_most, h.id_size)
read_behind (AttestEntry shard id) rest h =
    made_again entry (λ e. e) (λ e. AttestEntry e.0 e.1) (shard, id) rest (h.index_most, h.id_size)

-- what is spelled so is read
pub read_again : (x : Frame) → IsFrame x → read_of (frame_text x) ≡ Ok x
read_again x h = rw append-nil at (read_behind x [] h)

-- ---- what is read is spelled

module _ (kind : ℕ) (bytes : List ℕ) where
  kind_on : (b : Bool) (k : ℕ) → eqb kind k ≡ b → (mine others : Result Frame FrameError) → Outcome (k ∷ bytes) mine
      → Outcome (kind ∷ bytes) others → Outcome (kind ∷ bytes) (cond b mine others)
  kind_on true k e mine others is other = rw (eqb-true kind k e) is
  kind_on false k e mine others is other = other

  -- the bytes of this kind, or of another
  kind_is : (k : ℕ) (mine others : Result Frame FrameError) → Outcome (k ∷ bytes) mine → Outcome (kind ∷ bytes) others
      → Outcome (kind ∷ bytes) (cond (eqb kind k) mine others)
  kind_is k = kind_on (eqb kind k) k refl

  request_is : Outcome (kind ∷ bytes) (request_at kind bytes)
  unfolding request_at
  request_is =
      kind_is 0x20 (made Read (name_at bytes)) _ (name_is 0x20 Read (λ id h. (h, refl)) bytes) (
      kind_is 0x21 (symbol_at bytes) _ (symbol_is bytes) (
      kind_is 0x22 (made Ack (name_at bytes)) _ (name_is 0x22 Ack (λ id h. (h, refl)) bytes) (
      kind_is 0x23 (made Attest (name_at bytes)) _ (name_is 0x23 Attest (λ id h. (h, refl)) bytes) (
      kind_is 0x24 (made Forget (name_at bytes)) _ (name_is 0x24 Forget (λ id h. (h, refl)) bytes) (
      kind_is 0x30 (answer_at bytes) _ (answer_is bytes) (
      kind_is 0x31 (clash_at bytes) _ (clash_is bytes) (
      kind_is 0x40 (register_at bytes) _ (register_is bytes) (
      kind_is 0x41 (made (λ e. AckEntry e.0 e.1) (entry_at bytes)) _ (entry_is 0x41 (λ e. AckEntry e.0 e.1)
      (λ e h. (h, refl)) bytes) (
      kind_is 0x42 (made (λ e. AttestEntry e.0 e.1) (entry_at bytes)) (Err BadKind)
      (entry_is 0x42 (λ e. AttestEntry e.0 e.1) (λ e h. (h, refl)) bytes) tt)))))))))

  fields_are : Outcome (kind ∷ bytes) (fields_at kind bytes)
  unfolding fields_at
  fields_are =
      kind_is 0x10 (metadata_at bytes) _ (metadata_is bytes) (
      kind_is 0x11 (sliver_at bytes) _ (sliver_is bytes) (
      kind_is 0x12 (opened_at bytes) _ (opened_is bytes) (
      kind_is 0x13 (proof_at bytes) _ (proof_is bytes) (
      kind_is 0x14 (metadata2_at bytes) (request_at kind bytes) (metadata2_is bytes) request_is))))

-- what is read is in the ranges, as long as its spelling, and spelled so, and a bad field is at one of the bytes
pub outcome : (bytes : List ℕ) → Outcome bytes (read_of bytes)
unfolding read_of
outcome [] = tt
outcome (kind ∷ bytes) = fields_are kind bytes

-- whatever numbers stand for the bytes
pub frame_is : (bytes : List ℕ) (x : Frame) → read_of bytes ≡ Ok x → IsRead bytes x
frame_is bytes x e = rw e at (outcome bytes)

-- what is read of bytes is in the ranges, and spelled so
pub read_is : (bytes : List ℕ) (x : Frame) → IsBytes bytes → read_of bytes ≡ Ok x → IsFrame x × (bytes ≡ frame_text x)
read_is bytes x fits e = let is = frame_is bytes x e in (is.fits, is.spelled (IsBytes-drop 1 bytes fits))

-- no spelling begins another
pub no_other : (x y : Frame) (rest : List ℕ) → IsFrame x → IsFrame y → frame_text x ≡ frame_text y ++ rest → (y ≡ x) × (rest ≡ [])
no_other x y rest first second same = ended_ok y rest x (cc (read_behind y rest second, read_again x first))

-- ---- lengths

pub length-sliver_frame : (id : List ℕ) (axis : Axis) (index : ℕ) (bytes : List ℕ) → length id ≡ 32 → length (sliver_frame id axis index bytes) ≡ 40 + length bytes
length-sliver_frame id axis index bytes size =
    let c = number_text w32 (length bytes) in
    omega (arith, length-target id axis index size, length-append (target_text id axis index ++ c) bytes, length-append (target_text id axis index) c)

pub length-opening_frame : (id : List ℕ) (axis : Axis) (index : ℕ) (o : single.Opening) → length id ≡ 32 → length (frame_text (Opening id axis index o)) ≡ 43 + length o.symbol + length o.path
length-opening_frame id axis index o size =
    omega (arith, length-target id axis index size, length-append (target_text id axis index) (body_text o), length-body_text o)

-- ---- what a reader returned

-- what holds of each frame that the bytes may be read as holds of the one that is returned
pub frame_found : (bytes : List ℕ) (r : Result FrameRef FrameError) (P : FrameRef → Type 0)
    → ((frame : FrameRef) → read_of bytes ≡ Ok (frame_shown frame) → P frame) → Gives frame_shown r (read_of bytes)
    → IfOk r P
frame_found bytes (Ok frame) P of e = of frame e
frame_found bytes (Err d) P of e = tt

-- the place of a bad field is that of one of the bytes
pub frame_place : (bytes : List ℕ) (r : Result FrameRef FrameError) → Gives frame_shown r (read_of bytes)
    → IfErr r (IsPlaceBelow (length bytes))
frame_place bytes (Ok frame) h = tt
frame_place bytes (Err e) h = rw h at (outcome bytes)
