-- What payloads of bytes carry, and what is spelled, are bytes.
use Rattle.wal_theorem.proofs.Common.{◌≡◌, ℕ, ◌/◌, List, [], ◌∷◌, ◌++◌, length, Bool, true, false, if◌then◌else◌, ◌&&◌, nat_eq, Result, Ok, All, refl, sym, subst, ◌∙◌, arith, w8, w16, w32, flat_map, All-nil, All-cons, All-head, All-tail, All-append, Axis, BlobMetadata, EncodingProof, number_text, axis_number, body_text, proof_text, AreBytes, Opening, bytes_joined, first_taken, Frame, Sliver, OpeningFrame, Proof, target_text, sliver_front, read_of, openings_in, opening_for, same_axis, IsFirstBadProof, GivesOpening, Takes, bytes_behind, bytes_before, number8_bytes, number16_bytes, number32_bytes, spells, Contains-append_right}
use Rattle.std.proofs.lemmas.List.Elements.{All-contains}
use Rattle.std.specs.Cmp.Lexicographic.{pointwise}
use Rattle.wal_frame.specs.declared.frame.FrameError.{FrameError}

-- the symbol and the path of an opening are bytes
pub record OpeningBytes (o : Opening) : Type 0 where
  pub symbol : AreBytes o.symbol
  pub path : AreBytes o.path

-- ---- proofs

pub body_bytes : (o : Opening) → OpeningBytes o → AreBytes (body_text o)
unfolding body_text
body_bytes o are = search (bytes_joined, number8_bytes, number16_bytes, number32_bytes)

opening_bytes : (o : Opening) → AreBytes (body_text o) → OpeningBytes o
unfolding body_text
opening_bytes o are =
    let counted = o.symbol ++ number_text w8 (length o.path / 32) in
    let behind = bytes_behind (number_text w16 o.cross ++ number_text w32 (length o.symbol)) (counted ++ o.path) are in
    record { symbol = bytes_before o.symbol _ (bytes_before counted o.path behind); path = bytes_behind counted o.path behind }

bodies_bytes : (os : List Opening) → All OpeningBytes os → AreBytes (flat_map body_text os)
bodies_bytes [] are = λ i. omega arith
bodies_bytes (o ∷ os) are =
    bytes_joined (body_text o) _ (body_bytes o (All-head OpeningBytes o os are)) (bodies_bytes os (All-tail OpeningBytes o os are))

openings_of_bodies : (os : List Opening) → AreBytes (flat_map body_text os) → All OpeningBytes os
openings_of_bodies [] are = All-nil OpeningBytes
openings_of_bodies (o ∷ os) are =
    All-cons OpeningBytes o os (opening_bytes o (bytes_before (body_text o) _ are)) (openings_of_bodies os (bytes_behind (body_text o) _ are))

pub proof_bytes : (p : EncodingProof) → All OpeningBytes p.openings → AreBytes (proof_text p)
unfolding proof_text
proof_bytes p are = search (bytes_joined, number8_bytes, number16_bytes, bodies_bytes p.openings are)

pub proof_openings : (p : EncodingProof) → AreBytes (proof_text p) → All OpeningBytes p.openings
unfolding proof_text
proof_openings p are =
    let head = number_text w8 (axis_number p.axis) ++ number_text w16 p.index ++ number_text w16 (length p.openings) in
    openings_of_bodies p.openings (bytes_behind head _ are)

-- ---- payloads

-- the text of a proof that is read from bytes is bytes
pub proof_of : (payload id : List ℕ) (p : EncodingProof) → AreBytes payload → read_of payload ≡ Ok (Proof id p) → AreBytes (proof_text p)
proof_of payload id p are reads = bytes_behind (0x13 ∷ id) (proof_text p) (spells payload (Proof id p) are reads)

-- the content of a sliver that is read from bytes is bytes
pub sliver_of : (payload id : List ℕ) (axis : Axis) (index : ℕ) (content : List ℕ) → AreBytes payload → read_of payload ≡ Ok (Sliver id axis index content) → AreBytes content
sliver_of payload id axis index content are reads =
    bytes_behind (sliver_front id axis index (length content)) content
    (spells payload (Sliver id axis index content) are reads)

opening_of : (payload id : List ℕ) (axis : Axis) (index : ℕ) (o : Opening) → AreBytes payload → read_of payload ≡ Ok (OpeningFrame id axis index o) → OpeningBytes o
opening_of payload id axis index o are reads =
    opening_bytes o (bytes_behind (0x12 ∷ target_text id axis index) _ (spells payload (OpeningFrame id axis index o) are reads))

-- the first bad proof that they carry
pub proof_carried : (digest : List ℕ → List ℕ) (id : List ℕ) (m : BlobMetadata) (payloads : List (List ℕ)) (p : EncodingProof) → All AreBytes payloads
    → IsFirstBadProof digest id m payloads p → AreBytes (proof_text p)
proof_carried digest id m payloads p are (front, payload, back, parts, carries, none) =
    let there = Contains-append_right front (payload ∷ back) payload (0, omega arith, refl) in
    proof_of payload id p (All-contains AreBytes payloads payload are (rw parts there)) carries.0

-- and the openings
chosen : (b : Bool) (o : Opening) → OpeningBytes o → All OpeningBytes (if b then o ∷ [] else [])
chosen true o are = All-cons OpeningBytes o [] are (All-nil OpeningBytes)
chosen false o are = All-nil OpeningBytes

opening_for_bytes : (id : List ℕ) (axis : Axis) (index : ℕ) (payload : List ℕ) (read : Result Frame FrameError) → AreBytes payload → read_of payload ≡ read → All OpeningBytes (opening_for id axis index read)
opening_for_bytes id axis index payload (Ok (OpeningFrame i a k o)) are reads =
    chosen (pointwise nat_eq i id && (same_axis a axis && nat_eq k index)) o (opening_of payload i a k o are reads)
opening_for_bytes id axis index payload read are reads = All-nil OpeningBytes

pub openings_carried : (id : List ℕ) (axis : Axis) (index : ℕ) (payloads : List (List ℕ)) → All AreBytes payloads → All OpeningBytes (openings_in id axis index payloads)
openings_carried id axis index [] are = All-nil OpeningBytes
openings_carried id axis index (payload ∷ more) are =
    All-append OpeningBytes (opening_for id axis index (read_of payload)) (openings_in id axis index more)
    (opening_for_bytes id axis index payload (read_of payload) (All-head AreBytes payload more are) refl) (openings_carried id axis index more (All-tail AreBytes payload more are))

-- those that are taken
pub taken_bytes : (digest : List ℕ → List ℕ) (m : BlobMetadata) (axis : Axis) (index most : ℕ) (openings taken : List Opening) → All OpeningBytes openings
    → Takes digest m axis index openings most taken → All OpeningBytes taken
taken_bytes digest m axis index most openings taken are takes =
    (first_taken (GivesOpening digest m axis index) (λ (o : Opening). o.cross) most OpeningBytes openings taken
    (λ o given there is. subst OpeningBytes (there.2 ∙ sym is.0) (are there.0 o there.1)) takes).each
