-- The room for a payload is enough for every frame that can verify.
use Rattle.wal_serve.proofs.Common.{ℕ, ◌+◌, ◌*◌, ◌<◌, ◌≤◌, inl, inr, List, length, subst, arith, cases_lt, length-append, proof_text, Frame, IsFrame, frame_text, bad_proof_most, sliver_most}
use Rattle.std.proofs.Math.Nat.{mul-le-mul_right}
use Rattle.wal_shape.specs.Shape.{row_count, column_count, symbol_size, most_bytes}
use Rattle.wal_shape.specs.Metadata.{BlobMetadata, IsMetadata}
use Rattle.wal_shape.proofs.ShapeLaws.{symbol_size-least}
use Rattle.wal_shape.proofs.MetadataLaws.{length-metadata_text, text_size-most}
use Rattle.wal_frame.proofs.FieldLaws.{length-target}
use Rattle.wal_frame.proofs.FrameLaws.{length-sliver_frame}
use Rattle.wal_serve.specs.Room.{desk_room, AsksOnly, MayVerify}

-- the room is more than the longest metadata of all has
room_least : (f : ℕ) → 1 ≤ f → f ≤ 333 → 64012 < desk_room f
room_least f some few =
    let x = column_count f * symbol_size f most_bytes in
    elim (cases_lt f 98) [
      | inl less ↦
          let rows : row_count f * x ≤ 98 * x = mul-le-mul_right x (omega arith) in
          let room : most_bytes ≤ row_count f * x = omega (arith, (symbol_size-least f most_bytes).room) in
          omega (arith, rows, room)
      | inr more ↦ omega arith
    ]

-- so a metadata, of whatever f, is shorter
pub metadata_most : (f : ℕ) (m : BlobMetadata) → 1 ≤ f → f ≤ 333 → IsMetadata m → length (frame_text (Frame.Metadata m)) < desk_room f
metadata_most f m some few fit =
    omega (arith, room_least f some few, length-metadata_text m fit, text_size-most m.format m.f, fit.shape.1)

-- every frame that can verify has room
pub enough : (digest : List ℕ → List ℕ) (f : ℕ) (x : Frame) → 1 ≤ f → f ≤ 333 → IsFrame x → MayVerify digest f x → length (frame_text x) ≤ desk_room f
enough digest f (Frame.Metadata m) some few is may = omega (arith, metadata_most f m some few is)
enough digest f (Frame.Sliver id axis index bytes) some few is may =
    let P : ℕ → Type 0 = λ n. length bytes ≤ column_count n * symbol_size n most_bytes in
    let most : P f = subst P may.2 (sliver_most digest may.0 axis index bytes may.1 may.3) in
    omega (arith, most, length-sliver_frame id axis index bytes is.id_size)
enough digest f (Frame.Proof id q) some few is may =
    let P : ℕ → Type 0 = λ n. length (proof_text q) ≤ 5 + column_count n * (symbol_size n most_bytes + 327) in
    let most : P f = subst P may.2 (bad_proof_most digest may.0 q may.1 may.3 is.1) in
    omega (arith, most, is.0, length-append id (proof_text q))
enough digest f _ some few is may = absurd may

-- and every request that carries no part of a blob is shorter
pub asks : (f : ℕ) (x : Frame) → 1 ≤ f → f ≤ 333 → IsFrame x → AsksOnly x → length (frame_text x) < desk_room f
asks f x some few is only = let room = room_least f some few in grind (arith, length-target, length-append)
