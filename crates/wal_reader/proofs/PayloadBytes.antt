-- What payloads of bytes carry is bytes.
use Rattle.wal_reader.proofs.Common.{◌≡◌, ℕ, List, [], ◌∷◌, Ok, All, subst, BlobMetadata, metadata_text, Frame, Metadata, frame_text, metadata_kind, read_of, read_is, HasMetadata}
use Rattle.wal_matrix.proofs.Codewords.{AreBytes}
use Rattle.wal_commit.proofs.OneDigest.{bytes_behind}

-- what a payload spells
pub spells : (payload : List ℕ) (x : Frame) → AreBytes payload → read_of payload ≡ Ok x → AreBytes (frame_text x)
spells payload x are reads = subst AreBytes (read_is payload x are reads).1 are

pub metadata_of : (payload : List ℕ) (m : BlobMetadata) → AreBytes payload → read_of payload ≡ Ok (Metadata m) → AreBytes (metadata_text m)
metadata_of payload m are reads = bytes_behind (metadata_kind m.format ∷ []) (metadata_text m) (spells payload (Metadata m) are reads)

-- the metadata that payloads carry
pub metadata_carried : (digest : List ℕ → List ℕ) (id : List ℕ) (payloads : List (List ℕ)) (m : BlobMetadata) → All AreBytes payloads → HasMetadata digest id payloads m
    → AreBytes (metadata_text m)
metadata_carried digest id payloads m are has =
    metadata_of has.1 m (subst AreBytes has.3 (are has.0 has.1 has.2)) has.4.0
