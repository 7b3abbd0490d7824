-- The metadata that bytes spell, read at fixed places.
use Rattle.std.specs.Prelude.{ℕ, zero, suc, ◌==◌, if◌then◌else◌, List, [], ◌∷◌, length, get_or}
use Rattle.std.specs.Prelude.{take, drop}
use Rattle.std.specs.Int.{w16, w64, from_be_bytes}
use Rattle.wal_shape.specs.declared.shape.Format.{Format}
use Rattle.wal_shape.specs.declared.shape.Format.TheVariants.{One, Two}
use Rattle.wal_shape.specs.Shape.{shard_count}
use Rattle.wal_shape.specs.Metadata.{BlobMetadata, held_order}
use Rattle.wal_shape.specs.Spelling.{format_text}

-- the format, told by the first byte, which is at most 1 if f stands first
unfoldable pub spelled_format : List ℕ → Format
spelled_format bytes = if get_or bytes 0 0 == 2 then Two else One

-- the bytes behind the format
unfoldable pub behind_format : List ℕ → List ℕ
behind_format bytes = drop (length (format_text (spelled_format bytes))) bytes

-- f, which the first two bytes behind the format spell
unfoldable pub spelled_f : List ℕ → ℕ
spelled_f bytes = from_be_bytes w16 (take 2 bytes)

-- the length, which the eight bytes after the two of f spell
unfoldable pub spelled_length : List ℕ → ℕ
spelled_length bytes = from_be_bytes w64 (take 8 (drop 2 bytes))

-- the bytes after f and the length
abbrev pub pairs_in : List ℕ → List ℕ
pairs_in bytes = drop 8 (drop 2 bytes)

-- n roots, one of which begins at every 64th byte
unfoldable pub every_root : ℕ → List ℕ → List (List ℕ)
every_root zero bytes = []
every_root (suc n) bytes = take 32 bytes ∷ every_root n (drop 64 bytes)

-- the metadata of this format whose numbers and roots are read from the bytes
unfoldable pub metadata_in : Format → List ℕ → BlobMetadata
metadata_in format bytes = record {
  format = format;
  f = spelled_f bytes;
  length = spelled_length bytes;
  primary = every_root (shard_count (spelled_f bytes)) (pairs_in bytes);
  secondary =
      held_order format (every_root (shard_count (spelled_f bytes)) (drop 32 (pairs_in bytes)));
}

-- the metadata that the bytes spell
unfoldable pub spelled_metadata : List ℕ → BlobMetadata
spelled_metadata bytes = metadata_in (spelled_format bytes) (behind_format bytes)
