-- The spelling of a blob's metadata is bytes.
use Rattle.wal_commit.proofs.Common.{ℕ, zero, suc, ◌*◌, List, [], ◌∷◌, ◌++◌, length, sym, subst, arith, w8, w16, w32, w64, flat_map, range_with_len, Secondary, Format, One, Two, BlobShape, shard_count, symbol_size, BlobMetadata, held_index, number_text, metadata_text, root_over, row_of, column_of, AreBytes, bytes_of_part, bytes_within, row_is, bytes_joined, bytes_of_column, IsMetadataOf, head_text, metadata_over, pair_over}
use Rattle.std.proofs.lemmas.List.Concat.{flat_map-cons}
use Rattle.wal_commit.proofs.Commitments.{metadata_text-over}
use Rattle.wal_commit.proofs.OneDigest.{IsDigest, root_over_32, byte_first}

-- ---- numbers

pub number16_bytes : (n : ℕ) → AreBytes (number_text w16 n)
number16_bytes n (suc (suc i)) = omega arith
number16_bytes n _ = omega arith

pub number32_bytes : (n : ℕ) → AreBytes (number_text w32 n)
number32_bytes n (suc (suc (suc (suc i)))) = omega arith
number32_bytes n _ = omega arith

pub number64_bytes : (n : ℕ) → AreBytes (number_text w64 n)
number64_bytes n (suc (suc (suc (suc (suc (suc (suc (suc i)))))))) = omega arith
number64_bytes n _ = omega arith

pub number8_bytes : (n : ℕ) → AreBytes (number_text w8 n)
number8_bytes n zero = omega arith
number8_bytes n (suc i) = omega arith

module _ (digest : List ℕ → List ℕ) (is : IsDigest digest) where
  each_bytes : (g : ℕ → List ℕ) (xs : List ℕ) → ((i : ℕ) → AreBytes (g i)) → AreBytes (flat_map g xs)
  each_bytes g [] each = λ i. omega arith
  each_bytes g (x ∷ xs) each = subst AreBytes (sym (flat_map-cons g x xs)) (bytes_joined (g x) (flat_map g xs) (each x) (each_bytes g xs each))

  head_bytes : (format : Format) (n long : ℕ) → AreBytes (head_text format n long)
  head_bytes One n long = bytes_joined (number_text w16 n) (number_text w64 long) (number16_bytes n) (number64_bytes long)
  head_bytes Two n long =
      byte_first 2 (number_text w16 n ++ number_text w64 long) (omega arith) (bytes_joined (number_text w16 n) (number_text w64 long) (number16_bytes n) (number64_bytes long))

  root_bytes : (s : ℕ) (xs : List ℕ) → AreBytes xs → AreBytes (root_over digest s xs)
  root_bytes s xs are = (root_over_32 digest is s xs are).bytes

  pair_bytes : (shape : BlobShape) (e : List ℕ) (i : ℕ) → AreBytes e → AreBytes (pair_over digest shape e i)
  unfolding column_of
  pair_bytes shape e i are =
      let n = shard_count shape.f in
      let s = symbol_size shape.f shape.length in
      let column = held_index shape.format shape.f Secondary i in
      bytes_joined (root_over digest s (row_of n s e i)) (root_over digest s (column_of n s e column))
      (root_bytes s (row_of n s e i) (subst AreBytes (sym (row_is n s e i)) (bytes_of_part (n * s) (n * s * i) e are)))
      (root_bytes s (column_of n s e column) (bytes_of_column n s e n column are))

  -- the metadata over a matrix
  pub over_bytes : (shape : BlobShape) (e : List ℕ) → AreBytes e → AreBytes (metadata_text (metadata_over digest shape e))
  over_bytes shape e are =
      subst AreBytes (sym (metadata_text-over digest shape e))
      (bytes_joined (head_text shape.format shape.f shape.length) (flat_map (pair_over digest shape e) (range_with_len 0 (shard_count shape.f)))
      (head_bytes shape.format shape.f shape.length) (each_bytes (pair_over digest shape e) (range_with_len 0 (shard_count shape.f)) (λ i. pair_bytes shape e i are)))

  -- a blob's metadata
  pub honest_bytes : (format : Format) (n : ℕ) (blob : List ℕ) (m : BlobMetadata) → IsMetadataOf digest format n blob m → AreBytes (metadata_text m)
  honest_bytes format n blob m (e, extended, over, shape) =
      rw over (over_bytes (record { format = format; f = n; length = length blob }) e (bytes_within e extended.coded.fits))
