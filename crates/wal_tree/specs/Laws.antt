-- The sizes and the bytes of the two digests, which the laws of the trait cite.
use Rattle.std.specs.Prelude.{◌≡◌, ℕ, zero, suc, ◌+◌, ◌%◌, ◌<◌, Bool, true, false, List, [], ◌∷◌}
use Rattle.std.specs.Prelude.{length, slice_index, All, ◌^◌, if◌then◌else◌, ◌==◌}
use Rattle.std.proofs.Common.{arith}
use Rattle.std.specs.List.{range_with_len}
use Rattle.std.specs.Int.{byte_at, bytes_high_first, to_be_bytes, w32}
use Rattle.std.proofs.lemmas.List.Elements.{All-nil, All-cons, All-head, All-tail, All-append}
use Rattle.std.proofs.lemmas.List.Elements.{All-map}
use Rattle.std.proofs.lemmas.List.FromFn.{length-map-range_with_len}
use Rattle.std.proofs.lemmas.Nat.{xor_of_8}
use Rattle.sha2.specs.Sha256.{digest_bytes, final_hash, initial_hash_256, sha256}
use Rattle.sha2.proofs.Facts256.{length-sha256}
use Rattle.wal_tree.specs.Digests.{IsByte, lane_sum, toy32}

pub sha256_size : (text : List ℕ) → length (sha256 text) ≡ 32
sha256_size text = length-sha256 text

pub toy32_size : (text : List ℕ) → length (toy32 text) ≡ 32
unfolding toy32
toy32_size text = length-map-range_with_len (λ lane. lane_sum lane 0 text) 0 32

byte_at-byte : (i n : ℕ) → IsByte (byte_at i n)
byte_at-byte zero n = omega arith
byte_at-byte (suc i) n = omega arith

All-bytes_high_first : (count n : ℕ) → All IsByte (bytes_high_first count n)
All-bytes_high_first zero n = All-nil IsByte
All-bytes_high_first (suc count) n =
    All-cons IsByte (byte_at count n) (bytes_high_first count n)
    (byte_at-byte count n) (All-bytes_high_first count n)

All-digest_bytes : (words : List ℕ) (n : ℕ) → All IsByte (digest_bytes words n)
unfolding digest_bytes
All-digest_bytes words zero = All-nil IsByte
All-digest_bytes words (suc n) =
    All-append IsByte (digest_bytes words n) (to_be_bytes w32 (slice_index words n))
    (All-digest_bytes words n) (All-bytes_high_first 4 (slice_index words n))

pub sha256_bytes : (text : List ℕ) → All IsByte text → All IsByte (sha256 text)
unfolding sha256
sha256_bytes text bytes = All-digest_bytes (final_hash initial_hash_256 text) 8

chosen : (whether : Bool) (x : ℕ) → IsByte x → IsByte (if whether then x else 0)
chosen true x byte = byte
chosen false x byte = omega arith

lane_sum-byte : (lane position : ℕ) (text : List ℕ) → All IsByte text
    → lane_sum lane position text < 2 ^ 8
lane_sum-byte lane position [] bytes = omega arith
lane_sum-byte lane position (x ∷ xs) bytes =
    xor_of_8 (if position % 32 == lane then x else 0) (lane_sum lane (position + 1) xs)
    (chosen (position % 32 == lane) x (All-head IsByte x xs bytes))
    (lane_sum-byte lane (position + 1) xs (All-tail IsByte x xs bytes))

pub toy32_bytes : (text : List ℕ) → All IsByte text → All IsByte (toy32 text)
unfolding toy32
toy32_bytes text bytes =
    All-map IsByte (λ (lane : ℕ). lane_sum lane 0 text)
    (range_with_len 0 32) (λ k element within. lane_sum-byte _ 0 text bytes)
