-- Bytes, and the toy digest of 32 bytes, for tests and worked examples.
use Rattle.std.specs.Prelude.{ℕ, ◌+◌, ◌<◌, ◌%◌, List, [], ◌∷◌, map, bit_xor, if◌then◌else◌, ◌==◌}
use Rattle.std.specs.List.{range_with_len}

-- the number is a byte
abbrev pub IsByte : ℕ → Type 0
IsByte number = number < 256

-- the exclusive or of the bytes whose positions, counted from `position`, are `lane` modulo 32
abbrev pub lane_sum : ℕ → ℕ → List ℕ → ℕ
lane_sum lane position [] = 0
lane_sum lane position (byte ∷ more) =
    bit_xor (if position % 32 == lane then byte else 0) (lane_sum lane (position + 1) more)

-- byte k is the exclusive or of the bytes at the positions that are k modulo 32
unfoldable pub toy32 : List ℕ → List ℕ
toy32 text = map (λ lane. lane_sum lane 0 text) (range_with_len 0 32)
