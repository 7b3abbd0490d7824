-- The sizes of symbols and of codewords.
use Rattle.wal_extract.proofs.Common.{◌≡◌, ℕ, ◌*◌, ◌%◌, ◌<◌, ◌≤◌, ◌^◌, arith, mul-le-mul_right, mul-mod_left, most_bytes, shard_count, symbol_size, matrix_bytes-bound}

-- no symbol of an allowed size is too long for a number of 32 bits
pub size_short : (f s : ℕ) → 1 ≤ f → f ≤ 333 → s ≤ symbol_size f most_bytes → s < 2 ^ 32
size_short f s some few most =
    let squares : 1 ≤ shard_count f * shard_count f = omega arith in
    let room = mul-le-mul_right (symbol_size f most_bytes) squares in
    omega (arith, room, matrix_bytes-bound f most_bytes (some, few, omega arith))

-- as many pieces as there are shards are a content that a tree takes
pub whole : (n s long : ℕ) → long ≡ n * s → long % s ≡ 0
whole n s long e = rw e (mul-mod_left n s)
