-- A sliver's symbols are those for which the tools have room.
use Rattle.wal_commit.proofs.Common.{◌≡◌, ℕ, ◌+◌, ◌*◌, ◌%◌, ◌<◌, ◌≤◌, arith, mul-mod_left, most_bytes, symbol_size, run_fits}
use Rattle.wal_matrix.specs.Tools.{longest_symbol}
use Rattle.wal_matrix.proofs.ToolsLaws.{symbol_size-longest}

-- a blob of at most `most_bytes` has symbols that are no longer than the longest for its f
pub symbols_fit : (size f length kept : ℕ) → size ≡ symbol_size f length → kept ≡ f → length ≤ most_bytes → size ≤ longest_symbol kept
symbols_fit size f length kept size_is kept_is short = rw (size_is, kept_is) (symbol_size-longest f length short)

-- n pieces of s bytes leave no rest by s
pub whole_pieces : (n s long : ℕ) → long ≡ n * s → long % s ≡ 0
whole_pieces n s long e = rw e (mul-mod_left n s)

-- a symbol of a codeword lies within it
pub symbol_within : (n s i long : ℕ) → long ≡ n * s → i < n → s * i + s ≤ long
symbol_within n s i long e h = omega (arith, run_fits i n s h, e)
