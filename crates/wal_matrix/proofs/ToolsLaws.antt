-- The symbols for which the tools of a number of faults have room.
use Rattle.wal_matrix.proofs.Common.{◌≡◌, ℕ, ◌*◌, ◌≤◌, arith, refl, Secondary, symbol_size, shard_count, row_count, column_count, most_bytes, sliver_symbols, mul-le-mul_left, symbol_size-least}
use Rattle.wal_matrix.specs.Tools.{longest_symbol, longest_sliver}

-- the symbols of each blob
pub symbol_size-longest : (f length : ℕ) → length ≤ most_bytes → symbol_size f length ≤ longest_symbol f
symbol_size-longest f length h =
    let longest = symbol_size-least f most_bytes in
    (symbol_size-least f length).least (longest_symbol f) longest.even longest.positive (let room = longest.room in omega arith)

-- the symbols of one word
pub one_word-fits : (f : ℕ) → 2 ≤ longest_symbol f
one_word-fits f = (symbol_size-least f most_bytes).positive

-- twelve bytes are one word in each cell for one fault
pub six_words : row_count 1 * (column_count 1 * symbol_size 1 12) ≡ 12
unfolding symbol_size
six_words = refl

-- the codewords of each blob
pub codeword-fits : (f length room : ℕ) → shard_count f * longest_symbol f ≤ room → length ≤ most_bytes → shard_count f * symbol_size f length ≤ room
codeword-fits f length room fits short = omega (arith, mul-le-mul_left (shard_count f) (symbol_size-longest f length short), fits)

-- a column of two words
pub two_words : sliver_symbols Secondary 1 * symbol_size 1 12 ≡ 4
unfolding symbol_size
two_words = refl

-- it is no longer than the longest sliver
pub four_bytes_fit : 4 ≤ longest_sliver 1
four_bytes_fit = omega (arith, one_word-fits 1)
