-- Each blob has an extended matrix.
use Rattle.wal_matrix.proofs.Common.{◌≡◌, ℕ, ◌<◌, ◌≤◌, List, length, get_or, ◌∙◌, arith, range_with_len, get_or-range_with_len, length-range_with_len, row_count, column_count, symbol_size, symbol_size-least, padded, IsExtended}
use Rattle.wal_matrix.proofs.Codewords.{AreBytes, range_distinct}
use Rattle.wal_matrix.proofs.PaddedLaws.{padded_long}
use Rattle.wal_matrix.proofs.RowLaws.{zeros_after}
use Rattle.wal_matrix.proofs.Symbols.{joined-symbol}
use Rattle.wal_matrix.proofs.ThroughLaws.{primary-symbol, through_some}

padded_bytes : (f : ℕ) (bytes : List ℕ) → AreBytes bytes → AreBytes (padded f bytes)
unfolding padded
padded_bytes f bytes are i = rw zeros_after (are i)

-- a blob has an extended matrix: the one through the rows of its source block
pub extended_exists : (f : ℕ) (bytes : List ℕ) → f ≤ 333 → AreBytes bytes → (e : List ℕ) × IsExtended f bytes e
extended_exists f bytes few are =
    let s = symbol_size f (length bytes) in
    let block = padded f bytes in
    let least = symbol_size-least f (length bytes) in
    let rows = row_count f in
    let indices = range_with_len 0 rows in
    let all : length indices ≡ rows = length-range_with_len 0 rows in
    let own : (i d : ℕ) → i < rows → get_or indices i d ≡ i =
    λ i d l. omega (arith, get_or-range_with_len 0 rows i d l) in
    let found = through_some f s indices block record {
      few = few;
      even = least.even;
      some = omega (arith, least.positive);
      count = all;
      distinct = range_distinct 0 rows;
      below = λ i d l. (let inside : i < rows = omega arith in omega (arith, own i d inside));
      size = padded_long f bytes ∙ omega arith;
      bytes = padded_bytes f bytes are;
    } in (
      found.0,
      record {
        coded = found.1.coded;
        source = λ r c hr hc.
            let joins = joined-symbol (column_count f) s block r c hc in
            cc (primary-symbol f s found.0 r c hc, own r 0 hr, found.1.begins r (omega arith), joins);
      },
    )
