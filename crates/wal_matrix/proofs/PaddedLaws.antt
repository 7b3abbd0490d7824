-- The source block of a blob.
use Rattle.wal_matrix.proofs.Common.{◌≡◌, ℕ, ◌+◌, ◌-◌, ◌*◌, ◌≤◌, List, ◌++◌, length, replicate, ap, ◌∙◌, arith, take, length-append, length-replicate, take_all, symbol_size-least, row_count, column_count, symbol_size, padded}

-- a blob has no more bytes than its source block
pub blob_fits : (f : ℕ) (bytes : List ℕ) → length bytes ≤ row_count f * column_count f * symbol_size f (length bytes)
blob_fits f bytes = (symbol_size-least f (length bytes)).room

-- it has as many bytes as its symbols
pub padded_long : (f : ℕ) (bytes : List ℕ) → length (padded f bytes) ≡ row_count f * column_count f * symbol_size f (length bytes)
unfolding padded
padded_long f bytes =
    let room = blob_fits f bytes in
    let whole = row_count f * column_count f * symbol_size f (length bytes) in
    length-append bytes (replicate (whole - length bytes) 0)
    ∙ ap (λ (k : ℕ). length bytes + k) (length-replicate (whole - length bytes) 0) ∙ omega arith

-- what a buffer holds that is filled with the blob and resized
pub padded_is : (f size count : ℕ) (bytes held : List ℕ)
    → size ≡ row_count f * column_count f * symbol_size f (length bytes) → held ≡ bytes
    → count ≡ length held → take size held ++ replicate (size - count) 0 ≡ padded f bytes
unfolding padded
padded_is f size count bytes held is same long =
    let fits = blob_fits f bytes in
    let room : length bytes ≤ size = omega arith in
    rw (long, same) (rw (take_all size bytes room) (ap (λ (k : ℕ). bytes ++ replicate (k - length bytes) 0) is))
