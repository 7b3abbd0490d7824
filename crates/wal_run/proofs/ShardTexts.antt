-- The envelopes of a shard, and of the shards in turn.
use Rattle.wal_run.proofs.Common.{◌≡◌, ℕ, zero, suc, zero-add, ◌+◌, ◌-◌, ◌*◌, ◌<◌, ◌≤◌, List, [], ◌∷◌, ◌++◌, length, take, drop, min, append_assoc, append-nil, refl, sym, ap, ap₂, ◌∙◌, arith, flat_map-append, flat_map, range_with_len, Primary, Secondary, BlobShape, IsShape, shard_count, row_count, column_count, symbol_size, most_bytes, held_index, column_part, primary_of, row_of, secondary_of, symbol, row_of-symbol, Buffer, appended, envelope, sliver_frame, shard_text}
use Rattle.std.proofs.Math.Nat.{mul_comm, mul-le-mul_right, mul-le-mul_left}
use Rattle.std.specs.Int.{w16, w32}
use Rattle.wal_shape.specs.Spelling.{number_text}
use Rattle.wal_shape.proofs.ShapeLaws.{matrix_bytes-bound}
use Rattle.wal_matrix.proofs.Symbols.{column_more}
use Rattle.wal_shard.proofs.ReplyLaws.{appended_then}

-- the two envelopes of a shard
pub shard_parts : (id : List ℕ) (shape : BlobShape) (e : List ℕ) (shard i j : ℕ)
    → i ≡ held_index shape.format shape.f Primary shard → j ≡ held_index shape.format shape.f Secondary shard
    → shard_text id shape e shard
    ≡ envelope shard (sliver_frame id Primary i (primary_of shape.f (symbol_size shape.f shape.length) e i))
    ++ envelope shard (sliver_frame id Secondary j (secondary_of shape.f (symbol_size shape.f shape.length) e j))
unfolding shard_text
shard_parts id shape e shard i j i_is j_is =
    rw (i_is, j_is) refl

-- a sliver has no more bytes than the longest blob
pub sliver_fits : (f length count long : ℕ) → IsShape f length → count ≤ column_count f → long ≡ count * symbol_size f length → long ≤ most_bytes
sliver_fits f length count long fit few is =
    let n = shard_count f in
    let s = symbol_size f length in
    let square : n * 4 ≤ n * n = mul-le-mul_left n (omega (arith, fit.0)) in
    let fifth : 5 * count ≤ n * n = omega (arith, square, few, fit.0) in
    let within : 5 * count * s ≤ n * n * s = mul-le-mul_right s fifth in
    let parts : 5 * count * s ≡ 5 * (count * s) = omega arith in
    omega (arith, within, parts, is, matrix_bytes-bound f length fit)

-- what stands before a sliver in its envelope, and a sliver behind it
pub envelope_joins : (shard size : ℕ) (front head bytes frame : List ℕ) → front ≡ 0x57 ∷ (number_text w16 shard ++ number_text w32 size)
    → head ++ bytes ≡ frame → length frame ≡ size → (front ++ head) ++ bytes ≡ envelope shard frame
envelope_joins shard size front head bytes frame is joins long =
    let parts = append_assoc (number_text w16 shard) (number_text w32 size) frame in
    rw (append_assoc front head bytes, joins, is, long, parts) refl

-- the numbers before a place, and those from it on
pub range-split : (a i m k : ℕ) → k ≡ i + m → range_with_len a k ≡ range_with_len a i ++ range_with_len (a + i) m
range-split a zero m k e = let k_is : k ≡ m = omega (arith, e) in let a_is : a ≡ a + 0 = omega arith in ap₂ (λ (x y : ℕ). range_with_len x y) a_is k_is
range-split a (suc i) m zero e = let no : ⊥ = omega (arith, e) in absurd no
range-split a (suc i) m (suc k) e =
    let next : a + 1 + i ≡ a + suc i = omega arith in
    rw (range-split (a + 1) i m k (omega (arith, e)), next) refl

-- the piece of one place, between those before it and those after it
pub flat_map-split : (f : ℕ → List ℕ) (n i : ℕ) → i < n
    → flat_map f (range_with_len 0 n) ≡ flat_map f (range_with_len 0 i) ++ (f i ++ flat_map f (range_with_len (i + 1) (n - (i + 1))))
flat_map-split f n i within =
    let parts = range-split 0 i (suc (n - (i + 1))) n (omega (arith, within)) in
    rw (parts, zero-add i, flat_map-append f (range_with_len 0 i)) refl

-- a column's symbols are laid behind what a buffer holds: none
pub laid_none : (b : Buffer) (n s : ℕ) (e : List ℕ) (c : ℕ) → b ≡ appended b (column_part n s e 0 c)
unfolding column_part
laid_none b n s e c =
    let room : b.spare - 0 ≡ b.spare = omega arith in rw (append-nil b.bytes, room) refl

-- one more
pub laid_more : (old now new : Buffer) (n s : ℕ) (e : List ℕ) (row c : ℕ) (piece : List ℕ) → now ≡ appended old (column_part n s e row c)
    → piece ≡ symbol n s e row c → new ≡ appended now piece → new ≡ appended old (column_part n s e (row + 1) c)
laid_more old now new n s e row c piece before own put =
    rw (put, before, own, column_more n s e row c) (appended_then old (column_part n s e row c) (symbol n s e row c))

-- the symbols of a secondary sliver
abbrev pub column_text : ℕ → ℕ → List ℕ → ℕ → ℕ → List ℕ
column_text f s e c row = column_part (shard_count f) s e row c

pub column_text-none : (f s : ℕ) (e : List ℕ) (c : ℕ) → column_text f s e c 0 ≡ []
unfolding column_part
column_text-none f s e c = refl

pub column_text-more : (f s : ℕ) (e : List ℕ) (c row : ℕ) (piece : List ℕ) → piece ≡ symbol (shard_count f) s e row c
    → column_text f s e c row ++ piece ≡ column_text f s e c (row + 1)
column_text-more f s e c row piece own = rw own (sym (column_more (shard_count f) s e row c))

pub column_text-all : (f s : ℕ) (e : List ℕ) (c row : ℕ) → row ≡ row_count f → column_text f s e c row ≡ secondary_of f s e c
unfolding secondary_of
column_text-all f s e c row all = ap (λ (k : ℕ). column_part (shard_count f) s e k c) all

-- a secondary sliver, of which the symbols above a row and that one stand apart
pub column_split : (f s : ℕ) (e : List ℕ) (row c : ℕ) (piece : List ℕ) → row < row_count f → piece ≡ symbol (shard_count f) s e row c
    → secondary_of f s e c ≡ column_text f s e c row
    ++ (piece ++ flat_map (λ r. symbol (shard_count f) s e r c) (range_with_len (row + 1) (row_count f - (row + 1))))
unfolding secondary_of column_part
column_split f s e row c piece within own =
    rw own (flat_map-split (λ r. symbol (shard_count f) s e r c) (row_count f) row within)

-- a symbol of a row that is at hand
pub symbol_of_row : (n s size start end : ℕ) (e row : List ℕ) (r c : ℕ) → c < n → size ≡ s → row ≡ row_of n s e r → start ≡ c * size → end ≡ start + size
    → take (end - start) (drop start row) ≡ symbol n s e r c
symbol_of_row n s size start end e row r c h size_is row_is starts ends =
    let long : end - start ≡ s = omega (arith, size_is, ends) in
    let at : start ≡ s * c = starts ∙ ap (λ (k : ℕ). c * k) size_is ∙ mul_comm c s in
    rw (long, at, row_is) (row_of-symbol n s e r c h)

-- room for short symbols
pub laid_short : (k s : ℕ) → s < 8192 → k * s ≡ k * min s 8192
laid_short k s short = let same : s ≡ min s 8192 = omega arith in ap (λ (z : ℕ). k * z) same
