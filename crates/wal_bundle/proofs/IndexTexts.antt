-- The text of an index tells the number and the lengths of members; behind its columns stand the members' columns.
use Rattle.wal_bundle.proofs.Common.{◌≡◌, ℕ, ◌+◌, ◌*◌, ◌^◌, ◌<◌, ◌≤◌, List, ◌++◌, zero-add, length, take, drop, map, get_or, refl, sym, ap, ◌∙◌, arith, length-append, w16, w32, from_be_bytes, range_with_len, append_assoc, take-take, ext_get_or, length-map, get_or-map-range_with_len, length-range_with_len, drop-append-add, cell_count, number_text, length-pieces, part_of_part, pieces_more, piece_at, column_bytes, entries_text, entry_text, first_column, index_bytes, index_text, IsIndex, count_in, spelled_length, spelled_lengths, ◌-◌, [], ◌∷◌, zero, suc, replicate, flat_map, length-replicate, take_all, take_at, get_or-map, take-map, mul-le-mul_right, region, run_fits, columns_for, columns_text, index_columns, lengths_of, member_columns, used_columns, whole_columns}
use Rattle.wal_shape.proofs.Numbers.{wide16, wide32}
use Rattle.wal_bundle.proofs.Room.{length_within, columns_for-room, member_columns-cons, member_within}

-- an index has its bytes
pub index_long : (size : ℕ) (lengths : List ℕ) → length (index_text size lengths) ≡ index_bytes (length lengths)
unfolding index_text entry_text
index_long size lengths =
    simp (length-append, wide16.len) (omega (arith, length-pieces (entry_text size lengths) 6 (length lengths) (λ k _. refl)))

-- what is read of columns that begin with an index: the number of members
pub index_count : (f s : ℕ) (columns lengths : List ℕ) → f ≤ 333 → IsIndex f s columns lengths → count_in columns ≡ length lengths
unfolding count_in index_text
index_count f s columns lengths faults is =
    rw (← take-take 2 (index_bytes (length lengths)) columns (omega arith), is.text)
    (wide16.again (length lengths) (omega (arith, is.few)))

-- entry k tells the length of member k
length_read : (size : ℕ) (lengths : List ℕ) (k : ℕ) → k < length lengths → get_or lengths k 0 < 2 ^ 32
    → spelled_length (index_text size lengths) k ≡ get_or lengths k 0
unfolding index_text entry_text spelled_length
length_read size lengths k h small =
    let entries = entries_text size lengths (length lengths) in
    let own = number_text w32 (get_or lengths k 0) in
    let place : 4 + 6 * k ≡ 2 + (k * 6 + 2) = omega arith in
    let entry : take 6 (drop (k * 6) entries) ≡ number_text w16 (first_column size lengths k) ++ own =
    piece_at (entry_text size lengths) 6 (length lengths) k (λ i _. refl) h in
    let seam = drop-append-add (number_text w16 (length lengths)) entries (k * 6 + 2) in
    let part : take 4 (drop (4 + 6 * k) (index_text size lengths)) ≡ own =
    cc (seam, part_of_part 4 2 6 (k * 6) entries (omega arith)) in
    ap (from_be_bytes w32) part ∙ wide32.again (get_or lengths k 0) small

index_length : (f s : ℕ) (columns lengths : List ℕ) (k : ℕ) → cell_count f * s < 2 ^ 32 → IsIndex f s columns lengths
    → k < length lengths → spelled_length columns k ≡ get_or lengths k 0
unfolding spelled_length
index_length f s columns lengths k fits is h =
    let small = length_within f s lengths k is.size.positive is.size.room h in
    let part = part_of_part 4 (4 + 6 * k) (index_bytes (length lengths)) 0 columns (omega arith) in
    rw (← zero-add (4 + 6 * k), ← part, is.text)
    (length_read (column_bytes f s) lengths k h (omega arith))

-- as many lengths are read as the index tells
pub spelled_count : (columns : List ℕ) {lengths : List ℕ} {n : ℕ} → lengths ≡ spelled_lengths columns n → length lengths ≡ n
unfolding spelled_lengths
spelled_count columns {n = n} is =
    ap length is ∙ length-map (range_with_len 0 n) (spelled_length columns) ∙ length-range_with_len 0 n

-- all lengths
pub lengths_read : (f s : ℕ) (columns lengths : List ℕ) → f ≤ 333 → cell_count f * s < 2 ^ 32 → IsIndex f s columns lengths
    → spelled_lengths columns (count_in columns) ≡ lengths
unfolding spelled_lengths
lengths_read f s columns lengths faults fits is =
    let n = length lengths in
    let long = spelled_count columns {n = n} refl in
    rw (index_count f s columns lengths faults is)
    (ext_get_or 0 (map (spelled_length columns) (range_with_len 0 n)) lengths long
    (λ k h.
    let below : k < n = omega (arith, long) in
    get_or-map-range_with_len (spelled_length columns) 0 n k k 0 below (zero-add k)
    ∙ index_length f s columns lengths k fits is below))

-- columns begin with the index of members of one list of lengths
pub one_index : (f s : ℕ) (columns a b : List ℕ) → f ≤ 333 → cell_count f * s < 2 ^ 32 → IsIndex f s columns a → IsIndex f s columns b → a ≡ b
one_index f s columns a b faults fits is_a is_b = sym (lengths_read f s columns a faults fits is_a) ∙ lengths_read f s columns b faults fits is_b

-- a text of entries that grows
pub entry_added : (size : ℕ) (lengths : List ℕ) (k first : ℕ) (before after : List ℕ) → first ≡ first_column size lengths k
    → before ≡ number_text w16 (length lengths) ++ entries_text size lengths k
    → after ≡ before ++ (number_text w16 first ++ number_text w32 (get_or lengths k 0))
    → after ≡ number_text w16 (length lengths) ++ entries_text size lengths (k + 1)
unfolding entry_text
entry_added size lengths k first before after is text more =
    rw (more, text, is, pieces_more (entry_text size lengths) k)
    (append_assoc (number_text w16 (length lengths)) (entries_text size lengths k) (entry_text size lengths k))

-- ---- the columns of the index and of the members, one after the other

-- whole columns have their bytes, and begin with the bytes that they were made for
whole_long : (size : ℕ) (bytes : List ℕ) → 0 < size
    → length (whole_columns size bytes) ≡ columns_for size (length bytes) * size
unfolding whole_columns
whole_long size bytes some =
    rw (length-append, length-replicate) (omega (arith, columns_for-room size (length bytes) some))

-- the whole columns of some bytes begin with these bytes
pub whole_front : (size : ℕ) (bytes : List ℕ) → take (length bytes) (whole_columns size bytes) ≡ bytes
unfolding whole_columns
whole_front size bytes = take_at bytes (replicate (columns_for size (length bytes) * size - length bytes) 0) (length bytes) refl

-- those of the index
index_wholes : (size : ℕ) (lengths : List ℕ) → 0 < size
    → length (whole_columns size (index_text size lengths)) ≡ index_columns size (length lengths) * size
index_wholes size lengths some = rw (whole_long, index_long)

-- those of all members
no_members : (size : ℕ) → member_columns size [] * size ≡ 0
unfolding member_columns
no_members size = omega arith

wholes_long : (size : ℕ) (members : List (List ℕ)) → 0 < size
    → length (flat_map (whole_columns size) members) ≡ member_columns size (lengths_of members) * size
wholes_long size [] some = sym (no_members size)
wholes_long size (x ∷ members) some =
    rw (length-append, member_columns-cons) (omega (arith, whole_long size x some, wholes_long size members some))

-- the bytes of the columns that are used
pub text_long : (size : ℕ) (members : List (List ℕ)) → 0 < size → length (columns_text size members) ≡ used_columns size (lengths_of members) * size
unfolding columns_text used_columns
text_long size members some = rw (length-append, index_wholes, wholes_long) (omega arith)

-- what stands from a member's first column on
member_behind : (size : ℕ) (members : List (List ℕ)) (k : ℕ) → 0 < size → k < length members
    → drop (member_columns size (take k (lengths_of members)) * size) (flat_map (whole_columns size) members)
    ≡ whole_columns size (get_or members k []) ++ flat_map (whole_columns size) (drop (suc k) members)
member_behind size [] k some h = absurd (omega arith)
member_behind size (x ∷ members) zero some h = rw (no_members size)
member_behind size (x ∷ members) (suc k) some h =
    let before = take k (lengths_of members) in
    let first = whole_columns size x in
    let place : member_columns size (length x ∷ before) * size ≡ length first + member_columns size before * size =
    rw (member_columns-cons, whole_long) (omega arith) in
    rw (place, drop-append-add) (member_behind size members k some (omega arith))

-- the columns of the index
pub index_part : (size : ℕ) (members : List (List ℕ)) → 0 < size
    → take (index_columns size (length (lengths_of members)) * size) (drop (0 * size) (columns_text size members)) ≡ whole_columns size (index_text size (lengths_of members))
unfolding columns_text
index_part size members some =
    let start : 0 * size ≡ 0 = omega arith in
    rw start (take_at _ (flat_map (whole_columns size) members) _ (index_wholes size (lengths_of members) some))

-- the length of a member
pub length_of : (members : List (List ℕ)) (k : ℕ) → k < length members → get_or (lengths_of members) k 0 ≡ length (get_or members k [])
length_of members k h = get_or-map (λ (x : List ℕ). length x) members k [] 0 h

-- the columns of member k
pub member_part : (size : ℕ) (members : List (List ℕ)) (k : ℕ) → 0 < size → k < length members
    → take (columns_for size (get_or (lengths_of members) k 0) * size) (drop (first_column size (lengths_of members) k * size) (columns_text size members))
    ≡ whole_columns size (get_or members k [])
unfolding columns_text first_column
member_part size members k some h =
    let lengths = lengths_of members in
    let index = whole_columns size (index_text size lengths) in
    let before = member_columns size (take k lengths) in
    let place : (index_columns size (length lengths) + before) * size ≡ length index + before * size =
    rw (index_wholes size lengths some) (omega arith) in
    rw (place, drop-append-add, member_behind size members k some h)
    (take_at _ (flat_map (whole_columns size) (drop (suc k) members)) _ (rw (whole_long, length_of members k h)))

-- a column of a part
pub column_of_part : (size start count j : ℕ) (text : List ℕ) → j < count → region size (take (count * size) (drop (start * size) text)) j ≡ region size text (start + j)
column_of_part size start count j text h =
    let place : start * size + size * j ≡ size * (start + j) = omega arith in
    rw (part_of_part size (size * j) (count * size) (start * size) text (omega (arith, run_fits j count size h)), place)

-- ---- a buffer to which whole columns are added

pub whole_added : (size : ℕ) (before bytes laid after : List ℕ) (end len : ℕ) → 0 < size → laid ≡ before ++ bytes → end ≡ length before + columns_for size (length bytes) * size
    → len ≡ length before + length bytes → after ≡ take end laid ++ replicate (end - len) 0 → after ≡ before ++ whole_columns size bytes
unfolding whole_columns
whole_added size before bytes laid after end len some is end_is len_is after_is =
    let room = columns_for-room size (length bytes) some in
    let left : end - len ≡ columns_for size (length bytes) * size - length bytes = omega arith in
    rw (after_is, left, is, take_all end (before ++ bytes) (rw length-append (omega arith)))
    (append_assoc before bytes (replicate (columns_for size (length bytes) * size - length bytes) 0))

-- there is room for the index
pub index_room : (size : ℕ) (members : List (List ℕ)) (index : List ℕ) → index ≡ index_text size (lengths_of members)
    → columns_for size (length index) * size ≤ used_columns size (lengths_of members) * size
unfolding used_columns
index_room size members index is = rw (is, index_long) (omega arith)

-- and for each member
pub member_room : (size : ℕ) (members : List (List ℕ)) (index columns : List ℕ) (k : ℕ) → 0 < size → k < length members → index ≡ index_text size (lengths_of members)
    → columns ≡ whole_columns size index ++ flat_map (whole_columns size) (take k members)
    → length columns + columns_for size (length (get_or members k [])) * size ≤ used_columns size (lengths_of members) * size
unfolding first_column
member_room size members index columns k some h index_is is =
    let count = length-map members (λ (x : List ℕ). length x) in
    let front = take-map (λ (x : List ℕ). length x) k members in
    rw (is, index_is, length-append, index_wholes, wholes_long, ← front, ← length_of members k h)
    (omega (arith, mul-le-mul_right size (member_within size (lengths_of members) k (omega arith))))
