-- The levels of a tree as they are made, and the path that is copied from them.
use Rattle.wal_challenge.proofs.Common.{◌≡◌, ℕ, suc, ◌+◌, ◌*◌, ◌/◌, ◌%◌, ◌<◌, ◌≤◌, List, [], ◌∷◌, ◌++◌, length, take, drop, replicate, get_or, refl, sym, ap, ◌∙◌, arith, ⊎_elim, length-append, append_assoc, append-nil, concat, cases_lt, drop-append-le, get_or_past, take-append-le, length-drop, length-replicate, slice_get_read, beside, path_of, path_over, empty_entry, leaves, pair_up, pieces, level_above, length-pieces, pair_up-odd, pieces-append, pieces-more, length-pair_up-half, level_above-next, path_of-end, path_of-step, FirstLevels, IsLevel, evened}
use Rattle.std.proofs.Math.Seq.{drop-append_seam}
use Rattle.wal_tree.proofs.Leaves.{get_or-pieces}
use Rattle.wal_tree.proofs.Sizes.{All-leaves, All-path_of, length-concat}
use Rattle.wal_challenge.proofs.Lists.{each_more}

-- an even number of entries is left as it is
even_same : (bytes : List ℕ) → length bytes % 64 ≡ 0 → evened bytes ≡ bytes
even_same bytes even = ap (λ n. bytes ++ replicate n 0) even ∙ append-nil bytes

odd_more : (bytes : List ℕ) → length bytes % 64 ≡ 32 → evened bytes ≡ bytes ++ empty_entry
odd_more bytes odd = ap (λ n. bytes ++ replicate n 0) odd

-- the bytes of a level that was evened
pub evened_long : (width : ℕ) (bytes : List ℕ) → length bytes ≡ 32 * width → length (evened bytes) ≡ 64 * ((width + 1) / 2)
evened_long width bytes long = omega (arith, long, length-append bytes (replicate (length bytes % 64) 0), length-replicate {A = ℕ} (length bytes % 64) 0)

-- the entries of the level above are those of the pairs, whether they were evened or not
pub evened_pairs : (digest : List ℕ → List ℕ) (width : ℕ) (bytes : List ℕ) → length bytes ≡ 32 * width
    → pair_up digest (pieces (2 * ((width + 1) / 2)) 32 (evened bytes)) ≡ pair_up digest (pieces width 32 bytes)
evened_pairs digest width bytes long =
    ⊎_elim
    (λ low.
    let even : length bytes % 64 ≡ 0 = omega (arith, long, low) in
    let count : 2 * ((width + 1) / 2) ≡ width = omega (arith, low) in
    cc (count, even_same bytes even))
    (λ high.
    let odd : length bytes % 64 ≡ 32 = omega (arith, long, high) in
    let count : 2 * ((width + 1) / 2) ≡ suc width = omega (arith, high) in
    let half : width ≡ 2 * (width / 2) + 1 = omega (arith, high) in
    let at : width * 32 ≡ length bytes = omega (arith, long) in
    let last : take 32 (drop (width * 32) (bytes ++ empty_entry)) ≡ empty_entry = rw (at, drop-append_seam bytes empty_entry) in
    let front = pieces-append width bytes empty_entry (omega (arith, long)) in
    let paired = pair_up-odd digest (width / 2) (pieces width 32 bytes) (length-pieces width 32 bytes ∙ half) in
    cc (count, odd_more bytes odd, pieces-more width 32 (bytes ++ empty_entry), front, last, paired))
    (cases_lt (width % 2) 1)

-- the bytes of more than one entry, evened, are a level
pub evened_level : (entries : List (List ℕ)) (width : ℕ) (bytes : List ℕ) → length bytes ≡ 32 * width → pieces width 32 bytes ≡ entries → 1 < width → IsLevel entries (evened bytes)
evened_level entries width bytes long are many =
    let wide : length entries ≡ width = sym (ap length are) ∙ length-pieces width 32 bytes in
    let zeros : List ℕ = replicate (length bytes % 64) 0 in
    record {
      many = omega (arith, wide, many);
      long = evened_long width bytes long ∙ ap (λ n. 64 * ((n + 1) / 2)) (sym wide);
      each = λ i within.
          ⊎_elim
          (λ before.
          let room : 32 * i + 32 ≤ length bytes = omega (arith, long, before) in
          ap (take 32) (drop-append-le (32 * i) bytes zeros (omega (arith, room)))
          ∙ take-append-le 32 (drop (32 * i) bytes) zeros (omega (arith, room, length-drop (32 * i) bytes))
          ∙ sym (get_or-pieces width 32 i bytes before) ∙ ap (λ (es : List (List ℕ)). get_or es i empty_entry) are)
          (λ past.
          let all : length (evened bytes) ≡ 64 * ((width + 1) / 2) = evened_long width bytes long in
          let odd : length bytes % 64 ≡ 32 = omega (arith, long, all, within, past) in
          let at : 32 * i ≡ length bytes = omega (arith, long, all, within, past) in
          ap (λ (b : List ℕ). take 32 (drop (32 * i) b)) (odd_more bytes odd)
          ∙ ap (λ n. take 32 (drop n (bytes ++ empty_entry))) at ∙ ap (take 32) (drop-append_seam bytes empty_entry)
          ∙ sym (get_or_past entries i empty_entry (omega (arith, wide, past))))
          (cases_lt i width);
    }

-- one level more
pub first_more : (digest : List ℕ → List ℕ) (entries levels : List (List ℕ)) (bytes : List ℕ) → FirstLevels digest entries levels
    → IsLevel (level_above digest (length levels) entries) bytes → FirstLevels digest entries (levels ++ bytes ∷ [])
first_more digest entries levels bytes first is = each_more (λ k b. IsLevel (level_above digest k entries) b) levels bytes first is

-- the entry beside a place of a level
pub beside_within : (entries : List (List ℕ)) (bytes : List ℕ) (at : ℕ) → IsLevel entries bytes → at < length entries → 32 * beside at + 32 ≤ length bytes
beside_within entries bytes at is within = grind arith

-- one more sibling is copied, and the path goes on from the parent
pub path_more : (digest : List ℕ → List ℕ) (entries : List (List ℕ)) (level at : ℕ) (bytes old new whole : List ℕ) → IsLevel (level_above digest level entries) bytes
    → at < length (level_above digest level entries) → whole ≡ old ++ concat (path_of digest (level_above digest level entries) at)
    → new ≡ old ++ take 32 (drop (32 * beside at) bytes) → whole ≡ new ++ concat (path_of digest (level_above digest (level + 1) entries) (at / 2))
path_more digest entries level at bytes old new whole is within so_far new_is =
    let here = level_above digest level entries in
    let sibling = get_or here (beside at) empty_entry in
    let rest = concat (path_of digest (pair_up digest here) (at / 2)) in
    let step = ap concat (path_of-step digest here at is.many) in
    let copied = is.each (beside at) (beside_within here bytes at is within) in
    let up = level_above-next digest level (level + 1) entries refl in
    cc (so_far, step, append_assoc old sibling rest, copied, new_is, up)

-- the parent's place is one of its level
pub parent_within : (digest : List ℕ → List ℕ) (entries : List (List ℕ)) (level at : ℕ) → at < length (level_above digest level entries)
    → at / 2 < length (level_above digest (level + 1) entries)
parent_within digest entries level at within =
    let here = level_above digest level entries in
    let up : length (level_above digest (level + 1) entries) ≡ (length here + 1) / 2 = ap length (level_above-next digest level (level + 1) entries refl) ∙ length-pair_up-half digest here in
    omega (arith, up, within)

-- below the root there is no sibling left
pub path_end : (digest : List ℕ → List ℕ) (entries : List (List ℕ)) (at : ℕ) (out whole : List ℕ) → length entries ≤ 1
    → whole ≡ out ++ concat (path_of digest entries at) → out ≡ whole
path_end digest entries at out whole few is = sym (is ∙ ap (λ (p : List (List ℕ)). out ++ concat p) (path_of-end digest entries at few) ∙ append-nil out)

-- the entries above a level that was evened
pub above_evened : (digest : List ℕ → List ℕ) (level given above : List ℕ) → length level % 32 ≡ 0 → given ≡ evened level → length above ≡ length given / 64 * 32
    → pieces (length given / 64) 32 above ≡ pair_up digest (pieces (2 * (length given / 64)) 32 given)
    → pieces (length above / 32) 32 above ≡ pair_up digest (pieces (length level / 32) 32 level)
above_evened digest level given above whole given_is long joined =
    let width = length level / 32 in
    let all : length level ≡ 32 * width = omega (arith, whole) in
    let size : length given ≡ 64 * ((width + 1) / 2) = ap length given_is ∙ evened_long width level all in
    let half : length given / 64 ≡ (width + 1) / 2 = omega (arith, size) in
    let count : length above / 32 ≡ length given / 64 = omega (arith, long) in
    cc (count, joined, half, given_is, evened_pairs digest width level all)

-- a level that is kept
pub level_at : (digest : List ℕ → List ℕ) (entries levels : List (List ℕ)) (k : ℕ) (bytes given : List ℕ) → FirstLevels digest entries levels → k < length levels
    → bytes ≡ get_or levels k bytes → given ≡ bytes → IsLevel (level_above digest k entries) given
level_at digest entries levels k bytes given first within bytes_is given_is =
    rw given_is (first k bytes (slice_get_read levels (length levels) k bytes refl within bytes_is))

-- a path is whole digests
pub path_whole : (digest : List ℕ → List ℕ) (size_is : (text : List ℕ) → length (digest text) ≡ 32) (size place : ℕ) (content path : List ℕ)
    → path ≡ path_over digest size content place → length path % 32 ≡ 0
path_whole digest size_is size place content path is =
    let count = length content / size in
    let siblings = path_of digest (leaves digest count size content) place in
    let long = length-concat 32 siblings (All-path_of digest size_is (leaves digest count size content) place (All-leaves digest size_is count size content)) in
    omega (arith, ap length is, long)
