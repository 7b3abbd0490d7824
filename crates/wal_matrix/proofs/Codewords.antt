-- Runs of bytes, and consecutive indices.
use Rattle.wal_matrix.proofs.Common.{◌≡◌, ℕ, ◌+◌, ◌*◌, ◌<◌, List, ◌++◌, length, take, drop, get_or, sym, ◌∙◌, arith, subst, ⊎_elim, range_with_len, get_or-take, get_or-drop, get_or_past, drop_at, drop-drop, get_or-range_with_len, length-range_with_len, cases_lt, IsWord, Distinct, word_at, region}
use Rattle.std.proofs.lemmas.List.{length-take}

-- every entry of a list is a byte
abbrev pub AreBytes : List ℕ → Type 0
AreBytes xs = (i : ℕ) → get_or xs i 0 < 256

-- a part of a list of bytes
pub bytes_of_part : (size at : ℕ) (xs : List ℕ) → AreBytes xs → AreBytes (take size (drop at xs))
bytes_of_part size at xs bytes i =
    ⊎_elim
    (λ early. let e = get_or-take size (drop at xs) i 0 early ∙ get_or-drop at xs i 0 in subst (λ (v : ℕ). v < 256) (sym e) (bytes (at + i)))
    (λ past.
    let short = length-take size (drop at xs) in
    let e = get_or_past (take size (drop at xs)) i 0 (omega arith) in omega arith)
    (cases_lt i size)

-- two bytes are a word
pub word_of_bytes : (xs : List ℕ) (w : ℕ) → AreBytes xs → IsWord (word_at xs w)
word_of_bytes xs w bytes = let a = bytes (2 * w) in let b = bytes (2 * w + 1) in omega arith

-- a run of what follows the front
pub region_after : (s i known : ℕ) (front back : List ℕ) → length front ≡ known * s → region s (front ++ back) (known + i) ≡ region s back i
region_after s i known front back long =
    let place : s * (known + i) ≡ known * s + s * i = omega arith in
    cc (place, drop-drop (s * i) (known * s) (front ++ back), drop_at front back (known * s) long)

-- consecutive indices are distinct
pub range_distinct : (a n : ℕ) → Distinct (range_with_len a n)
range_distinct a n i j d h l e =
    let long = length-range_with_len a n in
    let below : j < n = omega arith in
    let x = get_or-range_with_len a n i d (omega arith) in
    let y = get_or-range_with_len a n j d below in
    omega arith
