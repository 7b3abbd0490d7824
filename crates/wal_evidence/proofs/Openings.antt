-- The crosses and the symbols of openings, one by one.
use Rattle.wal_evidence.proofs.Common.{◌≡◌, ℕ, ◌+◌, ◌*◌, ◌<◌, ◌≤◌, List, [], ◌∷◌, ◌++◌, length, take, All, Some, slice_get, sym, ap, subst, ◌∙◌, arith, set, AllByRecursion, append-nil, map-append, take_all, take_more, take_more_set, All-nil, All-cons, All-push, get_or_from_slice_get, slice_get_within, Axis, Opening, IsBody, column_count, most_bytes, sliver_symbols, symbol_size, crosses_of, symbols_of}
use Rattle.std.proofs.Math.Nat.{mul-le-mul_left}
use Rattle.std.proofs.lemmas.Grind.{flat_map-append}
use Rattle.std.proofs.lemmas.Slice.{take-put_mid}
use borrow.Rule.Slice.PartMut.{put_mid}
use Rattle.wal_matrix.specs.Tools.{longest_sliver}
use Rattle.wal_matrix.proofs.ToolsLaws.{symbol_size-longest}
use Rattle.wal_evidence.proofs.ProofSizes.{narrow}

-- one more opening of the front of a list
pub front_more : (openings : List Opening) (i : ℕ) (o : Opening) → slice_get openings i ≡ Some o → take (i + 1) openings ≡ take i openings ++ o ∷ []
front_more openings i o is =
    cc (take_more openings i o (slice_get_within openings i o is), get_or_from_slice_get openings i o o is)

pub crosses_more : (openings : List Opening) (o : Opening) → crosses_of (openings ++ o ∷ []) ≡ crosses_of openings ++ o.cross ∷ []
crosses_more openings o = map-append (λ (x : Opening). x.cross) openings (o ∷ [])

pub symbols_more : (openings : List Opening) (o : Opening) → symbols_of (openings ++ o ∷ []) ≡ symbols_of openings ++ o.symbol
symbols_more openings o =
    cc (flat_map-append (λ (x : Opening). x.symbol) openings (o ∷ []), append-nil o.symbol)

-- the crosses of bodies are below 1000
pub crosses_below : (openings : List Opening) → AllByRecursion IsBody openings → All (λ i. i < 1000) (crosses_of openings)
crosses_below [] bodies = All-nil (λ i. i < 1000)
crosses_below (o ∷ openings) bodies =
    let cross = bodies.0.cross in
    All-cons (λ i. i < 1000) o.cross (crosses_of openings) (omega arith) (crosses_below openings bodies.1)

-- one more cross is written
pub cross_written : (openings : List Opening) (crosses : List ℕ) (i : ℕ) (o : Opening) → i < length crosses → slice_get openings i ≡ Some o
    → take i crosses ≡ crosses_of (take i openings) → take (i + 1) (set crosses i o.cross) ≡ crosses_of (take (i + 1) openings)
cross_written openings crosses i o l is before =
    cc (take_more_set crosses i o.cross l, before, front_more openings i o is, crosses_more (take i openings) o)

-- all are
pub crosses_written : (openings : List Opening) (crosses : List ℕ) (i : ℕ) → length openings ≤ i → length crosses ≡ length openings
    → take i crosses ≡ crosses_of (take i openings) → crosses ≡ crosses_of openings
crosses_written openings crosses i all long before =
    sym (take_all i crosses (omega arith)) ∙ before ∙ ap crosses_of (take_all i openings all)

-- one more symbol is written
pub symbol_written : (s : ℕ) (openings : List Opening) (symbols : List ℕ) (i k : ℕ) (o : Opening) (piece : List ℕ) → i * s ≤ length symbols → length piece ≡ s
    → slice_get openings i ≡ Some o → piece ≡ o.symbol → take (i * s) symbols ≡ symbols_of (take i openings)
    → take ((i + 1) * s) (put_mid (i * s) k symbols piece) ≡ symbols_of (take (i + 1) openings)
symbol_written s openings symbols i k o piece room long is own before =
    let put = take-put_mid (i * s) k symbols piece ((i + 1) * s) (omega arith) room in
    cc (put, before, own, front_more openings i o is, symbols_more (take i openings) o)

-- one more opening of which something holds
pub held_more : (P : Opening → Type 0) (openings : List Opening) (i : ℕ) (o : Opening) → slice_get openings i ≡ Some o → All P (take i openings) → P o
    → All P (take (i + 1) openings)
held_more P openings i o is before holds =
    subst (All P) (sym (front_more openings i o is)) (All-push P (take i openings) o before holds)

-- the tools have room for as many symbols as a sliver has
pub symbols_load : (axis : Axis) (f length kept size count : ℕ) → length ≤ most_bytes → kept ≡ f → size ≡ symbol_size f length
    → count ≡ sliver_symbols axis f → size * count ≤ longest_sliver kept
symbols_load axis f length kept size count short kept_is size_is count_is =
    let wide = mul-le-mul_left (column_count f) (symbol_size-longest f length short) in
    let all : symbol_size f length * sliver_symbols axis f ≤ longest_sliver f =
    omega (arith, mul-le-mul_left (symbol_size f length) (narrow axis f), wide) in
    rw (size_is, count_is, kept_is) all
