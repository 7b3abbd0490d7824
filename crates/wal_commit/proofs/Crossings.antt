-- The symbol of an opening and the own symbol of a matrix, under the root of one line.
use Rattle.wal_commit.proofs.Common.{◌≡◌, ◌≢◌, ℕ, ◌+◌, ◌*◌, ◌/◌, ◌<◌, ◌≤◌, List, length, sym, ap, ◌∙◌, arith, mul-div_left, mul-le-mul_right, region, Axis, Opening, BlobShape, crossing, shard_count, symbol_size, IsPathTo, LeadToOneRoot, path_over, root_over, line_of, run_fits, line_long, lines_cross, HoldsOpening, metadata_over}
use Rattle.wal_commit.proofs.HonestOpenings.{path_to_symbol, root_of_line}

-- as many pieces as there are shards are a content that a tree takes
pub some : (n s long : ℕ) → 1 ≤ n → long ≡ n * s → s ≤ long
some n s long many e = let room : 1 * s ≤ n * s = mul-le-mul_right s many in omega (arith, room)

-- a line of n symbols is at most as long as one of a thousand
pub within : (n s long : ℕ) → n ≤ 1000 → long ≡ n * s → long ≤ 1000 * s
within n s long few e = let room : n * s ≤ 1000 * s = mul-le-mul_right s few in omega (arith, room)

-- a part lies within the parts
pub part_within : (place count size long : ℕ) → place < count → long ≡ count * size → size * place + size ≤ long
part_within place count size long below e = let fits = run_fits place count size below in omega (arith, fits, e)

-- the bytes of a line
pub line_size : (axis : Axis) (f s size : ℕ) (e line given : List ℕ) (i : ℕ) → length e ≡ shard_count f * shard_count f * s → i < shard_count f →
    line ≡ line_of axis f s e i → given ≡ line → size ≡ s → length given ≡ shard_count f * size
line_size axis f s size e line given i long below line_is given_is size_is =
    ap length (given_is ∙ line_is) ∙ line_long axis f s e i long below ∙ ap (λ t. shard_count f * t) (sym size_is)

-- its symbols
pub line_count : (n size long place : ℕ) → 0 < size → long ≡ n * size → place < n → place < long / size
line_count n size long place some long_is below =
    let count : long / size ≡ n = ap (λ l. l / size) long_is ∙ mul-div_left n some in omega (arith, count)

-- the path of a given symbol and that of a line's own symbol lead to the line's root
pub symbols_meet : (digest : List ℕ → List ℕ) (size_is : (text : List ℕ) → length (digest text) ≡ 32) (n s count size index : ℕ) (word line own way symbol path : List ℕ) →
    count ≡ n → size ≡ s → line ≡ word → length word ≡ n * s → 0 < s → index < n → own ≡ region size line index → way ≡ path_over digest size line index →
    IsPathTo digest (root_over digest s word) n index symbol path → LeadToOneRoot digest count index symbol path own way
symbols_meet digest size_is n s count size index word line own way symbol path count_is s_is line_is long some below own_is way_is given =
    let right = path_to_symbol digest size_is n s index word some long below in
    rw (count_is, own_is, way_is, s_is, line_is) (record { root = root_over digest s word; left = given; right = right })

-- an opening that the metadata over a matrix commits leads to the root of the line that crosses the target there
pub opening_leads : (digest : List ℕ → List ℕ) (shape : BlobShape) (e : List ℕ) (axis : Axis) (index : ℕ) (o : Opening)
    → HoldsOpening digest (metadata_over digest shape e) axis index o
    → IsPathTo digest (root_over digest (symbol_size shape.f shape.length) (line_of (crossing axis) shape.f (symbol_size shape.f shape.length) e o.cross))
    (shard_count shape.f) index o.symbol o.path
unfolding metadata_over
opening_leads digest shape e axis index o holds =
    let line = line_of (crossing axis) shape.f (symbol_size shape.f shape.length) e o.cross in
    let root = root_over digest (symbol_size shape.f shape.length) line in
    let one : holds.root ≡ root = cc (holds.committed, root_of_line digest (crossing axis) shape e o.cross holds.cross) in
    rw one at holds.leads

-- its target and its cross are shards'
pub opening_within : (digest : List ℕ → List ℕ) (shape : BlobShape) (e : List ℕ) (axis : Axis) (index : ℕ) (o : Opening)
    → HoldsOpening digest (metadata_over digest shape e) axis index o → (index < shard_count shape.f) × (o.cross < shard_count shape.f)
unfolding metadata_over
opening_within digest shape e axis index o holds = (holds.within, holds.cross)

-- a symbol that is not that of the target's line is not that of the crossing line
pub symbols_apart : (axis : Axis) (f s size index cross : ℕ) (e line own symbol : List ℕ) → length e ≡ shard_count f * shard_count f * s → index < shard_count f → cross < shard_count f →
    size ≡ s → line ≡ line_of (crossing axis) f s e cross → own ≡ region size line index → symbol ≢ region s (line_of axis f s e index) cross → symbol ≢ own
symbols_apart axis f s size index cross e line own symbol long index_below cross_below size_is line_is own_is apart same =
    apart (same ∙ rw (own_is, size_is, line_is) (sym (lines_cross axis f s e index cross long index_below cross_below)))
