-- The spelling of a metadata in its two parts, and the pairs of roots one after the other.
use Rattle.wal_commit.proofs.Common.{◌≡◌, ℕ, ◌+◌, ◌-◌, ◌*◌, ◌<◌, List, [], ◌∷◌, ◌++◌, length, length-append, get_or, map, take, drop, reverse, refl, sym, subst, ◌∙◌, ap, append_assoc, arith, length-map-range_with_len, get_or-map-range_with_len, take_at, drop_at, length-reverse, get_or-reverse, same_lists, AllByRecursion, flat_map, range_with_len, Secondary, Format, One, Two, BlobShape, IsShape, shard_count, symbol_size, BlobMetadata, IsMetadata, held_index, held_order, format_text, pairs_text, metadata_text, text_size, length-metadata_text, root_over, length-root_over, row_of, column_of, pieces_more, IsMetadataOf, head_text, held_pairs, metadata_over, pair_over}

pub metadata_text-parts : (m : BlobMetadata) → metadata_text m ≡ head_text m.format m.f m.length ++ held_pairs m
unfolding metadata_text
metadata_text-parts m = refl

pub length-head : (format : Format) (f n : ℕ) → length (head_text format f n) ≡ length (format_text format) + 10
length-head One f n = refl
length-head Two f n = refl

-- the bytes before the pairs, of which there are so many, and the pairs
pub head_is : (m : BlobMetadata) (k : ℕ) → k ≡ length (format_text m.format) + 10 → take k (metadata_text m) ≡ head_text m.format m.f m.length
head_is m k e =
    ap (take k) (metadata_text-parts m) ∙ take_at (head_text m.format m.f m.length) (held_pairs m) k (length-head m.format m.f m.length ∙ sym e)

-- behind the format and ten bytes, metadata has the text of its pairs
pub pairs_are : (m : BlobMetadata) (k : ℕ) → k ≡ length (format_text m.format) + 10 → drop k (metadata_text m) ≡ held_pairs m
pairs_are m k e =
    ap (drop k) (metadata_text-parts m) ∙ drop_at (head_text m.format m.f m.length) (held_pairs m) k (length-head m.format m.f m.length ∙ sym e)

-- the pairs of two lists that are made in step
pub pairs_text-map : (f g : ℕ → List ℕ) (xs : List ℕ) → pairs_text (map f xs) (map g xs) ≡ flat_map (λ i. f i ++ g i) xs
unfolding pairs_text
pairs_text-map f g [] = refl
pairs_text-map f g (x ∷ xs) = ap (λ l. f x ++ g x ++ l) (pairs_text-map f g xs)

-- the pieces of one more number
pub flat_map-more : (f : ℕ → List ℕ) (n : ℕ) → flat_map f (range_with_len 0 (n + 1)) ≡ flat_map f (range_with_len 0 n) ++ f n
flat_map-more f n = pieces_more f n

-- secondary roots that are made by their index stand in the order of the shards that hold them
pub held_order-map : (format : Format) (f : ℕ) (g : ℕ → List ℕ)
    → held_order format (map g (range_with_len 0 (shard_count f))) ≡ map (λ i. g (held_index format f Secondary i)) (range_with_len 0 (shard_count f))
held_order-map One f g = refl
held_order-map Two f g =
    let n = shard_count f in
    let made = map g (range_with_len 0 n) in
    let h : ℕ → List ℕ = λ i. g (n - 1 - i) in
    let long : length made ≡ n = length-map-range_with_len g 0 n in
    same_lists (reverse made) (map h (range_with_len 0 n)) (length-reverse made ∙ long ∙ sym (length-map-range_with_len h 0 n))
    (λ k d lt.
    let within : k < n = omega (arith, lt, length-reverse made, long) in
    get_or-reverse made k d (omega (arith, within, long))
    ∙ ap (λ (l : ℕ). get_or made (l - 1 - k) d) long
    ∙ get_or-map-range_with_len g 0 n (n - 1 - k) (n - 1 - k) d (omega (arith, within)) (omega arith)
    ∙ sym (get_or-map-range_with_len h 0 n k k d within (omega arith)))

-- the spelling of the metadata over a matrix
pub metadata_text-over : (digest : List ℕ → List ℕ) (shape : BlobShape) (e : List ℕ)
    → metadata_text (metadata_over digest shape e) ≡ head_text shape.format shape.f shape.length ++ flat_map (pair_over digest shape e) (range_with_len 0 (shard_count shape.f))
unfolding metadata_text metadata_over
metadata_text-over digest shape e =
    let n = shard_count shape.f in
    let s = symbol_size shape.f shape.length in
    let row : ℕ → List ℕ = λ i. root_over digest s (row_of n s e i) in
    let column : ℕ → List ℕ = λ j. root_over digest s (column_of n s e j) in
    let head = head_text shape.format shape.f shape.length in
    ap (λ (roots : List (List ℕ)). head ++ pairs_text (map row (range_with_len 0 n)) roots) (held_order-map shape.format shape.f column)
    ∙ ap (λ l. head ++ l) (pairs_text-map row (λ i. column (held_index shape.format shape.f Secondary i)) (range_with_len 0 n))

size_parts : (format : Format) (f : ℕ) → text_size format f ≡ length (format_text format) + 10 + 64 * shard_count f
size_parts One f = refl
size_parts Two f = omega arith

-- the bytes of the pairs, of which there is one for each shard
pub length-pairs : (m : BlobMetadata) → IsMetadata m → length (held_pairs m) ≡ 64 * shard_count m.f
length-pairs m is =
    let head = head_text m.format m.f m.length in
    let parts : length (metadata_text m) ≡ length head + length (held_pairs m) = ap length (metadata_text-parts m) ∙ length-append head (held_pairs m) in
    omega (arith, parts, length-metadata_text m is, size_parts m.format m.f, length-head m.format m.f m.length)

-- each list that f makes has this length
pub made_all : (f : ℕ → List ℕ) (size : ℕ) → ((i : ℕ) → length (f i) ≡ size) → (xs : List ℕ) → AllByRecursion (λ root. length root ≡ size) (map f xs)
made_all f size each [] = tt
made_all f size each (x ∷ xs) = (each x, made_all f size each xs)

-- roots that are made one for each shard
pub IsMetadata-over : (digest : List ℕ → List ℕ) → ((text : List ℕ) → length (digest text) ≡ 32) → (shape : BlobShape) (e : List ℕ) → IsShape shape.f shape.length
    → IsMetadata (metadata_over digest shape e)
unfolding metadata_over
IsMetadata-over digest size shape e is =
    let n = shard_count shape.f in
    let s = symbol_size shape.f shape.length in
    let row = λ (i : ℕ). root_over digest s (row_of n s e i) in
    let column = λ (i : ℕ). root_over digest s (column_of n s e i) in
    record {
      shape = is;
      primary = record { count = length-map-range_with_len row 0 n; size = made_all row 32 (λ i. length-root_over digest size s (row_of n s e i)) (range_with_len 0 n) };
      secondary = record { count = length-map-range_with_len column 0 n; size = made_all column 32 (λ i. length-root_over digest size s (column_of n s e i)) (range_with_len 0 n) };
    }

-- the metadata of bytes is one
pub honest_metadata : (digest : List ℕ → List ℕ) → ((text : List ℕ) → length (digest text) ≡ 32) → (format : Format) (f : ℕ) (bytes : List ℕ) (m : BlobMetadata)
    → IsMetadataOf digest format f bytes m → IsMetadata m
honest_metadata digest size format f bytes m is =
    let shape : BlobShape = record { format = format; f = f; length = length bytes } in
    subst IsMetadata (sym is.2) (IsMetadata-over digest size shape is.0 is.3)

pub metadata_size : (m : BlobMetadata) → IsMetadata m → length (metadata_text m) ≡ length (format_text m.format) + 10 + 64 * shard_count m.f
metadata_size m is = length-metadata_text m is ∙ size_parts m.format m.f

-- one more pair is spelled
pub pairs_step : (f : ℕ → List ℕ) (head old new : List ℕ) (i : ℕ) → old ≡ head ++ flat_map f (range_with_len 0 i) → new ≡ old ++ f i
    → new ≡ head ++ flat_map f (range_with_len 0 (i + 1))
pairs_step f head old new i was is =
    is ∙ ap (λ l. l ++ f i) was ∙ append_assoc head (flat_map f (range_with_len 0 i)) (f i) ∙ ap (λ l. head ++ l) (sym (flat_map-more f i))
