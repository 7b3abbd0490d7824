-- What is read as metadata is spelled so, and what is spelled so is read: each metadata has one spelling of its own.
use Rattle.wal_shape.proofs.Common.{◌≡◌, ℕ, zero, suc, ◌+◌, ◌-◌, ◌*◌, ◌<◌, ◌≤◌, List, [], ◌∷◌, ◌++◌, length, take, drop, reverse, Some, slice_get, refl, sym, ap, ◌∙◌, append_assoc, arith, AllByRecursion, w16, w64, take_at, drop_at, take-append-drop, length-append, length-take, length-drop, drop-drop, drop-take, take-take, nil_from_length, length-reverse, reverse-reverse, get_or-reverse, reverse-append, cases_eq, ne_eqb, inl, inr, Axis, Primary, Secondary, shard_count, BlobMetadata, AreRoots, IsMetadata, roots_of, held_index, held_order, number_text, pairs_text, format_text, metadata_text, text_size, spelled_format, behind_format, spelled_f, spelled_length, pairs_in, every_root, metadata_in, spelled_metadata}
use Rattle.std.proofs.lemmas.Option.{slice_get-get_or}
use Rattle.wal_shape.specs.declared.shape.Format.{Format}
use Rattle.wal_shape.specs.declared.shape.Format.TheVariants.{One, Two}
use Rattle.wal_shape.specs.inside.MetadataReading.{AreNumbersAndRoots, SpellMetadata, root_place_of}
use Rattle.wal_shape.proofs.Numbers.{IsBytes, IsBytes-drop, IsBytes-take, wide16, wide64}

-- ---- roots

length-every_root : (n : ℕ) (bytes : List ℕ) → length (every_root n bytes) ≡ n
unfolding every_root
length-every_root zero bytes = refl
length-every_root (suc n) bytes = ap suc (length-every_root n (drop 64 bytes))

AreRoots-every_root : (n : ℕ) (bytes : List ℕ) → 64 * n ≤ length bytes + 32 → AreRoots n (every_root n bytes)
unfolding every_root
AreRoots-every_root zero bytes enough = record { count = refl; size = tt }
AreRoots-every_root (suc n) bytes enough =
    let rest = AreRoots-every_root n (drop 64 bytes) (omega (arith, length-drop 64 bytes)) in
    record { count = ap suc rest.count; size = (omega (arith, length-take 32 bytes), rest.size) }

-- root i begins at byte 64 * i
slice_get-every_root : (n i : ℕ) (bytes : List ℕ) → i < n → slice_get (every_root n bytes) i ≡ Some (take 32 (drop (64 * i) bytes))
unfolding every_root
slice_get-every_root zero i bytes lt = absurd (omega arith)
slice_get-every_root (suc n) zero bytes lt = refl
slice_get-every_root (suc n) (suc i) bytes lt =
    rw (slice_get-every_root n i (drop 64 bytes) (omega arith), drop-drop (64 * i) 64 bytes)
    (ap (λ (k : ℕ). Some (take 32 (drop k bytes))) (omega arith))

-- 64 bytes are two roots
two_roots : (bytes : List ℕ) → take 32 bytes ++ take 32 (drop 32 bytes) ≡ take 64 bytes
two_roots bytes =
    rw (← take-take 32 64 bytes (omega arith), ← drop-take 32 32 bytes) (take-append-drop 32 (take 64 bytes))

-- the pairs that are read are spelled as the bytes
pairs_text-every_root : (n : ℕ) (bytes : List ℕ) → length bytes ≡ 64 * n → pairs_text (every_root n bytes) (every_root n (drop 32 bytes)) ≡ bytes
unfolding every_root pairs_text
pairs_text-every_root zero bytes len = sym (nil_from_length bytes (omega arith))
pairs_text-every_root (suc n) bytes len =
    rw (
      drop-drop 64 32 bytes,
      ← drop-drop 32 64 bytes,
      pairs_text-every_root n (drop 64 bytes) (omega (arith, length-drop 64 bytes)),
      two_roots bytes,
      take-append-drop 64 bytes,
    )

-- the roots behind the first
others : {n : ℕ} {root : List ℕ} {roots : List (List ℕ)} → AreRoots (suc n) (root ∷ roots) → AreRoots n roots
others are = record { count = omega (arith, are.count); size = are.size.1 }

-- how long the pairs are that are spelled, and that the roots of either axis are read from them
record ArePairs (n : ℕ) (primary secondary : List (List ℕ)) : Type 0 where
  size : length (pairs_text primary secondary) ≡ 64 * n
  first : every_root n (pairs_text primary secondary) ≡ primary
  second : every_root n (drop 32 (pairs_text primary secondary)) ≡ secondary

pairs-again : (n : ℕ) (primary secondary : List (List ℕ)) → AreRoots n primary → AreRoots n secondary
    → ArePairs n primary secondary
unfolding every_root pairs_text
pairs-again zero [] [] one two = record { size = refl; first = refl; second = refl }
pairs-again (suc n) (p ∷ primary) (s ∷ secondary) one two =
    let rest = pairs-again n primary secondary (others one) (others two) in
    let behind = pairs_text primary secondary in
    let after = drop_at p (s ++ behind) 32 one.size.0 in
    let next = drop_at s behind 32 two.size.0 in
    let front = take_at p (s ++ behind) 32 one.size.0 in
    record {
      size = omega (arith, rest.size, one.size.0, two.size.0, length-append (p ++ s) behind, length-append p s);
      first = rw (append_assoc p s behind, front, ← drop-drop 32 32 (p ++ (s ++ behind)), after, next, rest.first);
      second = rw (
        append_assoc p s behind,
        after,
        take_at s behind 32 two.size.0,
        ← drop-drop 32 32 (s ++ behind),
        next,
        rest.second,
      );
    }
pairs-again n primary secondary one two = absurd (omega (arith, one.count, two.count))

-- ---- which sliver a shard holds

-- a shard holds a sliver of the matrix
pub held_index-within : (format : Format) (f : ℕ) (axis : Axis) (shard : ℕ) → shard < shard_count f → held_index format f axis shard < shard_count f
held_index-within Two f Secondary shard lt = omega arith
held_index-within format f axis shard lt = lt

-- the shard that holds the sliver of an index is found by the same rule
pub held_index-twice : (format : Format) (f : ℕ) (axis : Axis) (shard : ℕ) → shard < shard_count f → held_index format f axis (held_index format f axis shard) ≡ shard
held_index-twice Two f Secondary shard lt = omega arith
held_index-twice format f axis shard lt = refl

pub held_index-primary : (format : Format) (f shard : ℕ) → held_index format f Primary shard ≡ shard
held_index-primary format f shard = grind arith

pub held_order-twice : (format : Format) (roots : List (List ℕ)) → held_order format (held_order format roots) ≡ roots
held_order-twice format roots = grind (arith, reverse-reverse)

-- entry i is the root of the sliver that shard i holds
pub slice_get-held_order : (format : Format) (f : ℕ) (roots : List (List ℕ)) (shard : ℕ) → length roots ≡ shard_count f → shard < shard_count f
    → slice_get (held_order format roots) shard ≡ slice_get roots (held_index format f Secondary shard)
slice_get-held_order One f roots shard count lt = refl
slice_get-held_order Two f roots shard count lt =
    rw (
      slice_get-get_or (reverse roots) shard [] (omega (arith, length-reverse roots)),
      get_or-reverse roots shard [] (omega arith),
      slice_get-get_or roots (shard_count f - 1 - shard) [] (omega arith),
      count,
    )

sizes-append : (first second : List (List ℕ)) → AllByRecursion (λ root. length root ≡ 32) first → AllByRecursion (λ root. length root ≡ 32) second → AllByRecursion (λ root. length root ≡ 32) (first ++ second)
sizes-append [] second one two = two
sizes-append (x ∷ first) second one two = (one.0, sizes-append first second one.1 two)

sizes-reverse : (roots : List (List ℕ)) → AllByRecursion (λ root. length root ≡ 32) roots → AllByRecursion (λ root. length root ≡ 32) (reverse roots)
sizes-reverse [] sizes = tt
sizes-reverse (x ∷ roots) sizes =
    rw (reverse-append (x ∷ []) roots)
    (sizes-append (reverse roots) (x ∷ []) (sizes-reverse roots sizes.1) (sizes.0, tt))

pub AreRoots-held_order : (format : Format) (n : ℕ) (roots : List (List ℕ)) → AreRoots n roots → AreRoots n (held_order format roots)
AreRoots-held_order One n roots h = h
AreRoots-held_order Two n roots h = record { count = length-reverse roots ∙ h.count; size = sizes-reverse roots h.size }

-- ---- behind the format

-- the spelling behind the format
abbrev pub text_behind : BlobMetadata → List ℕ
text_behind m = number_text w16 m.f ++ number_text w64 m.length ++ pairs_text m.primary (held_order m.format m.secondary)

-- what the bytes are read as is a metadata
IsMetadata-in : (format : Format) (bytes : List ℕ) → AreNumbersAndRoots bytes → IsMetadata (metadata_in format bytes)
unfolding metadata_in
IsMetadata-in format bytes h =
    let n = shard_count (spelled_f bytes) in
    let enough : length (pairs_in bytes) ≡ 64 * n = omega (arith, h.1, length-drop 8 (drop 2 bytes), length-drop 2 bytes) in
    record {
      shape = h.0;
      primary = AreRoots-every_root n (pairs_in bytes) (omega arith);
      secondary = AreRoots-held_order format n (every_root n (drop 32 (pairs_in bytes))) (AreRoots-every_root n (drop 32 (pairs_in bytes)) (omega (arith, length-drop 32 (pairs_in bytes))));
    }

joined : {a b c : List ℕ} (bytes : List ℕ) → a ≡ take 2 bytes → b ≡ take 8 (drop 2 bytes) → c ≡ pairs_in bytes
    → a ++ b ++ c ≡ bytes
joined bytes p q r = rw (p, q, r, append_assoc, take-append-drop 8 (drop 2 bytes), take-append-drop 2 bytes)

-- and it is spelled as these bytes
text_behind-in : (format : Format) (bytes : List ℕ) → IsBytes bytes → AreNumbersAndRoots bytes → text_behind (metadata_in format bytes) ≡ bytes
unfolding metadata_in spelled_f spelled_length
text_behind-in format bytes fits h =
    let rest = drop 2 bytes in
    let long : 10 ≤ length bytes = omega (arith, h.1) in
    joined bytes (wide16.back (take 2 bytes) (omega (arith, length-take 2 bytes)) (IsBytes-take 2 bytes fits))
    (wide64.back (take 8 rest) (omega (arith, length-take 8 rest, length-drop 2 bytes))
    (IsBytes-take 8 rest (IsBytes-drop 2 bytes fits)))
    (rw held_order-twice
    (pairs_text-every_root _ (pairs_in bytes) (omega (arith, h.1, length-drop 8 rest, length-drop 2 bytes))))

numbers-again : (m : BlobMetadata) → IsMetadata m
    → (spelled_f (text_behind m) ≡ m.f) × (spelled_length (text_behind m) ≡ m.length)
unfolding spelled_f spelled_length
numbers-again m h = (wide16.again m.f (omega (arith, h.shape.1)), wide64.again m.length (omega (arith, h.shape.2)))

pairs_of : (m : BlobMetadata) → IsMetadata m → ArePairs (shard_count m.f) m.primary (held_order m.format m.secondary)
pairs_of m h = pairs-again _ m.primary _ h.primary (AreRoots-held_order m.format _ m.secondary h.secondary)

-- a metadata is read from its spelling
metadata_in-text : (m : BlobMetadata) → IsMetadata m → metadata_in m.format (text_behind m) ≡ m
unfolding metadata_in
metadata_in-text m h =
    let numbers = numbers-again m h in
    let pairs = pairs_of m h in
    rw (numbers.0, numbers.1, pairs.first, pairs.second, held_order-twice)

pub length-behind : (m : BlobMetadata) → IsMetadata m → length (text_behind m) ≡ 10 + 64 * shard_count m.f
length-behind m h = omega (arith, (pairs_of m h).size)

AreNumbersAndRoots-text : (m : BlobMetadata) → IsMetadata m → AreNumbersAndRoots (text_behind m)
AreNumbersAndRoots-text m h = rw ((numbers-again m h).0, (numbers-again m h).1) (h.shape, length-behind m h)

-- ---- the format

-- what stands before f is the format
format-behind : (bytes : List ℕ) → format_text (spelled_format bytes) ++ behind_format bytes ≡ bytes
unfolding spelled_format behind_format
format-behind [] = refl
format-behind (a ∷ bytes) = elim (cases_eq a 2) [ inl e ↦ rw e | inr ne ↦ rw (ne_eqb a 2 ne) ]

-- behind a format stands what does not begin with one
pub format_again : (format : Format) (text : List ℕ) → spelled_f text < 512 → spelled_format (format_text format ++ text) ≡ format
unfolding spelled_format spelled_f
format_again Two text small = refl
format_again One [] small = refl
format_again One (a ∷ text) small = rw (ne_eqb a 2 (omega arith))

-- behind a format's text is what was put there
pub behind_again : (format : Format) (text : List ℕ) → spelled_f text < 512 → behind_format (format_text format ++ text) ≡ text
unfolding behind_format
behind_again format text small = rw (format_again format text small) (drop_at (format_text format) text _ refl)

-- ---- the whole

-- the spelling is the format and what stands behind it
pub metadata_text-format : (m : BlobMetadata) → metadata_text m ≡ format_text m.format ++ text_behind m
unfolding metadata_text
metadata_text-format m = simp append_assoc

-- what bytes that spell a metadata are read as is a metadata
pub IsMetadata-spelled : (bytes : List ℕ) → SpellMetadata bytes → IsMetadata (spelled_metadata bytes)
unfolding spelled_metadata
IsMetadata-spelled bytes h = IsMetadata-in (spelled_format bytes) (behind_format bytes) h

-- and it is spelled as these bytes
pub metadata_text-spelled : (bytes : List ℕ) → IsBytes bytes → SpellMetadata bytes → metadata_text (spelled_metadata bytes) ≡ bytes
unfolding spelled_metadata metadata_in behind_format
metadata_text-spelled bytes fits h =
    rw (metadata_text-format (spelled_metadata bytes), text_behind-in _ (behind_format bytes) (IsBytes-drop _ bytes fits) h)
    (format-behind bytes)

-- a metadata is read from its spelling
pub spelled_metadata-text : (m : BlobMetadata) → IsMetadata m → spelled_metadata (metadata_text m) ≡ m
unfolding spelled_metadata
spelled_metadata-text m h =
    let small : spelled_f (text_behind m) < 512 = omega (arith, (AreNumbersAndRoots-text m h).0.1) in
    rw (metadata_text-format m, format_again m.format (text_behind m) small, behind_again m.format (text_behind m) small)
    (metadata_in-text m h)

pub SpellMetadata-text : (m : BlobMetadata) → IsMetadata m → SpellMetadata (metadata_text m)
SpellMetadata-text m h =
    let are = AreNumbersAndRoots-text m h in
    rw (metadata_text-format m, behind_again m.format (text_behind m) (omega (arith, are.0.1))) are

-- no two metadata have one spelling
pub metadata_text-injective : (a b : BlobMetadata) → IsMetadata a → IsMetadata b → metadata_text a ≡ metadata_text b → a ≡ b
metadata_text-injective a b first second same = cc (spelled_metadata-text a first, spelled_metadata-text b second)

-- bytes that spell no metadata are the spelling of none
pub no_metadata : (bytes : List ℕ) → (SpellMetadata bytes → ⊥) → (m : BlobMetadata) → IsMetadata m → metadata_text m ≡ bytes → ⊥
no_metadata bytes unspelled m h same = unspelled (rw same at (SpellMetadata-text m h))

pub spelled_metadata-f : (bytes : List ℕ) → (spelled_metadata bytes).f ≡ spelled_f (behind_format bytes)
unfolding spelled_metadata metadata_in
spelled_metadata-f bytes = refl

pub spelled_metadata-format : (bytes : List ℕ) → (spelled_metadata bytes).format ≡ spelled_format bytes
unfolding spelled_metadata metadata_in
spelled_metadata-format bytes = refl

-- the root of an axis and index stands in the pair of the shard that holds its sliver
pub slice_get-roots_of : (axis : Axis) (index : ℕ) (bytes : List ℕ) → index < shard_count (spelled_metadata bytes).f
    → slice_get (roots_of axis (spelled_metadata bytes)) index ≡ Some (take 32 (drop (root_place_of axis (held_index (spelled_metadata bytes).format (spelled_metadata bytes).f axis index)) (behind_format bytes)))
unfolding spelled_metadata metadata_in
slice_get-roots_of Primary index bytes lt =
    rw (slice_get-every_root, held_index-primary)
    (simp drop-drop (ap (λ (k : ℕ). Some (take 32 (drop k (behind_format bytes)))) (omega arith)))
slice_get-roots_of Secondary index bytes lt =
    let f = spelled_f (behind_format bytes) in
    let pairs = drop 32 (pairs_in (behind_format bytes)) in
    rw (
      slice_get-held_order (spelled_format bytes) f (every_root _ pairs) index (length-every_root _ pairs) lt,
      slice_get-every_root (shard_count f) _ pairs (held_index-within (spelled_format bytes) f Secondary index lt),
    ) (simp drop-drop (ap (λ (k : ℕ). Some (take 32 (drop k (behind_format bytes)))) (omega arith)))

-- bytes that are a metadata's spelling are read as this metadata
pub spelled_by : (bytes : List ℕ) (m : BlobMetadata) → IsMetadata m → metadata_text m ≡ bytes → SpellMetadata bytes × (spelled_metadata bytes ≡ m)
spelled_by bytes m h same = rw (← same) (SpellMetadata-text m h, spelled_metadata-text m h)

-- a root lies within the bytes
pub root_place-within : (axis : Axis) (pair : ℕ) (bytes : List ℕ) → pair < shard_count (spelled_metadata bytes).f → SpellMetadata bytes → root_place_of axis pair + 32 ≤ length (behind_format bytes)
unfolding spelled_metadata metadata_in
root_place-within axis pair bytes lt h = grind (arith, h.1)

-- a format's text and one of the length for f have the size of metadata of f
pub size_by : (format : Format) (f : ℕ) (text : List ℕ) → length text ≡ 10 + 64 * shard_count f → length (format_text format ++ text) ≡ text_size format f
size_by format f text size = grind arith

-- how long a spelling is
pub length-metadata_text : (m : BlobMetadata) → IsMetadata m → length (metadata_text m) ≡ text_size m.format m.f
length-metadata_text m h = ap length (metadata_text-format m) ∙ size_by m.format m.f (text_behind m) (length-behind m h)

pub text_size-least : (format : Format) (f : ℕ) → 10 + 64 * shard_count f ≤ text_size format f
text_size-least format f = grind arith

pub text_size-most : (format : Format) (f : ℕ) → text_size format f ≤ 11 + 64 * shard_count f
text_size-most format f = grind arith
