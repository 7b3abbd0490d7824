-- What a shard writes in answer to requests, part by part.
use Rattle.wal_shard.proofs.Common.{◌≡◌, ℕ, ◌+◌, ◌-◌, ◌*◌, ◌/◌, ◌<◌, ◌≤◌, Option, Some, None, IsSome, List, [], ◌∷◌, ◌++◌, length, refl, sym, ap, ◌∙◌, subst, unwrap_or, append_assoc, arith, mul-le-mul_right, shard_count, row_count, column_count, symbol_size, most_bytes, symbol_size-least, symbol_size-longest, BlobMetadata, spelled_format, spelled_metadata, metadata_text, spelled_metadata-text, spelled_metadata-format, Parts, Buffer, appended, envelope, metadata_kind, metadata_frame, IsSound, payload_if, IsOwnMetadata}
use Rattle.std.specs.List.{flat_map}
use Rattle.std.proofs.lemmas.List.{length-append, append-nil}
use Rattle.std.proofs.lemmas.List.Concat.{flat_map-cons}
use Rattle.std.proofs.lemmas.Grind.{flat_map-append}
use Rattle.wal_shape.specs.declared.shape.Format.{Format}
use Rattle.wal_tree.specs.Path.{height}
use Rattle.wal_tree.proofs.Paths.{height-le}
use Rattle.wal_tree.proofs.Collisions.{count_few}
use Rattle.wal_shard.specs.Replying.{WritesReply}
use Rattle.wal_shard.proofs.HeldLaws.{own_metadata}

-- to append two texts in turn is to append them joined
pub appended_then : (b : Buffer) (x y : List ℕ) → appended (appended b x) y ≡ appended b (x ++ y)
appended_then b x y =
    let room : b.spare - length x - length y ≡ b.spare - length (x ++ y) = omega (arith, length-append x y) in
    cc (append_assoc b.bytes x y, room)

pub length-envelope : (sender : ℕ) (payload : List ℕ) → length (envelope sender payload) ≡ 7 + length payload
length-envelope sender payload = omega arith

-- room that is left behind an envelope
pub room_left : (old new : Buffer) (sender : ℕ) (payload : List ℕ) → new ≡ appended old (envelope sender payload) → old.spare ≤ new.spare + (7 + length payload)
room_left old new sender payload e =
    let left : new.spare ≡ old.spare - length (envelope sender payload) = ap (λ (b : Buffer). b.spare) e in
    omega (arith, left, length-envelope sender payload)

-- nothing is written
pub writes_none : (sender : ℕ) (b : Buffer) → WritesReply sender b [] 0 b
writes_none sender b =
    let room : b.spare ≡ b.spare - 0 = omega arith in
    record { written = λ i. record { bytes = sym (append-nil b.bytes) i; spare = room i }; counted = refl }

-- one payload is written
pub writes_one : (sender : ℕ) (old new : Buffer) (payload : List ℕ) → new ≡ appended old (envelope sender payload) → WritesReply sender old (payload ∷ []) 1 new
writes_one sender old new payload e =
    record { written = e ∙ ap (appended old) (sym (flat_map-cons (envelope sender) payload [] ∙ append-nil (envelope sender payload))); counted = refl }

-- one after the other
pub writes_then : (sender : ℕ) (a b c : Buffer) (xs ys : List (List ℕ)) (n k : ℕ) → WritesReply sender a xs n b → WritesReply sender b ys k c → WritesReply sender a (xs ++ ys) (n + k) c
writes_then sender a b c xs ys n k one two = record {
  written =
      let text = flat_map (envelope sender) in
      cc (two.written, one.written, appended_then a (text xs) (text ys), flat_map-append (envelope sender) xs ys);
  counted = omega (arith, one.counted, two.counted, length-append xs ys);
}

-- the payload of a part that is held
pub writes_held : (o : Option (List ℕ)) (payload : List ℕ → List ℕ) (sender : ℕ) (old new : Buffer) (text : List ℕ) → IsSome o
    → text ≡ payload (unwrap_or o []) → new ≡ appended old (envelope sender text) → WritesReply sender old (payload_if o payload) 1 new
writes_held None payload sender old new text some is e = absurd cc
writes_held (Some bytes) payload sender old new text some is e =
    writes_one sender old new (payload bytes) (e ∙ ap (λ (x : List ℕ). appended old (envelope sender x)) is)

-- the frame of the metadata that is held
pub metadata_frame_is : (digest : List ℕ → List ℕ) (f shard : ℕ) (id : List ℕ) (p : Parts) → IsSound digest f id shard p → IsSome p.metadata
    → (metadata_kind (spelled_format (unwrap_or p.metadata [])) ∷ []) ++ unwrap_or p.metadata [] ≡ metadata_frame (spelled_metadata (unwrap_or p.metadata []))
metadata_frame_is digest f shard id p s some =
    let own = own_metadata digest f shard id p s some in
    let m = own.0 in
    let bytes = unwrap_or p.metadata [] in
    let text : bytes ≡ metadata_text m = ap (λ (o : Option (List ℕ)). unwrap_or o []) own.1.held.spelled in
    let same : spelled_metadata bytes ≡ m = ap spelled_metadata text ∙ spelled_metadata-text m own.1.held.fit in
    let again : bytes ≡ metadata_text (spelled_metadata bytes) = text ∙ ap metadata_text (sym same) in
    ap (λ (k : Format). metadata_kind k ∷ bytes) (sym (spelled_metadata-format bytes))
    ∙ ap (λ (x : List ℕ). metadata_kind (spelled_metadata bytes).format ∷ x) again

-- the path of one of at most a thousand pieces
pub path_short : (long size : ℕ) → 1 ≤ size → long ≤ 1000 * size → height (long / size) ≤ 10
path_short long size some within = height-le 10 (long / size) (omega (arith, count_few size long within))

-- an opening fits where a sliver does
pub opening_fits : (f length : ℕ) → 1 ≤ f → f ≤ 333 → length ≤ most_bytes → 370 + symbol_size f length ≤ 47 + column_count f * symbol_size f most_bytes
opening_fits f length some few short =
    let longest = symbol_size-longest f length short in
    let least = symbol_size-least f most_bytes in
    let rows : row_count f * (column_count f * symbol_size f most_bytes) ≤ 334 * (column_count f * symbol_size f most_bytes) = mul-le-mul_right (column_count f * symbol_size f most_bytes) (omega arith) in
    let three : 3 * symbol_size f most_bytes ≤ column_count f * symbol_size f most_bytes = mul-le-mul_right (symbol_size f most_bytes) (omega arith) in
    let room : most_bytes ≤ row_count f * (column_count f * symbol_size f most_bytes) = omega (arith, least.room) in
    omega (arith, longest, rows, three, room)

-- three replies in turn are one reply of all their frames
pub writes_three : (sender : ℕ) (a b c d : Buffer) (xs ys zs : List (List ℕ)) (n k j : ℕ) → WritesReply sender a xs n b → WritesReply sender b ys k c → WritesReply sender c zs j d
    → WritesReply sender a (xs ++ (ys ++ zs)) (n + k + j) d
writes_three sender a b c d xs ys zs n k j one two three =
    let all = writes_then sender a b d xs (ys ++ zs) n (k + j) one (writes_then sender b c d ys zs k j two three) in
    record { written = all.written; counted = omega (arith, all.counted) }

-- no shard's index is 3 * f + 1 or more
pub too_many : (f g index : ℕ) → g ≡ f → 3 * f + 1 ≤ index → index < shard_count g → ⊥
too_many f g index e many below = omega arith

-- an opening for the metadata that is held fits where a sliver does
pub own_opening_fits : (digest : List ℕ → List ℕ) (f : ℕ) (id : List ℕ) (p : Parts) (m : BlobMetadata) → IsOwnMetadata digest f id p m
    → 370 + symbol_size m.f m.length ≤ 47 + column_count f * symbol_size f most_bytes
own_opening_fits digest f id p m own =
    let shape = own.held.fit.shape in
    subst (λ k. 370 + symbol_size m.f m.length ≤ 47 + column_count k * symbol_size k most_bytes) own.faults (opening_fits m.f m.length shape.0 shape.1 shape.2)
