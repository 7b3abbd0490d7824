-- The columns of a bundle tell its members, and members have one bundle, or one reason why there is none.
use Rattle.wal_bundle.proofs.Common.{◌≡◌, ℕ, ◌+◌, ◌-◌, ◌*◌, ◌<◌, ◌≤◌, List, [], length, take, drop, get_or, sym, ◌∙◌, arith, length-drop, length-map, length-take-le, append-nil, mul-le-mul_left, mul-le-mul_right, region, cell_count, column_count, row_count, symbol_size, most_bytes, symbol_size-filled, IsExtended, padded, secondary_of, ColumnsFit, IsBundle, IsBundleSize, bundle_text, column_bytes, columns_for, columns_text, first_column, index_columns, index_text, lengths_of, used_columns, whole_columns, AreColumns, HasIndex, HasMember, Some, zero-add, slice_get, get_or_from_slice_get, slice_get_within, BlobMetadata, IsMetadataIn, Member, IsColumn, IsMember, ShowsMember, ◌≢◌, Result, IfOk, Ok, Err, ap, Bundles}
use Rattle.wal_matrix.proofs.ColumnLaws.{block_column, block_long, secondary_of_blob}
use Rattle.wal_bundle.specs.declared.answer.BundleError.{BundleError}
use Rattle.wal_bundle.specs.declared.answer.BundleError.TheVariants.{Memory, TooLong}
use Rattle.wal_bundle.proofs.IndexTexts.{index_long, column_of_part, index_part, length_of, member_part, text_long, whole_front}
use Rattle.wal_bundle.proofs.Room.{member_within, size_positive, one_size}

-- the bytes of a bundle
pub bundle_long : (f s : ℕ) (members : List (List ℕ)) → 2 ≤ s → ColumnsFit f (lengths_of members) s → length (bundle_text f s members) ≡ cell_count f * s
unfolding bundle_text
bundle_long f s members two room =
    block_long f s _ _ room (omega (arith, text_long (column_bytes f s) members (size_positive f s two)))

-- its symbols have that size, and it is its own source block
pub bundle_symbols : (f s : ℕ) (members : List (List ℕ)) → IsBundleSize f (lengths_of members) s → symbol_size f (length (bundle_text f s members)) ≡ s
bundle_symbols f s members is =
    rw (bundle_long f s members is.positive is.room) (symbol_size-filled f s is.even is.positive)

pub bundle_size : (f long : ℕ) (members : List (List ℕ)) (bytes : List ℕ) (b : IsBundle f members bytes)
    → length bytes ≡ long → symbol_size f long ≡ b.size
bundle_size f long members bytes b fits = rw (← fits, b.text) (bundle_symbols f b.size members b.least)

bundle_padded : (f s : ℕ) (members : List (List ℕ)) → IsBundleSize f (lengths_of members) s
    → padded f (bundle_text f s members) ≡ bundle_text f s members
unfolding padded
bundle_padded f s members is =
    let none : row_count f * column_count f * s - length (bundle_text f s members) ≡ 0 =
    omega (arith, bundle_long f s members is.positive is.room) in
    rw (bundle_symbols f s members is, none) (append-nil (bundle_text f s members))

-- a bundle of symbols that are not too long
pub bundle_short : (f half most : ℕ) (members : List (List ℕ)) → IsBundleSize f (lengths_of members) (2 * half) → half ≤ most → cell_count f * (2 * most) ≤ most_bytes
    → length (bundle_text f (2 * half) members) ≤ most_bytes
bundle_short f half most members is within fits =
    omega (arith, mul-le-mul_left (cell_count f) within, bundle_long f (2 * half) members is.positive is.room, fits)

module _ (f s : ℕ) (members : List (List ℕ)) (is : IsBundleSize f (lengths_of members) s) (e : List ℕ) (extended : IsExtended f (bundle_text f s members) e) where
  -- a column that is used
  pub own_column : (j : ℕ) → j < used_columns (column_bytes f s) (lengths_of members) → region (column_bytes f s) (columns_text (column_bytes f s) members) j ≡ secondary_of f s e j
  unfolding bundle_text
  own_column j h =
      let size = column_bytes f s in
      let column = secondary_of_blob f (bundle_text f s members) e extended j (omega (arith, is.room)) in
      let block = block_column f s (columns_text size members) (used_columns size (lengths_of members)) is.room
      (text_long size members (size_positive f s is.positive)) j h in
      sym (rw (bundle_symbols f s members is, bundle_padded f s members is) at column ∙ block)

  -- where columns that are used are shown, they are there, one after the other
  module _ {Column : ℕ → List ℕ → Type 0} where
    used_there : (start count : ℕ) → start + count ≤ used_columns (column_bytes f s) (lengths_of members)
        → ((j : ℕ) → j < count → Column (start + j) (secondary_of f s e (start + j)))
        → AreColumns Column (column_bytes f s) start count (take (count * column_bytes f s) (drop (start * column_bytes f s) (columns_text (column_bytes f s) members)))
    used_there start count within shown =
        let size = column_bytes f s in
        let text = columns_text size members in
        let long = text_long size members (size_positive f s is.positive) in
        record {
          long = length-take-le (count * size) (drop (start * size) text)
              (omega (arith, length-drop (start * size) text, mul-le-mul_right size within, long));
          each = λ j h. rw (column_of_part size start count j text h, own_column (start + j) (omega arith)) (shown j h);
        }

    -- the index
    pub index_there : ((j : ℕ) → j < index_columns (column_bytes f s) (length (lengths_of members)) → Column j (secondary_of f s e j))
        → length members ≤ 2 * f → HasIndex Column f s (lengths_of members)
    unfolding used_columns
    index_there shown few =
        let size = column_bytes f s in
        let lengths = lengths_of members in
        let index = index_text size lengths in
        let count = length-map members (λ (x : List ℕ). length x) in
        record {
          columns = whole_columns size index;
          there = rw (index_part size members (size_positive f s is.positive)) at
              (used_there 0 (index_columns size (length lengths)) (omega arith) (λ j h. rw (zero-add j) (shown j h)));
          index = record { few = omega arith; size = is; text = rw (← index_long size lengths) (whole_front size index) };
        }

    -- the members
    pub member_there : (k : ℕ) → ((j : ℕ) → j < columns_for (column_bytes f s) (get_or (lengths_of members) k 0)
        → Column (first_column (column_bytes f s) (lengths_of members) k + j) (secondary_of f s e (first_column (column_bytes f s) (lengths_of members) k + j)))
        → k < length members → HasMember Column f s (lengths_of members) k (get_or members k [])
    member_there k shown h =
        let size = column_bytes f s in
        let lengths = lengths_of members in
        let count = length-map members (λ (x : List ℕ). length x) in
        let inside : k < length lengths = omega arith in
        record {
          within = inside;
          columns = whole_columns size (get_or members k []);
          there = rw (member_part size members k (size_positive f s is.positive) h)
              at (used_there (first_column size lengths k) (columns_for size (get_or lengths k 0))
              (member_within size lengths k inside) shown);
          front = rw (length_of members k h) (sym (whole_front size (get_or members k [])));
        }

-- ---- A bundle's own columns, where payloads show those of the index and of a member, tell the member

pub shown_told : (digest : List ℕ → List ℕ) (id : List ℕ) (k : ℕ) (payloads : List (List ℕ)) (m : BlobMetadata) (members : List (List ℕ)) (bytes own e : List ℕ)
    → IsMetadataIn digest id payloads m → IsBundle m.f members bytes → length bytes ≡ m.length → IsExtended m.f bytes e → slice_get members k ≡ Some own
    → ShowsMember (IsColumn digest id m payloads) m.f (symbol_size m.f m.length) (lengths_of members) e k → IsMember digest id k payloads (Member own)
shown_told digest id k payloads m members bytes own e one bundle fits extended is shown =
    let size = bundle_size m.f m.length members bytes bundle fits in
    let text = rw bundle.text at extended in
    let here = rw size at shown in
    let index = index_there m.f bundle.size members bundle.least e text here.index bundle.few in
    let told = rw (get_or_from_slice_get members k own [] is) at
    (member_there m.f bundle.size members bundle.least e text {Column = IsColumn digest id m payloads} k here.member
    (slice_get_within members k own is)) in
    (m, one, (lengths_of members, rw size index, rw size told))

-- ---- members have one bundle, or one reason why there is none

pub one_bundle : (f : ℕ) (members : List (List ℕ)) (a b : List ℕ) → IsBundle f members a → IsBundle f members b → a ≡ b
one_bundle f members a b is_a is_b =
    cc (is_a.text, one_size f (lengths_of members) is_a.size is_b.size is_a.least is_b.least, is_b.text)

-- where there is a bundle, it is not too long
pub not_too_long : (f : ℕ) (members : List (List ℕ)) (bytes : List ℕ) → Bundles f members (Ok bytes) → Bundles f members (Err TooLong) → ⊥
not_too_long f members bytes is over =
    let b = is.2 in
    let longer = rw (one_size f (lengths_of members) over.3 b.size over.4 b.least) at over.5 in
    omega (arith, longer, ap length b.text, bundle_long f b.size members b.least.positive b.least.room, is.3)

-- members have one bundle, or one reason why there is none
pub one_bundling : (f : ℕ) (members : List (List ℕ)) (a b : Result (List ℕ) BundleError) → Bundles f members a → Bundles f members b → a ≢ Err Memory → b ≢ Err Memory → a ≡ b
one_bundling f members a b is also told kept = grind (arith, one_bundle f members, not_too_long f members)

-- a bundle fills its source block
pub bundled_long : (f : ℕ) (members : List (List ℕ)) (a : Result (List ℕ) BundleError) → Bundles f members a
    → IfOk a (λ bytes. (s : ℕ) → IsBundleSize f (lengths_of members) s → (length bytes ≡ cell_count f * s) × (symbol_size f (length bytes) ≡ s))
bundled_long f members (Err e) is = tt
bundled_long f members (Ok bytes) is = λ s least.
    let text = rw (one_size f (lengths_of members) is.2.size s is.2.least least) at is.2.text in
    (rw text (bundle_long f s members least.positive least.room), rw text (bundle_symbols f s members least))
