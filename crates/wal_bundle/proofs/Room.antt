-- The columns that bytes need have room for them, and fewer are needed where they are longer; the least size.
use Rattle.wal_bundle.proofs.Common.{◌≡◌, ℕ, ◌+◌, ◌*◌, ◌<◌, ◌≤◌, List, ◌∷◌, length, take, get_or, arith, mul-le-mul_left, mul-le-mul_right, sum_by-cons, sum_by-le-sum_by, sum_by_more, sum_by_more_le, cell_count, column_count, row_count, ColumnsFit, column_bytes, columns_for, first_column, index_bytes, index_columns, member_columns, used_columns, ◌/◌, ◌%◌, zero, suc, inl, inr, cases_lt, sum_by, get_or-le-sum_by, sum_by-le, IsBundleSize}
use Rattle.std.proofs.lemmas.Grind.{div_ceil_times}

-- a column has two bytes and more
pub size_some : (f s : ℕ) → 2 ≤ s → 2 ≤ column_bytes f s
size_some f s two = omega (arith, mul-le-mul_left (row_count f) two)

pub size_positive : (f s : ℕ) → 2 ≤ s → 0 < column_bytes f s
size_positive f s two = omega (arith, size_some f s two)

-- they have room for the bytes
pub columns_for-room : (size bytes : ℕ) → 0 < size → bytes ≤ columns_for size bytes * size
unfolding columns_for
columns_for-room size bytes some = (div_ceil_times bytes size some).0

-- and one fewer have not
pub columns_for-close : (size bytes : ℕ) → 0 < size → columns_for size bytes * size < bytes + size
unfolding columns_for
columns_for-close size bytes some = (div_ceil_times bytes size some).1

-- no more are needed where columns are longer
pub columns_for-fewer : (small size bytes : ℕ) → 0 < small → small ≤ size → columns_for size bytes ≤ columns_for small bytes
columns_for-fewer small size bytes some longer =
    grind (arith, columns_for-room small bytes some, columns_for-close size bytes (omega arith))

-- one more member
pub member_columns-cons : (size l : ℕ) (lengths : List ℕ) → member_columns size (l ∷ lengths) ≡ columns_for size l + member_columns size lengths
unfolding member_columns
member_columns-cons size l lengths = sum_by-cons (columns_for size) l lengths

-- where there is room in symbols of s bytes, there is in longer ones
pub room_more : (f : ℕ) (lengths : List ℕ) (s t : ℕ) → 2 ≤ s → s ≤ t → ColumnsFit f lengths s → ColumnsFit f lengths t
unfolding used_columns member_columns
room_more f lengths s t some longer room =
    let small = column_bytes f s in
    let size = column_bytes f t in
    let wider = mul-le-mul_left (row_count f) longer in
    let fewer = λ (bytes : ℕ). columns_for-fewer small size bytes (size_positive f s some) wider in
    omega (arith, fewer (index_bytes (length lengths)), sum_by-le-sum_by (columns_for size) _ lengths fewer)

-- a member's columns are among those that are used
pub member_within : (size : ℕ) (lengths : List ℕ) (k : ℕ) → k < length lengths
    → first_column size lengths k + columns_for size (get_or lengths k 0) ≤ used_columns size lengths
unfolding first_column used_columns member_columns
member_within size lengths k h = omega (arith, sum_by_more_le (columns_for size) lengths k 0 h)

-- so no member is longer than the source block
pub length_within : (f s : ℕ) (lengths : List ℕ) (k : ℕ) → 2 ≤ s → ColumnsFit f lengths s → k < length lengths
    → get_or lengths k 0 ≤ cell_count f * s
length_within f s lengths k two room h =
    let within = member_within (column_bytes f s) lengths k h in
    let few : columns_for (column_bytes f s) (get_or lengths k 0) ≤ column_count f = omega arith in
    let wide = mul-le-mul_right (column_bytes f s) few in
    omega (arith, wide, columns_for-room (column_bytes f s) (get_or lengths k 0) (size_positive f s two))

-- the index needs a column
pub index_some : (size count : ℕ) → 0 < size → 1 ≤ index_columns size count
index_some size count some = let room = columns_for-room size (index_bytes count) some in grind arith

-- one more member at the end
pub member_columns-more : (size : ℕ) (lengths : List ℕ) (k : ℕ) → k < length lengths
    → member_columns size (take (k + 1) lengths) ≡ member_columns size (take k lengths) + columns_for size (get_or lengths k 0)
unfolding member_columns
member_columns-more size lengths k h = sum_by_more (columns_for size) lengths k 0 h

-- where members begin
pub first_column-none : (size : ℕ) (lengths : List ℕ) → first_column size lengths 0 ≡ index_columns size (length lengths)
unfolding first_column member_columns
first_column-none size lengths = omega arith

pub first_column-more : (size : ℕ) (lengths : List ℕ) (k : ℕ) → k < length lengths
    → first_column size lengths (k + 1) ≡ first_column size lengths k + columns_for size (get_or lengths k 0)
unfolding first_column
first_column-more size lengths k h = omega (arith, member_columns-more size lengths k h)

-- ---- the least size of a symbol, by halves

module _ (f : ℕ) (lengths : List ℕ) where
  -- no size with room is smaller than one below which no half has room
  no_smaller : (half : ℕ) → ((h : ℕ) → 1 ≤ h → h < half → ColumnsFit f lengths (2 * h) → ⊥)
      → (t : ℕ) → t % 2 ≡ 0 → 2 ≤ t → ColumnsFit f lengths t → 2 * half ≤ t
  no_smaller half below t even two fits =
      let same : t ≡ 2 * (t / 2) = omega arith in
      let none = λ (less : t / 2 < half). below (t / 2) (omega arith) less (rw same at fits) in
      omega arith

  -- there is room, and none in a smaller size
  pub least_by_halves : (half : ℕ) → 1 ≤ half → ColumnsFit f lengths (2 * half) → ((h : ℕ) → 1 ≤ h → h < half → ColumnsFit f lengths (2 * h) → ⊥)
      → IsBundleSize f lengths (2 * half)
  least_by_halves half some room below =
      record { even = omega arith; positive = omega arith; room = room; least = no_smaller half below }

  -- the size just below it says it all
  pub least_by_next : (half before : ℕ) → half ≡ before + 1 → ColumnsFit f lengths (2 * half)
      → (ColumnsFit f lengths (2 * before) → ⊥) → IsBundleSize f lengths (2 * half)
  least_by_next half before next room none =
      least_by_halves half (omega arith) room
      (λ h one less fits. none (room_more f lengths (2 * h) (2 * before) (omega arith) (omega arith) fits))

  -- no smaller size has room
  pub none_below : (half h : ℕ) → IsBundleSize f lengths (2 * half) → 1 ≤ h → h < half → ColumnsFit f lengths (2 * h) → ⊥
  none_below half h is some less fits = omega (arith, is.least (2 * h) (omega arith) (omega arith) fits)

  -- what a search by halving knows: no half below low has room, and high has, or is past the most
  pub record Narrows (most low high : ℕ) : Type 0 where
    pub some : 1 ≤ low
    pub order : low ≤ high
    pub top : high ≤ most + 1
    pub below : (h : ℕ) → 1 ≤ h → h < low → ColumnsFit f lengths (2 * h) → ⊥
    pub above : high ≤ most → ColumnsFit f lengths (2 * high)

  -- the bounds at the start: 1, and the number behind the most
  pub narrows_start : (most : ℕ) → Narrows most 1 (most + 1)
  narrows_start most = omega arith

  -- if twice the middle has room, the middle is the new upper bound
  pub narrows_down : (most low high middle : ℕ) → Narrows most low high → low ≤ middle → middle < high → ColumnsFit f lengths (2 * middle) → Narrows most low middle
  narrows_down most low high middle n after before room =
      record { some = n.some; order = after; top = omega (arith, n.top); below = n.below; above = λ _. room }

  -- if twice the middle has no room, the number behind the middle is the new lower bound
  pub narrows_up : (most low high middle : ℕ) → Narrows most low high → low ≤ middle → middle < high → (ColumnsFit f lengths (2 * middle) → ⊥) → Narrows most (middle + 1) high
  narrows_up most low high middle n after before none = record {
    some = omega arith;
    order = omega arith;
    top = n.top;
    below = λ h one less fits. none (room_more f lengths (2 * h) (2 * middle) (omega arith) (omega arith) fits);
    above = n.above;
  }

  -- if the bounds have met within the most, twice the lower one is the bundle's size
  pub narrowed : (most low high : ℕ) → Narrows most low high → high ≤ low → low ≤ most → IsBundleSize f lengths (2 * low)
  narrowed most low high n met within =
      let same : high ≡ low = omega (arith, n.order) in
      least_by_halves low n.some (rw same at (n.above (omega arith))) n.below

  -- if the lower bound is past the most, each even size with room is greater than twice the most
  pub narrowed_out : (most low high : ℕ) → Narrows most low high → most < low → (t : ℕ) → t % 2 ≡ 0 → 2 ≤ t → ColumnsFit f lengths t → 2 * most < t
  narrowed_out most low high n past t even two fits = omega (arith, no_smaller low n.below t even two fits)

-- ---- the longest symbol of a blob, by its half

-- cells of an even size take more than the most, if half of it is above most / (2 * cells)
pub most_half : (cells most t : ℕ) → 0 < cells → 2 * (most / (2 * cells)) < t → t % 2 ≡ 0 → most < cells * t
most_half cells most t some longer even =
    let whole : t ≡ 2 * (t / 2) = omega arith in
    let up : most / (2 * cells) + 1 ≤ t / 2 = omega arith in
    rw whole (omega (arith, mul-le-mul_left (2 * cells) up))

-- where a member is longer than a blob, so is the bundle
pub too_long : (f s : ℕ) (lengths : List ℕ) (k most : ℕ) → k < length lengths → most < get_or lengths k 0 → IsBundleSize f lengths s → most < cell_count f * s
too_long f s lengths k most h longer is = omega (arith, length_within f s lengths k is.positive is.room h)

-- ---- there is a least size

-- where there is room in symbols of some even size, there is a least such size
least_below : (f : ℕ) (lengths : List ℕ) (before : ℕ) → ColumnsFit f lengths (2 * (before + 1))
    → (s : ℕ) × IsBundleSize f lengths s
least_below f lengths zero room = (2, least_by_halves f lengths 1 (omega arith) room (λ h one less _. omega arith))
least_below f lengths (suc n) room =
    elim (cases_lt (column_count f) (used_columns (column_bytes f (2 * (n + 1))) lengths)) [
      | inl over ↦ (_, least_by_next f lengths (suc n + 1) (n + 1) (omega arith) room (λ fits. omega arith))
      | inr fits ↦ least_below f lengths n fits
    ]

-- bytes that a column has room for need one
one_column_for : (size bytes : ℕ) → 0 < size → bytes ≤ size → columns_for size bytes ≤ 1
one_column_for size bytes some short = let close = columns_for-close size bytes some in grind arith

-- members that are few have room in symbols that are long enough
some_room : (f : ℕ) (lengths : List ℕ) → length lengths ≤ 2 * f → (before : ℕ) × ColumnsFit f lengths (2 * (before + 1))
unfolding used_columns member_columns
some_room f lengths few =
    let before = index_bytes (length lengths) + sum_by (λ (l : ℕ). l) lengths in
    let size = column_bytes f (2 * (before + 1)) in
    let wide : 1 * (2 * (before + 1)) ≤ size = mul-le-mul_right (2 * (before + 1)) (omega arith) in
    let one = λ (bytes : ℕ) (short : bytes ≤ before). one_column_for size bytes (omega arith) (omega arith) in
    let part = get_or-le-sum_by (λ (l : ℕ). l) lengths in
    let each = sum_by-le (columns_for size) 1 lengths (λ i d h. one (get_or lengths i d) (omega (arith, part i d h))) in
    (before, omega (arith, one (index_bytes (length lengths)) (omega arith), each))

-- some size is that of the bundle of at most 2 * f members
pub some_least : (f : ℕ) (lengths : List ℕ) → length lengths ≤ 2 * f → (s : ℕ) × IsBundleSize f lengths s
some_least f lengths few = let room = some_room f lengths few in least_below f lengths room.0 room.1

-- and one
pub one_size : (f : ℕ) (lengths : List ℕ) (s t : ℕ) → IsBundleSize f lengths s → IsBundleSize f lengths t → s ≡ t
one_size f lengths s t is_s is_t =
    omega (arith, is_s.least t is_t.even is_t.positive is_t.room, is_t.least s is_s.even is_s.positive is_s.room)
