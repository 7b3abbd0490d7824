-- Columns that are there tell one thing of the members, and the same as others that agree with them.
use Rattle.wal_bundle.proofs.Common.{◌≡◌, ℕ, ◌+◌, ◌-◌, ◌*◌, ◌<◌, ◌≤◌, List, [], ◌++◌, length, refl, ap, ◌∙◌, arith, length-append, below_more, region, run_fits, run_at_end, run_in_front, AreColumns, IsFirstMissing, IsMissing, ◌^◌, take, get_or, sym, take-take, cell_count, column_bytes, HasBadIndex, HasIndex, HasMember, of_many, of_none, count_in, inl, inr, cases_lt, MemberAnswer, BadIndex, Member, Missing, NoMember, columns_for, first_column, index_columns, MissesColumn, Tells, of_index, of_member, of_start, add-zero, zero-add, index_bytes, IsIndex}
use Rattle.wal_matrix.proofs.WordTables.{same_by_regions}
use Rattle.wal_bundle.proofs.IndexTexts.{index_count, one_index}
use Rattle.wal_bundle.proofs.Room.{index_some, size_positive, size_some, columns_for-room, member_within}

module _ (Column : ℕ → List ℕ → Type 0) (size : ℕ) where
  -- one more
  pub column_added : (start n : ℕ) (xs bytes after : List ℕ) → AreColumns Column size start n xs → Column (start + n) bytes → length bytes ≡ size → after ≡ xs ++ bytes
      → AreColumns Column size start (n + 1) after
  column_added start n xs bytes after are is own after_is =
      rw after_is
      (record {
        long = rw length-append (omega (arith, are.long));
        each = below_more (λ (j : ℕ). Column (start + j) (region size (xs ++ bytes) j)) n
            (λ j early. rw (run_in_front (size * j) size xs bytes (omega (arith, are.long, run_fits j n size early)))
            (are.each j early))
            (rw (run_at_end (size * n) size xs bytes (omega (arith, are.long)) own) is);
      })

  -- column 0 alone
  pub first_alone : (bytes : List ℕ) → Column 0 bytes → length bytes ≡ size → AreColumns Column size 0 1 bytes
  first_alone bytes is own =
      column_added 0 0 [] bytes bytes (record { long = omega arith; each = λ j h. absurd (omega arith) }) is own refl

  -- one of columns that are there
  pub column_at : (start n i : ℕ) (xs : List ℕ) → AreColumns Column size start n xs → start ≤ i → i < start + n
      → Column i (region size xs (i - start))
  column_at start n i xs are after before =
      let place : start + (i - start) ≡ i = omega arith in rw place at (are.each (i - start) (omega arith))

  -- the first that is missing
  pub first_missing : (start have total n : ℕ) (xs : List ℕ) → AreColumns Column size start n xs → have ≤ n → n < total → IsMissing Column (start + n)
      → IsFirstMissing Column (start + have) (start + total) (start + n)
  first_missing start have total n xs are early within missing = record {
    after = omega arith;
    before = omega arith;
    missing = missing;
    there = λ i after before. (region size xs (i - start), column_at start n i xs are (omega arith) before);
  }

-- ---- columns that are the same wherever both are there tell the same

-- the number of members stands at the front of column 0
count_in_column : (size : ℕ) (columns : List ℕ) → 2 ≤ size → count_in (region size columns 0) ≡ count_in columns
unfolding count_in
count_in_column size columns two = let start : size * 0 ≡ 0 = omega arith in rw (start, take-take 2 size columns two)

-- column 0 of an index
pub column_zero : (f s : ℕ) → f ≤ 333 → 2 ≤ s → (C : ℕ → List ℕ → Type 0) (lengths : List ℕ) → HasIndex C f s lengths
    → (bytes : List ℕ) × C 0 bytes × (count_in bytes ≡ length lengths)
column_zero f s faults two C lengths has = (
  region (column_bytes f s) has.columns 0,
  has.there.each 0 (index_some (column_bytes f s) (length lengths) (size_positive f s two)),
  count_in_column (column_bytes f s) has.columns (size_some f s two)
      ∙ index_count f s has.columns lengths faults has.index,
)

module _ (A B : ℕ → List ℕ → Type 0) (agree : (j : ℕ) (a b : List ℕ) → A j a → B j b → a ≡ b) where
  -- the same columns, one after the other
  same_columns : (size start n : ℕ) (x y : List ℕ) → 0 < size → AreColumns A size start n x
      → AreColumns B size start n y → x ≡ y
  same_columns size start n x y some is_x is_y =
      same_by_regions n size x y some is_x.long is_y.long (λ j h. agree (start + j) (region size x j) (region size y j) (is_x.each j h) (is_y.each j h))

  -- what the first column of an index tells
  pub same_count : (size n : ℕ) (a y : List ℕ) → 2 ≤ size → 1 ≤ n → A 0 a → AreColumns B size 0 n y → count_in a ≡ count_in y
  same_count size n a y two some is_a is_y =
      rw (agree 0 a (region size y 0) is_a (is_y.each 0 some)) (count_in_column size y two)

  module _ (f s : ℕ) (faults : f ≤ 333) (two : 2 ≤ s) (fits : cell_count f * s < 2 ^ 32) where
    -- the number of members by column 0, and by an index
    counts_agree : (a : List ℕ) (lengths : List ℕ) → A 0 a → HasIndex B f s lengths → count_in a ≡ length lengths
    counts_agree a lengths is_a has =
        let top = column_zero f s faults two B lengths has in rw (agree 0 a top.0 is_a top.1) top.2

    -- one index
    pub same_lengths : (a b : List ℕ) → HasIndex A f s a → HasIndex B f s b → a ≡ b
    same_lengths a b has_a has_b =
        let top = column_zero f s faults two A a has_a in
        let count : length a ≡ length b = sym top.2 ∙ counts_agree top.0 b top.1 has_b in
        let there = rw count at has_a.there in
        let same = same_columns _ _ _ has_a.columns has_b.columns (size_positive f s two) there has_b.there in
        one_index f s has_b.columns a b faults fits (rw same at has_a.index) has_b.index

    -- one member, by the lengths of either
    pub same_told : (a b : List ℕ) (k : ℕ) (x y : List ℕ) → HasIndex A f s a → HasMember A f s a k x → HasIndex B f s b → HasMember B f s b k y → x ≡ y
    same_told a b k x y has_a is_x has_b is_y =
        let here = rw (same_lengths a b has_a has_b) at is_x in
        let same = same_columns _ _ _ here.columns is_y.columns (size_positive f s two) here.there is_y.there in
        here.front ∙ ap (take (get_or b k 0)) same ∙ sym is_y.front

    -- where one has an index, the other has no bad one
    pub not_bad : (lengths : List ℕ) → HasIndex B f s lengths → HasBadIndex A f s → ⊥
    not_bad lengths has (of_many bytes is_a over) = omega (arith, counts_agree bytes lengths is_a has)
    not_bad lengths has (of_none bytes is_a few columns there none) =
        let here = rw (counts_agree bytes lengths is_a has) at there in
        none lengths (rw (same_columns _ _ _ columns has.columns (size_positive f s two) here has.there) has.index)

-- ---- columns tell one thing of a member

-- of columns that are all there none is missing
none_missing : (Column : ℕ → List ℕ → Type 0) (size start n from end j : ℕ) (columns : List ℕ)
    → AreColumns Column size start n columns → start ≤ from → end ≤ start + n → IsFirstMissing Column from end j → ⊥
none_missing Column size start n from end j columns are early within is =
    is.missing _ (column_at Column size start n j columns are (omega (arith, is.after)) (omega (arith, is.before)))

-- the first missing one is one
one_missing : (Column : ℕ → List ℕ → Type 0) (from end i j : ℕ) → IsFirstMissing Column from end i
    → IsFirstMissing Column from end j → i ≡ j
one_missing Column from end i j is_i is_j = omega (arith, later i j is_i is_j, later j i is_j is_i)
  where
    later : (i j : ℕ) → IsFirstMissing Column from end i → IsFirstMissing Column from end j → j ≤ i
    later i j is_i is_j =
        elim (cases_lt i j) [
          | inl less ↦ (let there = is_j.there i is_i.after less in absurd (is_i.missing there.0 there.1))
          | inr over ↦ over
        ]

module _ (Column : ℕ → List ℕ → Type 0) (one : (j : ℕ) (a b : List ℕ) → Column j a → Column j b → a ≡ b) (f s k : ℕ) (faults : f ≤ 333) (two : 2 ≤ s)
    (fits : cell_count f * s < 2 ^ 32) where
  -- a missing column of the index leaves no columns one after the other
  missing_no_columns : (bytes other columns : List ℕ) (j : ℕ) → Column 0 bytes → Column 0 other → IsFirstMissing Column 1 (index_columns (column_bytes f s) (count_in bytes)) j
      → AreColumns Column (column_bytes f s) 0 (index_columns (column_bytes f s) (count_in other)) columns → ⊥
  missing_no_columns bytes other columns j is also miss are =
      none_missing Column _ 0 _ 1 _ j columns are (omega arith) (omega arith) (rw (one 0 bytes other is also) at miss)

  -- and no index
  missing_no_index : (bytes lengths : List ℕ) (j : ℕ) → Column 0 bytes
      → IsFirstMissing Column 1 (index_columns (column_bytes f s) (count_in bytes)) j → HasIndex Column f s lengths → ⊥
  missing_no_index bytes lengths j is miss has =
      let top = column_zero f s faults two Column lengths has in
      missing_no_columns bytes top.0 has.columns j is top.1 miss (rw top.2 has.there)

  -- where a column is missing there is no bad index
  missing_not_bad : (j : ℕ) → MissesColumn Column f s k j → HasBadIndex Column f s → ⊥
  missing_not_bad j (of_start is none) (of_many bytes here over) = none bytes here
  missing_not_bad j (of_start is none) (of_none bytes here few columns are none_is) = none bytes here
  missing_not_bad j (of_index bytes here few miss) (of_many bytes' here' over) =
      let same : count_in bytes ≡ count_in bytes' = ap count_in (one 0 bytes bytes' here here') in omega arith
  missing_not_bad j (of_index bytes here few miss) (of_none bytes' here' few' columns are none_is) = missing_no_columns bytes bytes' columns j here here' miss are
  missing_not_bad j (of_member lengths has h miss) bad = not_bad Column Column one f s faults two fits lengths has bad

  -- and where there is an index it is one of the member
  missing_of_member : (j : ℕ) (lengths : List ℕ) → MissesColumn Column f s k j → HasIndex Column f s lengths
      → (k < length lengths)
      × IsFirstMissing Column (first_column (column_bytes f s) lengths k)
      (first_column (column_bytes f s) lengths k + columns_for (column_bytes f s) (get_or lengths k 0)) j
  missing_of_member j lengths (of_start is none) has =
      let top = column_zero f s faults two Column lengths has in absurd (none top.0 top.1)
  missing_of_member j lengths (of_index bytes here few miss) has =
      absurd (missing_no_index bytes lengths j here miss has)
  missing_of_member j lengths (of_member own has' h miss) has =
      let same = same_lengths Column Column one f s faults two fits own lengths has' has in
      (rw same at h, rw same at miss)

  -- one missing column
  same_missing : (i j : ℕ) → MissesColumn Column f s k i → MissesColumn Column f s k j → i ≡ j
  same_missing i j (of_member lengths has h miss) other =
      one_missing Column _ _ i j miss (missing_of_member j lengths other has).1
  same_missing i j other (of_member lengths has h miss) =
      one_missing Column _ _ i j (missing_of_member i lengths other has).1 miss
  same_missing i j (of_start is none) (of_start is' none') = is ∙ sym is'
  same_missing i j (of_start is none) (of_index bytes here few miss) = absurd (none bytes here)
  same_missing i j (of_index bytes here few miss) (of_start is none) = absurd (none bytes here)
  same_missing i j (of_index bytes here few miss) (of_index bytes' here' few' miss') =
      one_missing Column _ _ i j (rw (one 0 bytes bytes' here here') at miss) miss'

  -- a member of which a column is missing has no bytes, and there is one
  missing_not_member : (j : ℕ) (lengths bytes : List ℕ) → MissesColumn Column f s k j → HasIndex Column f s lengths → HasMember Column f s lengths k bytes → ⊥
  missing_not_member j lengths bytes misses has is =
      none_missing Column _ _ _ _ _ j is.columns is.there (omega arith) (omega arith)
      (missing_of_member j lengths misses has).1

  missing_within : (j n : ℕ) (lengths : List ℕ) → MissesColumn Column f s k j → HasIndex Column f s lengths
      → n ≡ length lengths → n ≤ k → ⊥
  missing_within j n lengths misses has is past = omega (arith, (missing_of_member j lengths misses has).0)

  -- where a member is told the index has it
  not_within : (n : ℕ) (a b bytes : List ℕ) → HasIndex Column f s a → n ≡ length a → n ≤ k → HasIndex Column f s b
      → HasMember Column f s b k bytes → ⊥
  not_within n a b bytes has is past has' told =
      omega (arith, told.within, ap length (same_lengths Column Column one f s faults two fits a b has has'))

  -- columns tell one thing
  pub one_told : (a b : MemberAnswer) → Tells Column f s k a → Tells Column f s k b → a ≡ b
  one_told (Missing i) (Missing j) is_a is_b = ap Missing (same_missing i j is_a is_b)
  one_told BadIndex BadIndex is_a is_b = refl
  one_told (NoMember n) (NoMember p) is_a is_b =
      ap NoMember (is_a.2 ∙ ap length (same_lengths Column Column one f s faults two fits is_a.0 is_b.0 is_a.1 is_b.1) ∙ sym is_b.2)
  one_told (Member x) (Member y) is_a is_b = ap Member (same_told Column Column one f s faults two fits is_a.0 is_b.0 k x y is_a.1 is_a.2 is_b.1 is_b.2)
  one_told a b is_a is_b =
      let no_bad = not_bad Column Column one f s faults two fits in
      absurd (search (missing_not_bad, missing_not_member, missing_within, not_within, no_bad))

-- ---- what the columns of the index tell, by the numbers that they were read with

-- column 0 tells the number that the columns begin with, which have the bytes of the index
pub count_kept : {Column : ℕ → List ℕ → Type 0} {count total : ℕ} {columns : List ℕ} (f s : ℕ) (bytes : List ℕ)
    → ((j : ℕ) (a b : List ℕ) → Column j a → Column j b → a ≡ b) → 2 ≤ s
    → AreColumns Column (column_bytes f s) 0 total columns → count ≡ count_in bytes
    → total ≡ index_columns (column_bytes f s) count → Column 0 bytes
    → (count ≡ count_in columns) × (index_bytes count ≤ length columns)
count_kept {count = count} {total = total} f s bytes one two are count_is total_is is =
    let size = column_bytes f s in
    let some : 1 ≤ total = rw total_is (index_some size count (size_positive f s two)) in (
      count_is ∙ same_count _ _ one size total bytes _ (size_some f s two) some is are,
      rw (are.long, total_is) (columns_for-room size (index_bytes count) (size_positive f s two)),
    )

module _ {Column : ℕ → List ℕ → Type 0} {f s : ℕ} where
  -- a column that the index needs is missing
  pub index_missing : {count total j : ℕ} (bytes : List ℕ) → IsFirstMissing Column (0 + 1) (0 + total) j
      → count ≡ count_in bytes → count ≤ 2 * f → total ≡ index_columns (column_bytes f s) count → Column 0 bytes
      → (k : ℕ) → MissesColumn Column f s k j
  index_missing {total = total} bytes miss count_is few total_is is k =
      of_index bytes is (rw count_is at few) (rw (← count_is, ← total_is) (rw (zero-add total) at miss))

  -- there is an index
  pub index_found : {count total : ℕ} {columns lengths : List ℕ} → f ≤ 333
      → AreColumns Column (column_bytes f s) 0 total columns → count ≡ count_in columns
      → total ≡ index_columns (column_bytes f s) count → IsIndex f s columns lengths → HasIndex Column f s lengths
  index_found {columns = columns} faults are count_is total_is is =
      record {
        columns = columns;
        there = rw (← index_count f s columns _ faults is, ← count_is, ← total_is) are;
        index = is;
      }

  -- or none
  pub no_index : {count total : ℕ} {columns : List ℕ} (bytes : List ℕ)
      → AreColumns Column (column_bytes f s) 0 total columns → count ≡ count_in bytes → count ≤ 2 * f
      → total ≡ index_columns (column_bytes f s) count → Column 0 bytes
      → ((lengths : List ℕ) → IsIndex f s columns lengths → ⊥) → HasBadIndex Column f s
  no_index bytes are count_is few total_is is none =
      of_none bytes is (rw count_is at few) _ (rw (← count_is, ← total_is) are) none

  -- the columns of a member are few
  pub few_columns : {lengths : List ℕ} (k : ℕ) → f ≤ 333 → HasIndex Column f s lengths → k < length lengths
      → first_column (column_bytes f s) lengths k + columns_for (column_bytes f s) (get_or lengths k 0) ≤ 667
  few_columns {lengths = lengths} k faults has h =
      omega (arith, member_within (column_bytes f s) lengths k h, has.index.size.room)

  -- a column of a member is missing
  pub member_missing : {lengths : List ℕ} {k start total j : ℕ} → HasIndex Column f s lengths → k < length lengths
      → start ≡ first_column (column_bytes f s) lengths k → total ≡ columns_for (column_bytes f s) (get_or lengths k 0)
      → IsFirstMissing Column (start + 0) (start + total) j → MissesColumn Column f s k j
  member_missing has h start_is total_is miss =
      of_member _ has h (rw (← start_is, ← total_is) (rw (add-zero _) at miss))
