-- The matrix of words through given primary slivers: each sliver goes on along its row, and the columns go through these rows.
use Rattle.wal_matrix.proofs.Common.{◌≡◌, ℕ, ◌*◌, ◌%◌, ◌<◌, ◌≤◌, List, length, get_or, sym, ap, subst, ◌∙◌, arith, All, range_with_len, get_or-range_with_len, length-range_with_len, IsCodeword, Distinct, combination, IsCodeword-same, codeword-word, combination-codeword, combination-known, every_row, word_at, shard_count, row_count, column_count, symbol}
use Rattle.wal_matrix.proofs.Codewords.{AreBytes, range_distinct}
use Rattle.wal_matrix.proofs.MatrixLaws.{word_of_symbol}

-- as many joined primary slivers as there are rows, and their distinct indices
pub record AreSlivers (f s : ℕ) (indices joined : List ℕ) : Type 0 where
  pub few : f ≤ 333
  pub even : s % 2 ≡ 0
  pub some : 0 < s
  pub count : length indices ≡ row_count f
  pub distinct : Distinct indices
  pub below : All (λ i. i < shard_count f) indices
  pub size : length joined ≡ row_count f * (column_count f * s)
  pub bytes : AreBytes joined

-- word w of symbol j of the sliver at place k
abbrev pub given : ℕ → ℕ → List ℕ → ℕ → ℕ → ℕ → ℕ
given f s joined k j w = word_at (symbol (column_count f) s joined k j) w

-- the sliver at place k goes on along its row
abbrev pub along : ℕ → ℕ → List ℕ → ℕ → ℕ → ℕ → ℕ
along f s joined k c w = combination (range_with_len 0 (column_count f)) (λ j. given f s joined k j w) c

-- and each column goes through these rows
abbrev pub across : ℕ → ℕ → List ℕ → List ℕ → ℕ → ℕ → ℕ → ℕ
across f s indices joined r c w = combination indices (λ k. along f s joined k c w) r

module _ (f s : ℕ) (indices joined : List ℕ) (are : AreSlivers f s indices joined) where
  pub given-word : (k j w : ℕ) → given f s joined k j w < 65536
  given-word k j w = word_of_symbol (column_count f) s joined k j w are.bytes

  first_place : (i : ℕ) → i < column_count f → get_or (range_with_len 0 (column_count f)) i 0 ≡ i
  first_place i l = omega (arith, get_or-range_with_len 0 (column_count f) i 0 l)

  first_word : (i : ℕ) → i < length (range_with_len 0 (column_count f))
      → get_or (range_with_len 0 (column_count f)) i 0 < 65536
  first_word i l =
      let all = length-range_with_len 0 (column_count f) in
      omega (arith, first_place i (omega arith))

  along-codeword : (k w : ℕ) → IsCodeword (column_count f) (shard_count f) (λ c. along f s joined k c w)
  along-codeword k w =
      let m = column_count f in
      subst (λ (d : ℕ). IsCodeword d (shard_count f) (λ c. along f s joined k c w)) (length-range_with_len 0 m)
      (combination-codeword (shard_count f) (range_with_len 0 m) (λ j. given f s joined k j w) (omega arith)
      (range_distinct 0 m) first_word (λ i l. given-word k i w))

  along-word : (k c w : ℕ) → c < shard_count f → along f s joined k c w < 65536
  along-word k c w hc =
      codeword-word (column_count f) (shard_count f) (λ a. along f s joined k a w) (omega arith) (along-codeword k w) c
      hc

  pub index_word : (i : ℕ) → i < length indices → get_or indices i 0 < 65536
  index_word i l = omega (arith, are.below i 0 l)

  across-codeword : (c w : ℕ) → c < shard_count f
      → IsCodeword (length indices) (shard_count f) (λ r. across f s indices joined r c w)
  across-codeword c w hc =
      combination-codeword (shard_count f) indices (λ k. along f s joined k c w) (omega arith) are.distinct index_word
      (λ k l. along-word k c w hc)

  across-known : (k c w : ℕ) → k < length indices → c < shard_count f
      → across f s indices joined (get_or indices k 0) c w ≡ along f s joined k c w
  across-known k c w hk hc =
      combination-known indices (λ a. along f s joined a c w) are.distinct index_word (λ a l. along-word a c w hc) k hk

  pub across-column : (c w : ℕ) → c < shard_count f
      → IsCodeword (row_count f) (shard_count f) (λ r. across f s indices joined r c w)
  across-column c w hc =
      subst (λ (d : ℕ). IsCodeword d (shard_count f) (λ r. across f s indices joined r c w)) are.count
      (across-codeword c w hc)

  pub across-word : (r c w : ℕ) → r < shard_count f → c < shard_count f → across f s indices joined r c w < 65536
  across-word r c w hr hc =
      codeword-word (length indices) (shard_count f) (λ a. across f s indices joined a c w) (omega arith)
      (across-codeword c w hc) r hr

  pub across-row : (r w : ℕ) → r < shard_count f
      → IsCodeword (column_count f) (shard_count f) (λ c. across f s indices joined r c w)
  across-row r w hr =
      let m = column_count f in
      let n = shard_count f in
      every_row m n n indices (λ a c. across f s indices joined a c w) are.distinct (λ i l. are.below i 0 l)
      (omega arith) (omega arith)
      (λ k hk.
      IsCodeword-same m n (λ c. along f s joined k c w) (λ c. across f s indices joined (get_or indices k 0) c w)
      (λ c hc. across-known k c w hk hc) (along-codeword k w))
      (λ c hc. across-codeword c w hc) r hr

  -- at the given places it has the given words
  pub across-given : (k c w : ℕ) → k < length indices → c < column_count f
      → across f s indices joined (get_or indices k 0) c w ≡ given f s joined k c w
  across-given k c w hk hc =
      let m = column_count f in
      across-known k c w hk (omega arith) ∙ ap (λ (a : ℕ). along f s joined k a w) (sym (first_place c hc))
      ∙ combination-known (range_with_len 0 m) (λ j. given f s joined k j w) (range_distinct 0 m) first_word
      (λ i l. given-word k i w) c (omega (arith, length-range_with_len 0 m))
