-- A block that is turned into the front of a buffer, which is then extended region by region.
use Rattle.wal_matrix.proofs.Common.{◌≡◌, ℕ, ◌+◌, ◌*◌, ◌/◌, ◌%◌, ◌<◌, ◌≤◌, List, ◌++◌, length, take, drop, sym, ap, ◌∙◌, arith, take_at, take_all, IsCodeword, IsCodeword-same, word_at, region, word_at-region, symbol, IsTurnedExtension}
use Rattle.wal_matrix.proofs.Runs.{run_kept}
use Rattle.wal_matrix.proofs.Places.{run_fits, place_fits}
use Rattle.wal_matrix.proofs.Symbols.{joined-symbol}

-- a symbol of rows that were kept
pub symbol_kept : (rows n s : ℕ) (new old : List ℕ) (r c : ℕ) → r < rows → c < n
    → take (rows * (n * s)) new ≡ take (rows * (n * s)) old → symbol n s new r c ≡ symbol n s old r c
unfolding symbol
symbol_kept rows n s new old r c hr hc same =
    run_kept s ((r * n + c) * s) (rows * (n * s)) new old (omega (arith, place_fits r rows c n s hr hc)) same

-- a word of a run of an even size is a word of the whole
pub word_of_run : (s i w : ℕ) (xs : List ℕ) → s % 2 ≡ 0 → 2 * w < s
    → word_at (region s xs i) w ≡ word_at xs (s / 2 * i + w)
word_of_run s i w xs even low =
    let half : s ≡ 2 * (s / 2) = omega arith in
    ap (λ (k : ℕ). word_at (region k xs i) w) half ∙ word_at-region (s / 2) i w xs (omega arith)

-- and lies within as many runs
pub word_fits : (s i n w : ℕ) → s % 2 ≡ 0 → i < n → 2 * w < s → 2 * (s / 2 * i + w) + 1 < n * s
word_fits s i n w even h low =
    let half : s ≡ 2 * (s / 2) = omega arith in
    omega (arith, ap (λ (k : ℕ). k * i) half, run_fits i n s h)

-- codewords down rows are codewords down the symbols of the rows
pub column_codeword : (known total n s : ℕ) (e : List ℕ) → s % 2 ≡ 0
    → ((w : ℕ) → 2 * w < n * s → IsCodeword known total (λ r. word_at (region (n * s) e r) w))
    → (c w : ℕ) → c < n → 2 * w < s → IsCodeword known total (λ r. word_at (symbol n s e r c) w)
column_codeword known total n s e even codewords c w hc low =
    IsCodeword-same known total (λ r. word_at (region (n * s) e r) (s / 2 * c + w)) (λ r. word_at (symbol n s e r c) w)
    (λ r _. ap (λ (ys : List ℕ). word_at ys w) (sym (joined-symbol n s e r c hc))
    ∙ word_of_run s c w (region (n * s) e r) even low)
    (codewords (s / 2 * c + w) (omega (arith, word_fits s c n w even hc low)))

-- the block turned into the front, which the extension of the regions keeps
pub turned_extension_at : (lines known total size : ℕ) (block old front after : List ℕ) (end : ℕ) → size % 2 ≡ 0 → end ≡ known * (lines * size)
    → known ≤ total → length front ≡ end
    → ((r c : ℕ) → r < lines → c < known → symbol lines size front c r ≡ symbol known size block r c)
    → take end after ≡ take end (front ++ drop end old)
    → ((w : ℕ) → 2 * w < lines * size → IsCodeword known total (λ i. word_at (region (lines * size) after i) w))
    → IsTurnedExtension lines known total size block after
turned_extension_at lines known total size block old front after end even is fewer long turned kept codewords = record {
  source = λ r c hr hc.
      let front_kept : take end after ≡ take end front =
      kept ∙ take_at front (drop end old) end long ∙ sym (take_all end front (omega arith)) in
      symbol_kept known lines size after front c r hc hr (rw is at front_kept)
      ∙ turned r c hr hc;
  codeword = column_codeword known total lines size after even codewords;
}
