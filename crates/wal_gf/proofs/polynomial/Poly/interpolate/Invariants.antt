use Rattle.wal_gf.proofs.Common.{◌≡◌, ◌≢◌, ℕ, ◌+◌, ◌<◌, length, get_or, All, IsWord, evaluate, words_of}
use Rattle.wal_gf.proofs.polynomial.Poly.interpolate.Given as goal

-- `found` has the values at the points so far, and `vanishing` has just these points as roots
abbrev pub invariant-loop-i : goal.invariant-loop-i
invariant-loop-i l = record {
  points : (j : ℕ) → j < l.i → IsWord (get_or (words_of l.points) j 0);
  words : All IsWord l.found;
  vanishing_words : All IsWord l.vanishing;
  size : length l.found ≡ l.i;
  vanishing_size : length l.vanishing ≡ l.i + 1;
  values : (j : ℕ) → j < l.i → evaluate l.found (get_or (words_of l.points) j 0) ≡ get_or (words_of l.values) j 0;
  roots : (j : ℕ) → j < l.i → evaluate l.vanishing (get_or (words_of l.points) j 0) ≡ 0;
  others : (x : ℕ) → IsWord x → ((j : ℕ) → j < l.i → x ≢ get_or (words_of l.points) j 0) → evaluate l.vanishing x ≢ 0;
}
