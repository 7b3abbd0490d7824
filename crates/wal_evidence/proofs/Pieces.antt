-- Pieces of one length that things have, one after the other.
use Rattle.wal_evidence.proofs.Common.{◌≡◌, ℕ, zero, suc, ◌+◌, ◌*◌, ◌<◌, List, [], ◌∷◌, length, get_or, All, arith, length-append, flat_map, take-append_seam, All-head, All-tail, region, region_after}

module _ {Y : Type 0} (piece : Y → List ℕ) where
  -- all together are as long as their number says
  pub pieces_long : (s : ℕ) (ys : List Y) → All (λ y. length (piece y) ≡ s) ys → length (flat_map piece ys) ≡ length ys * s
  pieces_long s [] sizes = omega arith
  pieces_long s (y ∷ ys) sizes =
      let first = All-head (λ (x : Y). length (piece x) ≡ s) y ys sizes in
      let rest = pieces_long s ys (All-tail (λ (x : Y). length (piece x) ≡ s) y ys sizes) in
      omega (arith, length-append (piece y) (flat_map piece ys), first, rest)

  -- and each stands in its place
  pub piece_at : (s : ℕ) (ys : List Y) (k : ℕ) (d : Y) → All (λ y. length (piece y) ≡ s) ys → k < length ys
      → region s (flat_map piece ys) k ≡ piece (get_or ys k d)
  piece_at s [] k d sizes l = absurd (omega arith)
  piece_at s (y ∷ ys) zero d sizes l =
      let first = All-head (λ (x : Y). length (piece x) ≡ s) y ys sizes in
      let none : s * 0 ≡ 0 = omega arith in
      rw (none, ← first) (take-append_seam (piece y) (flat_map piece ys))
  piece_at s (y ∷ ys) (suc k) d sizes l =
      let first = All-head (λ (x : Y). length (piece x) ≡ s) y ys sizes in
      let next : suc k ≡ 1 + k = omega arith in
      let after = region_after s k 1 (piece y) (flat_map piece ys) (omega (arith, first)) in
      let rest = piece_at s ys k d (All-tail (λ (x : Y). length (piece x) ≡ s) y ys sizes) (omega arith) in
      cc (next, after, rest)
