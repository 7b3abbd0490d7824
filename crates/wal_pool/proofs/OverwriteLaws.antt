-- What a write from a place on leaves of a list.
use Rattle.wal_pool.proofs.Common.{◌≡◌, ℕ, zero, suc, ◌+◌, ◌≤◌, List, [], ◌∷◌, ◌++◌, length, take, drop, refl, ap, ◌∙◌, arith, take_at, overwrite}
use borrow.Rule.Slice.PartMut.{put_mid}

pub length-overwrite : (xs : List ℕ) (at : ℕ) (bs : List ℕ) → length (overwrite xs at bs) ≡ length xs
length-overwrite [] at bs = refl
length-overwrite (x ∷ xs) zero [] = refl
length-overwrite (x ∷ xs) zero (b ∷ bs) = ap suc (length-overwrite xs zero bs)
length-overwrite (x ∷ xs) (suc at) bs = ap suc (length-overwrite xs at bs)

pub take-overwrite : (n : ℕ) (xs : List ℕ) (at : ℕ) (bs : List ℕ) → take n (overwrite xs at bs) ≡ overwrite (take n xs) at bs
take-overwrite (suc n) (x ∷ xs) zero (b ∷ bs) = ap (λ ys. b ∷ ys) (take-overwrite n xs zero bs)
take-overwrite (suc n) (x ∷ xs) (suc at) bs = ap (λ ys. x ∷ ys) (take-overwrite n xs at bs)
take-overwrite n xs at bs = refl

pub drop-overwrite : (n : ℕ) (xs : List ℕ) (at m : ℕ) (bs : List ℕ) → m ≡ n + at → drop n (overwrite xs m bs) ≡ overwrite (drop n xs) at bs
drop-overwrite zero xs at m bs e = let same : m ≡ at = omega arith in ap (λ k. overwrite xs k bs) same
drop-overwrite (suc n) [] at m bs e = refl
drop-overwrite (suc n) (x ∷ xs) at zero bs e = absurd (omega arith)
drop-overwrite (suc n) (x ∷ xs) at (suc m) bs e = drop-overwrite n xs at m bs (omega arith)

overwrite_front : (xs bs : List ℕ) → length bs ≤ length xs → overwrite xs zero bs ≡ bs ++ drop (length bs) xs
overwrite_front [] [] fits = refl
overwrite_front [] (b ∷ bs) fits = absurd (omega arith)
overwrite_front (x ∷ xs) [] fits = refl
overwrite_front (x ∷ xs) (b ∷ bs) fits = ap (λ ys. b ∷ ys) (overwrite_front xs bs (omega arith))

-- a write to a part of a slice is such a write
pub overwrite_is : (xs : List ℕ) (at : ℕ) (bs : List ℕ) → at + length bs ≤ length xs → overwrite xs at bs ≡ put_mid at (length bs) xs bs
overwrite_is xs zero bs fits = overwrite_front xs bs (omega arith)
overwrite_is [] (suc at) bs fits = absurd (omega arith)
overwrite_is (x ∷ xs) (suc at) bs fits = ap (λ ys. x ∷ ys) (overwrite_is xs at bs (omega arith))

-- the same, where the part's length is known by an equation
pub put_mid_is : (xs : List ℕ) (at k : ℕ) (bs ys : List ℕ) → ys ≡ bs → k ≡ length bs → at + length bs ≤ length xs → put_mid at k xs ys ≡ overwrite xs at bs
put_mid_is xs at k bs ys same size fits = cc (overwrite_is xs at bs fits)

-- what is written at the front stands there
pub take-overwrite_front : (xs bs : List ℕ) → length bs ≤ length xs → take (length bs) (overwrite xs 0 bs) ≡ bs
take-overwrite_front xs bs fits = ap (take (length bs)) (overwrite_front xs bs fits) ∙ take_at bs (drop (length bs) xs) (length bs) refl
