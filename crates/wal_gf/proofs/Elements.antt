-- Lists of field elements, and the lists of their numbers.
use Rattle.wal_gf.proofs.Common.{◌≡◌, ℕ, ◌<◌, List, ◌++◌, length, take, get_or, All, ap, ◌∙◌, arith, length-map, IsWord, words_of, Gf}
use Rattle.std.proofs.Math.ListN.{get_or-map}
use Rattle.std.proofs.Math.Seq.{take-append_seam}

-- what a read of a list of elements gives past its end
abbrev pub zero_element : Gf
zero_element = record { 0 = 0 }

pub number_at : (gs : List Gf) (i : ℕ) → get_or (words_of gs) i 0 ≡ (get_or gs i zero_element).0
number_at gs i = get_or-map (λ (g : Gf). g.0) gs i zero_element

pub length-words_of : (gs : List Gf) → length (words_of gs) ≡ length gs
length-words_of gs = length-map gs (λ (g : Gf). g.0)

pub element_word : (gs : List Gf) (i : ℕ) → i < length gs → All IsWord (words_of gs) → IsWord (get_or gs i zero_element).0
element_word gs i within lows = rw (number_at gs i) at (lows i 0 (omega (arith, length-words_of gs)))

-- a Vec after a slice of all its elements was written
pub take-written : (xs ys : List Gf) (n : ℕ) → n ≡ length xs → take n (xs ++ ys) ≡ xs
take-written xs ys n same = ap (λ (k : ℕ). take k (xs ++ ys)) same ∙ take-append_seam xs ys
