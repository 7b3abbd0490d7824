-- A number that is read is the number that was written, and its bytes are the bytes that were read.
use Rattle.wal_shape.proofs.Common.{◌≡◌, ℕ, ◌+◌, ◌%◌, ◌^◌, ◌<◌, ◌≤◌, List, [], ◌∷◌, length, get_or, take, drop, refl, ap, arith, inl, inr, Width, w8, w16, w32, w64, byte_len, from_be_bytes, to_be_bytes, cases_lt, length-take, get_or-drop, get_or-take, get_or_past, be_bytes_2, be_bytes_4, be_bytes_8, from_be_bytes-to_be_bytes_2, from_be_bytes-to_be_bytes_4, from_be_bytes-to_be_bytes_8}

-- each number of the list is a byte
abbrev pub IsBytes : List ℕ → Type 0
IsBytes bytes = (i : ℕ) → get_or bytes i 0 < 256

pub IsBytes-drop : (n : ℕ) (bytes : List ℕ) → IsBytes bytes → IsBytes (drop n bytes)
IsBytes-drop n bytes h i = rw get_or-drop (h (n + i))

pub IsBytes-take : (n : ℕ) (bytes : List ℕ) → IsBytes bytes → IsBytes (take n bytes)
IsBytes-take n bytes h i =
    elim (cases_lt i n) [
      | inl lt ↦ rw (get_or-take n bytes i 0 lt) (h i)
      | inr le ↦ rw (get_or_past (take n bytes) i 0 (omega (arith, length-take n bytes))) (omega arith)
    ]

-- a width, and the numbers that fit it
pub record IsWide (w : Width) (limit : ℕ) : Type 0 where
  pub some : 1 ≤ byte_len w
  pub len : (n : ℕ) → length (to_be_bytes w n) ≡ byte_len w
  pub back : (bytes : List ℕ) → length bytes ≡ byte_len w → IsBytes bytes → to_be_bytes w (from_be_bytes w bytes) ≡ bytes
  pub again : (n : ℕ) → n < limit → from_be_bytes w (to_be_bytes w n) ≡ n
  pub below : (bytes : List ℕ) → IsBytes bytes → from_be_bytes w bytes < limit

-- a single byte is its own spelling
one_byte : (bytes : List ℕ) → length bytes ≡ 1 → IsBytes bytes → to_be_bytes w8 (from_be_bytes w8 bytes) ≡ bytes
one_byte [] len fits = absurd (omega arith)
one_byte (b ∷ []) len fits = (let small : b % 256 ≡ b = omega (arith, fits 0) in ap (λ (n : ℕ). n ∷ []) small)
one_byte (b ∷ c ∷ bytes) len fits = absurd (omega arith)

-- and a number below 256 is spelled as itself
pub byte_text : (n : ℕ) → n < 256 → n ∷ [] ≡ to_be_bytes w8 n
byte_text n lt = let small : n ≡ n % 256 = omega arith in ap (λ (k : ℕ). k ∷ []) small

-- eight bits hold the numbers below 2^8
pub wide8 : IsWide w8 (2 ^ 8)
wide8 = record {
  some = omega arith;
  len = λ n. refl;
  back = one_byte;
  again = λ n lt. omega arith;
  below = λ bytes fits. fits 0;
}

-- sixteen bits hold the numbers below 2^16
pub wide16 : IsWide w16 (2 ^ 16)
wide16 = record {
  some = omega arith;
  len = λ n. refl;
  back = λ bytes len fits. be_bytes_2 bytes _ len fits refl;
  again = λ n lt. from_be_bytes-to_be_bytes_2 n lt;
  below = λ bytes fits. omega (arith, fits 0, fits 1);
}

-- and thirty-two those below 2^32
pub wide32 : IsWide w32 (2 ^ 32)
wide32 = record {
  some = omega arith;
  len = λ n. refl;
  back = λ bytes len fits. be_bytes_4 bytes _ len fits refl;
  again = λ n lt. from_be_bytes-to_be_bytes_4 n lt;
  below = λ bytes fits. omega (arith, fits 0, fits 1, fits 2, fits 3);
}

-- and sixty-four those below 2^64
pub wide64 : IsWide w64 (2 ^ 64)
wide64 = record {
  some = omega arith;
  len = λ n. refl;
  back = λ bytes len fits. be_bytes_8 bytes _ len fits refl;
  again = λ n lt. from_be_bytes-to_be_bytes_8 n lt;
  below = λ bytes fits. omega (arith, fits 0, fits 1, fits 2, fits 3, fits 4, fits 5, fits 6, fits 7);
}
