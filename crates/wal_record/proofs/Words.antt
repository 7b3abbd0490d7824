-- Bits of words.
use Rattle.std.proofs.Common.{◌≡◌, ℕ, ◌+◌, ◌*◌, ◌/◌, ◌%◌, ◌^◌, ◌<◌, Bool, true, false, ◌&&◌, ◌||◌, nat_eq, List, length, slice_set, slice_index_or, refl, sym, ap, arith, bit_or, inl, inr}
use Rattle.std.proofs.lemmas.Bool.{cases_eq, cases_lt, eq-eqb, ne_eqb, lt-ltb, le-ltb}
use Rattle.std.proofs.Math.Bool.{or-false}
use Rattle.std.proofs.lemmas.List.{get_or-set_same, get_or-set_other}
use Rattle.std.proofs.lemmas.Nat.Bits.{bit_at_set_same, bit_at_set_other}
use Rattle.std.proofs.lemmas.Nat.{div-add-mod'}
use Rattle.std.specs.Int.{bit_at, w64}
use Rattle.wal_record.specs.Bits.{member}
use Rattle.wal_record.specs.Record.{within}

-- the word with one more bit
abbrev pub with_bit : ℕ → ℕ → ℕ
with_bit word bit = bit_or word (1 * 2 ^ bit % 2 ^ 64)

or_true : (b : Bool) → (b || true) ≡ true
or_true true = refl
or_true false = refl

-- a set with one more member
pub member_set : (words : List ℕ) (t s : ℕ) → t / 64 < length words → member (slice_set words (t / 64) (with_bit (slice_index_or words (t / 64) 0) (t % 64))) s ≡ (member words s || nat_eq t s)
member_set words t s lt = elim (cases_eq (s / 64) (t / 64)) [
  | inl word ↦ elim (cases_eq (s % 64) (t % 64)) [
    | inl bit ↦
        let same : t ≡ s = omega (arith, div-add-mod' t 64, div-add-mod' s 64, word, bit) in
        rw (word, bit, get_or-set_same words (t / 64) (with_bit (slice_index_or words (t / 64) 0) (t % 64)) 0 lt, bit_at_set_same w64 (slice_index_or words (t / 64) 0) (t % 64) (omega arith), eq-eqb t s same)
        (sym (or_true (nat_eq (bit_at (slice_index_or words (t / 64) 0) (t % 64)) 1)))
    | inr bit ↦
        let apart : nat_eq t s ≡ false = ne_eqb t s (λ h. bit (ap (λ (n : ℕ). n % 64) (sym h))) in
        rw (word, get_or-set_same words (t / 64) (with_bit (slice_index_or words (t / 64) 0) (t % 64)) 0 lt, bit_at_set_other w64 (slice_index_or words (t / 64) 0) (t % 64) (omega arith) (s % 64) bit, apart, or-false) refl
  ]
  | inr word ↦
      let apart : nat_eq t s ≡ false = ne_eqb t s (λ h. word (ap (λ (n : ℕ). n / 64) (sym h))) in
      rw (get_or-set_other words (t / 64) (s / 64) (with_bit (slice_index_or words (t / 64) 0) (t % 64)) 0 word, apart, or-false) refl
]

-- the members below one more
pub within_more : (k : ℕ) (p : ℕ → Bool) (s : ℕ) → within (k + 1) p s ≡ (within k p s || (nat_eq k s && p k))
within_more k p s = elim (cases_eq k s) [
  | inl e ↦ rw (eq-eqb k s e, le-ltb s k (omega arith), lt-ltb s (k + 1) (omega arith)) (ap p (sym e))
  | inr ne ↦ rw (ne_eqb k s ne, or-false) (elim (cases_lt s k) [
    | inl lt ↦ rw (lt-ltb s k lt, lt-ltb s (k + 1) (omega arith)) refl
    | inr le ↦ rw (le-ltb s k le, le-ltb s (k + 1) (omega arith)) refl
  ])
]
