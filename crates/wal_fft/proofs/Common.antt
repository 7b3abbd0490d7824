-- What the proofs of this crate cite from elsewhere, and of its own definitions, handed on from one place. Declares nothing.
pub use Rattle.std.proofs.Common.{◌≡◌, ◌≢◌, ℕ, ◌+◌, ◌-◌, ◌*◌, ◌<◌, ◌≤◌, List, ◌++◌, length, take, drop, slice_index, bit_xor, refl, sym, ap, ap₂, ◌∙◌, arith, mul-le-mul_left, suc, ◌/◌, ◌^◌, pow_pos, pow-suc, inl, inr, zero, ◌%◌, [], ◌∷◌, T, eqb, lit<, mod-lt, add-zero, zero-add, zero-mul, one-mul, eqb→eq, ◌⊎◌, mul-le-mul_right, rules, pow_mono}
pub use Rattle.std.proofs.lemmas.Bool.{cases_lt}
pub use Rattle.std.proofs.lemmas.List.{get_or_past, length-take-le, get_or-take, ext_get_or}
pub use Rattle.std.proofs.lemmas.Nat.{xor_lt, xor_block, xor_comm}
pub use Rattle.std.specs.Int.{bit_at}
pub use Rattle.std.specs.Int.Bits.{xor_zero_r, xor_assoc, xor_self, xor_zero_l}
pub use Rattle.wal_code.proofs.Codes.{IsCodeword-same, function, of_polynomial}
pub use Rattle.wal_code.specs.Codeword.{IsCodeword}
pub use Rattle.wal_gf.proofs.Additive.{IsAdditive, xor_middle, xor_back, bit-additive, xor_below-additive, same_by_table, all_below-at}
unfoldable pub use Rattle.wal_gf.proofs.Additive.{all_below}
pub use Rattle.wal_gf.proofs.Polynomials.{IsPolynomial, IsPolynomial-nothing, IsPolynomial-constant, IsPolynomial-plus, IsPolynomial-times, IsPolynomial-line}
pub use Rattle.wal_gf.proofs.Products.{times-xor_left, times-xor_right, times_comm, times-one, times-zero, times-lt, one-times, times_left_comm, zero-times}
unfoldable pub use Rattle.wal_gf.specs.Field.{times, xor_below}
pub use Rattle.wal_kernel.proofs.Words.{word_at-take, word_at-drop, word_at-lt, word_at-region}
pub use Rattle.wal_kernel.specs.Region.{word_at, region}
pub use Rattle.wal_fft.specs.Transform.{lane, scaled, WasAdded, table, entry, AreValues, AreCoefficients}
unfoldable pub use Rattle.wal_fft.specs.Transform.{skew, value}
pub use Rattle.wal_fft.specs.inside.Strip.{IsGathered, IsScattered, IsExtendedStrip}
