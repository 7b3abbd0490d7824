-- What the proofs of this crate cite from elsewhere, and of its own definitions, handed on from one place. Declares nothing.
pub use Rattle.std.proofs.Common.{◌≡◌, ◌≢◌, ℕ, zero, suc, ◌+◌, ◌<◌, ◌≤◌, List, [], ◌∷◌, length, slice_index, Bool, true, false, cond, eqb, ltb, eq-eqb, bit_xor, refl, sym, ap, ap₂, ◌∙◌, arith, lit<, zero-add, inl, inr, ◌-◌, ◌*◌, ◌^◌, ◌++◌, get_or, map, slice_index_or, pow_mono, ◌%◌, T, mod-lt, pow-suc, pow_pos, eqb→eq, drop, add-one, drop-cons, drop_of_length-le, ◌/◌, rules, take}
pub use Rattle.std.proofs.lemmas.Bool.{ne_eqb, cases_Bool, cases_eq, both_ways, false_from_ne_true, cond_both, lt-ltb}
pub use Rattle.std.proofs.lemmas.Nat.{xor_comm, xor_lt}
pub use Rattle.std.specs.Int.Bits.{xor_self, xor_assoc, xor_zero_l, xor_zero_r}
pub use Rattle.wal_code.proofs.Codes.{function, to_polynomial, of_polynomial, codeword_unique, codeword-word, combination-codeword, combination-known}
pub use Rattle.wal_code.specs.Codeword.{Distinct, IsCodeword, combination, coefficient}
pub use Rattle.wal_code.specs.Weights.{element_at}
pub use Rattle.wal_fft.proofs.Degrees.{IsPoint, skew-polynomial, value-polynomial}
pub use Rattle.wal_fft.proofs.Lanes.{lane-left, lane-right, lane-sum, copied_word}
pub use Rattle.wal_fft.proofs.StripLaws.{runs_fit}
pub use Rattle.wal_fft.proofs.ProductDegrees.{product_of}
pub use Rattle.wal_fft.proofs.Values.{value-zero, value-suc, value-same, value-line, AreWords, value-lt}
pub use Rattle.wal_fft.specs.Transform.{skew, value, lane, scaled, WasAdded, AreValues, AreCoefficients}
pub use Rattle.wal_gf.proofs.Additive.{xor_back, additive-zero, all_below-at}
unfoldable pub use Rattle.wal_gf.proofs.Additive.{all_below}
pub use Rattle.wal_gf.proofs.Instance.{Element, element_of, xor-lt, element-path, element_of-word}
unfoldable pub use Rattle.wal_gf.proofs.Instance.{words}
pub use Rattle.wal_gf.proofs.Inverses.{times-inverse, inverse-lt, zero_factor}
pub use Rattle.wal_gf.proofs.Polynomials.{IsPolynomial, IsPolynomial-constant, IsPolynomial-line, IsPolynomial-same, IsPolynomial-nothing, IsPolynomial-plus, IsPolynomial-times}
pub use Rattle.wal_gf.proofs.Products.{times-lt, zero-times, times_left_comm, times_assoc, times_comm, one-times, times-zero, times-one}
pub use Rattle.wal_gf.specs.Field.{inverse}
unfoldable pub use Rattle.wal_gf.specs.Field.{times}
pub use Rattle.wal_gf.specs.declared.Gf.{Gf}
pub use Rattle.wal_kernel.proofs.Words.{word_at-lt, word_at-region, word_at-zeros}
pub use Rattle.wal_kernel.specs.Region.{word_at, region}
pub use Rattle.wal_erasure.specs.inside.Derivative.{rate, AreDerived, scale}
unfoldable pub use Rattle.wal_erasure.specs.inside.Derivative.{quotient, slope}
pub use Rattle.wal_erasure.specs.inside.Locator.{others, AreFactors, AreMarks}
unfoldable pub use Rattle.wal_erasure.specs.inside.Locator.{is_known, locator}
pub use Rattle.wal_erasure.specs.inside.Run.{ArePut, AreTaken, AreSolved, AreCopied, IsCopy}
