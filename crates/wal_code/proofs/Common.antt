-- What the proofs of this crate cite from elsewhere, and of its own definitions, handed on from one place. Declares nothing.
pub use Rattle.std.proofs.Common.{◌≡◌, ◌≢◌, ◌∙◌, sym, ℕ, zero, suc, ◌+◌, ◌<◌, ◌≤◌, List, [], ◌∷◌, ◌++◌, length, get_or, take, drop, refl, arith, lit<, Bool, cond, eqb, eq-eqb, bit_xor, add-one, drop-cons, drop_of_length-le, ap, ◌*◌, slice_index, length-append, inl, inr, ap₂, slice_index_or, map, subst, length-take, ◌-◌}
pub use Rattle.std.proofs.lemmas.Bool.{ne_eqb, cond_both}
pub use Rattle.std.proofs.lemmas.Grind.{get_or_default_zero, common_steps}
pub use Rattle.std.proofs.lemmas.List.{get_or_append_left, get_or-append-add, length-map, ext_get_or, get_or-take}
pub use Rattle.std.proofs.lemmas.List.Elements.{recursion_from_All, All-from_recursion}
pub use Rattle.std.specs.List.{AllByRecursion, range_with_len}
pub use Rattle.std.specs.Prelude.{All}
pub use Rattle.wal_gf.proofs.Instance.{xor-lt, Element, element_of, elements_of, element_of-word, element-path, numbers_of, numbers_of-words, value-evaluate, numbers_of-elements}
unfoldable pub use Rattle.wal_gf.proofs.Instance.{words}
pub use Rattle.wal_gf.proofs.Lagrange.{through-polynomial, through-known, interpolation}
unfoldable pub use Rattle.wal_gf.proofs.Lagrange.{through, Among}
pub use Rattle.wal_gf.proofs.Polynomials.{value, IsPolynomial, polynomial_unique}
unfoldable pub use Rattle.wal_gf.proofs.Polynomials.{Apart}
pub use Rattle.wal_gf.proofs.Products.{times-lt, times_assoc, times-one, one-times}
pub use Rattle.wal_gf.specs.Field.{IsWord, times, inverse}
unfoldable pub use Rattle.wal_gf.specs.Field.{xor_below}
pub use Rattle.wal_gf.specs.Polynomial.{evaluate}
pub use Rattle.wal_gf.specs.declared.Gf.{Gf}
pub use Rattle.wal_code.specs.Codeword.{Distinct, combination, Interpolates, PassesThrough, IsCodeword}
unfoldable pub use Rattle.wal_code.specs.Codeword.{coefficient, factor}
pub use Rattle.wal_code.specs.Weights.{element_at, AreWeights}
unfoldable pub use Rattle.wal_code.specs.Weights.{product_of_others}
unfoldable pub use Rattle.wal_code.specs.inside.Weights.{product_of_all}
