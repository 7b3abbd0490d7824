-- What the proofs of this crate cite from elsewhere, and of its own definitions, handed on from one place. Declares nothing.
pub use Rattle.std.proofs.Common.{◌≡◌, ap₂, List, [], ◌∷◌, refl, ◌≢◌, ◌∙◌, sym, ℕ, zero, suc, length, arith, ◌⊎◌, inl, inr, cond, subst, ap, ◌<◌, ◌%◌, map, lit<, eqb, bit_xor, eq-eqb, eqb-true, mod-eq_of_lt, ◌+◌, ◌*◌, ◌/◌, ◌^◌, Bool, T, mul_comm, mod-lt, div-add-mod', eqb→eq, zero-add, suc-add, get_or, pow-suc, true, false, ◌++◌, take, All, ◌-◌, ◌≤◌, set, replicate, take-suc, length-take-le, length-append, AllPairs, zero-mul, one-mul, add-zero, div-lt_iff_lt-mul, pow_pos, eq-or-lt_of_le, ⊎_elim, bit_and, rules, pow_mono, pow-add, below_more, drop, slice_index_or, drop-cons, drop_of_length-le, add-one, lit≤, mul_assoc}
pub use Rattle.std.proofs.lemmas.List.{length-map, length-replicate, get_or_default, map-append, map-set}
pub use Rattle.std.proofs.lemmas.List.Elements.{All-append, All-replicate, recursion_from_All, All-cons, All-nil, All-set}
pub use Rattle.std.proofs.lemmas.Nat.{xor_comm, xor_lt, xor_mod, xor_shr, xor_block, and_mask, one_shl}
pub use Rattle.std.proofs.lemmas.Nat.Bits.{bit_at_cat_low, bit_at_lowest, bit_at_xor, bit_at-lt, and_pow}
pub use Rattle.std.specs.Int.{bit_at}
pub use Rattle.std.specs.Int.Bits.{xor_assoc, xor_self, xor_zero_r, xor_zero_l}
pub use Rattle.std.specs.List.{AllByRecursion, take-map}
pub use Rattle.wal_gf.specs.Field.{inverse, modulus, IsWord}
unfoldable pub use Rattle.wal_gf.specs.Field.{times, xor_below, product, cancel, remainder, power}
pub use Rattle.wal_gf.specs.Interpolation.{words_of, with_zeros, HasValues, IsOnlyWithValues}
pub use Rattle.wal_gf.specs.Laws.{HasFewRoots, DividesWithRemainder}
unfoldable pub use Rattle.wal_gf.specs.Polynomial.{evaluate}
pub use Rattle.wal_gf.specs.declared.Gf.{Gf}
