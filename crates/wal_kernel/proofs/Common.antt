-- What the proofs of this crate cite from elsewhere, and of its own definitions, handed on from one place. Declares nothing.
pub use Rattle.std.proofs.Common.{◌≡◌, ◌==◌, if◌then◌else◌, ℕ, ◌+◌, ◌*◌, ◌/◌, ◌%◌, ◌<◌, ◌≤◌, List, length, slice_index, sym, ◌∙◌, ap, ap₂, refl, arith, bit_xor, subst, ◌++◌, take, drop, length-drop, zero, suc, zero-mul, one-mul, mod-eq_of_lt, length-append, ◌-◌, ◌^◌, ◌⊎◌, inl, inr, get_or, map, replicate, w8, bit_and, Fits, T, eqb, eqb→eq, eq-or-lt_of_le, w16, lit<, mod-lt, mul_comm, rules}
pub use Rattle.std.proofs.lemmas.List.{get_or-drop, get_or-take, drop-drop, drop-append-le, take-append-le, length-take-le, get_or_append_left, get_or-append_right, ext_get_or, take_rest}
pub use Rattle.std.proofs.lemmas.Nat.{xor_block, and_mask, xor_mod, xor_shr, xor_lt}
pub use Rattle.std.specs.Int.Bits.{and_zero_r, xor_zero_l, xor_zero_r}
pub use Rattle.wal_gf.proofs.Additive.{all_below-at, IsAdditive, shift-additive, sum-additive, same_by_table, top_split}
unfoldable pub use Rattle.wal_gf.proofs.Additive.{all_below}
unfoldable pub use Rattle.wal_gf.specs.Field.{times, product, xor_below, remainder, cancel}
pub use Rattle.wal_kernel.specs.Region.{word_at, IsScaledSum, IsSum, region}
pub use Rattle.wal_kernel.specs.inside.Lanes.{HasLanes, IsTable, word_of_lane, high_of_sixteenfold, low_of_sixteenfold, nibble_sum, AreMultiples}
pub use Rattle.wal_kernel.specs.inside.Region.{IsSumBelow, scaled_byte}
