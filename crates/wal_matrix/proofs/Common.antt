-- What the proofs of this crate cite from elsewhere, and of its own definitions, handed on from one place. Declares nothing.
pub use Rattle.std.proofs.Common.{◌≡◌, ℕ, ◌+◌, ◌-◌, ◌*◌, ◌<◌, ◌≤◌, List, [], ◌∷◌, ◌++◌, length, take, drop, refl, sym, ap, subst, ◌∙◌, arith, add-one, zero-add, length-append, length-take, length-drop, zero, suc, ⊎_elim, get_or, bit_xor, ◌/◌, slice_index, ◌%◌, All, min, replicate, below_more, ap₂, Fits, w8, rules, ◌^◌, vec_len, length-take-le, vec_capacity}
pub use Rattle.std.proofs.Math.Nat.{mul-le-mul_left, mul_comm, mul-le-mul_right, mul-mod_left, le-mul_of_pos_right}
pub use Rattle.std.proofs.Math.Seq.{take-add, drop-append-add, take-append-add}
pub use Rattle.std.proofs.lemmas.Bool.{cases_lt}
pub use Rattle.std.proofs.lemmas.List.{append-nil, map-id, take_at, drop_at, drop-append-le, take-append-le, take_all, take-append-drop, drop-take, drop-drop, take-take, get_or_past, get_or-take, get_or-drop, ext_get_or, append_assoc, get_or_append_left, get_or-append_right, get_or-append-add, length-replicate, replicate-append-replicate, drop-replicate}
pub use Rattle.std.proofs.lemmas.List.FromFn.{map-range_with_len_more, get_or-range_with_len, length-range_with_len}
pub use Rattle.std.proofs.lemmas.Nat.{div_below, mod_below, div-add-mod', row_fits, div-mul-add, mod-mul-add, mul-add-lt, mul-le}
pub use Rattle.std.specs.List.{flat_map, range_with_len}
pub use Rattle.wal_code.proofs.Codes.{IsCodeword-same, codeword_unique_first, every_row_first, table_unique_first, codeword-word, combination-codeword, combination-known, every_row, codeword_unique, table_unique}
pub use Rattle.wal_code.proofs.Totals.{xor_below-more, xor_below-same}
pub use Rattle.wal_code.specs.Codeword.{coefficient, combination, IsCodeword, Distinct}
pub use Rattle.wal_gf.specs.Field.{times, IsWord}
unfoldable pub use Rattle.wal_gf.specs.Field.{xor_below}
pub use Rattle.wal_kernel.proofs.Regions.{region-byte, region-append_left, region-drop}
pub use Rattle.wal_kernel.proofs.Words.{bytes_from_words, word_at-region, word_at-take, word_at-drop}
pub use Rattle.wal_kernel.specs.Region.{region, word_at, IsScaledSum}
pub use Rattle.wal_shape.proofs.ShapeLaws.{symbol_size-least}
pub use Rattle.wal_shape.specs.Shape.{row_count, column_count, shard_count, most_bytes, sliver_symbols, crossing}
unfoldable pub use Rattle.wal_shape.specs.Shape.{symbol_size}
pub use Rattle.wal_shape.specs.declared.axis.Axis.TheVariants.{Secondary, Primary}
unfoldable pub use Rattle.wal_matrix.specs.Columns.{row_of_columns, block_of_columns}
pub use Rattle.wal_matrix.specs.Matrix.{IsExtended, IsCodedMatrix, IsMatrixOf, line_of, sliver_of}
unfoldable pub use Rattle.wal_matrix.specs.Matrix.{primary_of, padded, symbol, row_of, column_part, column_of, secondary_of}
pub use Rattle.wal_matrix.specs.Through.{IsMatrixThrough}
unfoldable pub use Rattle.wal_matrix.specs.Through.{source_of}
pub use Rattle.wal_matrix.specs.Word.{IsWordOf, PassesCodeword, BeginsCodeword}
pub use Rattle.wal_matrix.specs.inside.Front.{ArePut}
pub use Rattle.wal_matrix.specs.inside.Row.{IsRowFrom}
unfoldable pub use Rattle.wal_matrix.specs.inside.Row.{laid_row}
pub use Rattle.wal_matrix.specs.inside.Strips.{AreSources, IsRowStrip, AreRowStrips}
pub use Rattle.wal_matrix.specs.inside.Sum.{IsWeightedSum}
pub use Rattle.wal_matrix.specs.inside.Turned.{IsTurnedExtension}
