-- What the proofs of this crate cite from elsewhere, and of its own definitions, handed on from one place. Declares nothing.
pub use Rattle.std.proofs.Common.{◌≡◌, ℕ, ◌+◌, ◌-◌, ◌*◌, ◌<◌, ◌≤◌, List, [], ◌∷◌, ◌++◌, length, length-append, get_or, map, take, drop, reverse, refl, sym, subst, ◌∙◌, ap, append_assoc, arith, zero, suc, ◌/◌, ◌%◌, ◌≢◌, ◌^◌, ap₂, slice_get, Some, option_map, All, ⊎_elim, inl, inr, take-append-drop, vec_len, rules}
pub use Rattle.std.proofs.Math.Nat.{lt_of_mul-lt-mul_right, mul-mod_left, mul-div_left, mul-le-mul_right, mul_comm}
pub use Rattle.std.proofs.lemmas.List.{take_at, drop_at, length-reverse, get_or-reverse, same_lists, ext_get_or, length-take-le, length-drop, get_or_past}
pub use Rattle.std.proofs.lemmas.List.FromFn.{length-map-range_with_len, get_or-map-range_with_len, get_or-range_with_len, length-range_with_len, map-range_with_len_more}
pub use Rattle.std.proofs.lemmas.Nat.{div-add-mod', mod_below, mul-add-lt}
pub use Rattle.std.specs.Int.{w8, w16, w32, w64, from_be_bytes}
pub use Rattle.std.specs.List.{AllByRecursion, flat_map, range_with_len, concat}
pub use Rattle.wal_kernel.specs.Region.{region}
pub use Rattle.wal_lanes.specs.Pieces.{AreDigests}
pub use Rattle.wal_lanes.specs.Strips.{AreDigestsOf, IsStrip}
pub use Rattle.wal_matrix.proofs.Codewords.{AreBytes, bytes_of_part}
pub use Rattle.wal_matrix.proofs.Existence.{extended_exists}
pub use Rattle.wal_matrix.proofs.MatrixLaws.{bytes_within, extended_unique}
pub use Rattle.wal_matrix.proofs.Places.{run_fits}
pub use Rattle.wal_matrix.proofs.Runs.{pieces_more, region_long, length-pieces, piece_at}
pub use Rattle.wal_matrix.proofs.Slivers.{row_is, row_of-symbol, row_fits, row_long, column_is, column_long, column_part-symbol, column_part_long}
pub use Rattle.wal_matrix.proofs.Words.{bytes_joined, bytes_of_column, line_long, lines_cross, line_is_word, sliver_long, word_unique}
pub use Rattle.wal_matrix.specs.Front.{IsFrontOf, FrontState}
pub use Rattle.wal_matrix.specs.Matrix.{IsExtended, line_of, IsCodedMatrix, sliver_of, column_part, symbol_bytes, shards}
unfoldable pub use Rattle.wal_matrix.specs.Matrix.{row_of, column_of, symbol}
pub use Rattle.wal_shape.proofs.MetadataLaws.{length-metadata_text, metadata_text-injective}
pub use Rattle.wal_shape.proofs.Numbers.{wide16, IsBytes-drop, IsBytes-take}
pub use Rattle.wal_shape.proofs.ShapeLaws.{symbol_size-least}
pub use Rattle.wal_shape.specs.MetaRef.{metadata_shown}
pub use Rattle.wal_shape.specs.Metadata.{BlobMetadata, IsMetadata, held_index, held_order, roots_of}
pub use Rattle.wal_shape.specs.Opening.{IsBody, opening_shown}
pub use Rattle.wal_shape.specs.Shape.{BlobShape, IsShape, shard_count, most_bytes, crossing, sliver_symbols}
unfoldable pub use Rattle.wal_shape.specs.Shape.{symbol_size}
pub use Rattle.wal_shape.specs.Spelling.{format_text, text_size, number_text}
unfoldable pub use Rattle.wal_shape.specs.Spelling.{pairs_text, metadata_text}
pub use Rattle.wal_shape.specs.declared.axis.Axis.{Axis}
pub use Rattle.wal_shape.specs.declared.axis.Axis.TheVariants.{Secondary, Primary}
pub use Rattle.wal_shape.specs.declared.opening.Opening.{Opening}
pub use Rattle.wal_shape.specs.declared.shape.Format.{Format}
pub use Rattle.wal_shape.specs.declared.shape.Format.TheVariants.{One, Two}
pub use Rattle.wal_tree.proofs.Collisions.{append_back, append_front, are_bytes}
pub use Rattle.wal_tree.proofs.Paths.{get_or-leaves, length-leaves, height-le, path_of-end, path_of-step, length-pair_up-half}
pub use Rattle.wal_tree.proofs.Sizes.{length-root_over}
pub use Rattle.wal_tree.specs.Path.{IsPathTo, LeadToOneRoot, path_over, beside, folded, height, parent, path_of}
pub use Rattle.wal_tree.specs.Stacks.{StacksState, StandsFor, entry_of, row_stack}
pub use Rattle.wal_tree.specs.Tree.{root_over, leaf, leaves, pieces, empty_entry, node, pair_up, root_within}
unfoldable pub use Rattle.wal_tree.specs.Tree.{root_of}
pub use Rattle.wal_commit.specs.Held.{HoldsOpening, HoldsSliver, IsOpeningOf}
pub use Rattle.wal_commit.specs.Identifier.{IsMetadataOf, head_text, held_pairs, identifier_tag, identifier_text, pair_root, Commits}
unfoldable pub use Rattle.wal_commit.specs.Identifier.{metadata_over, identifier_of}
pub use Rattle.wal_commit.specs.inside.Identifier.{pair_over}
pub use Rattle.wal_commit.specs.inside.Leaves.{AreLeafDigests}
pub use Rattle.wal_commit.specs.inside.Seen.{AreLeaves, AreSeen, HasColumns, row_leaves}
pub use Rattle.wal_commit.specs.inside.Strips.{BlobState, IsSymbolAt, bytes_of_symbol, symbols_of}
