-- What the proofs of this crate cite from elsewhere, and of its own definitions, handed on from one place. Declares nothing.
pub use Rattle.std.proofs.Common.{◌≡◌, ℕ, ◌+◌, ◌*◌, ◌^◌, ◌<◌, ◌≤◌, List, length, get_or, refl, sym, ap, ◌∙◌, arith, inl, inr, Ok, Result, ◌/◌, Option, Some, None, IfNone, ◌-◌, [], ◌∷◌, ◌++◌, zero, suc, take, drop, replicate, length-append, add-zero, zero-add, All, below_more, map, ◌≢◌, IfOk, Err, slice_get, ◌%◌, length-drop, ◌⊎◌, ⊎_elim, rules, vec_len}
pub use Rattle.std.proofs.Math.Nat.{mul-le-mul_left, mul-le-mul_right}
pub use Rattle.std.proofs.Math.Seq.{drop-append-add}
pub use Rattle.std.proofs.lemmas.Bool.{cases_lt, false≢true}
pub use Rattle.std.proofs.lemmas.List.{append_assoc, length-map, length-replicate, take_all, take_at, get_or-map, take-map, take-take, ext_get_or, length-take-le, append-nil, get_or_read}
pub use Rattle.std.proofs.lemmas.List.FromFn.{get_or-map-range_with_len, length-range_with_len, map-range_with_len_more}
pub use Rattle.std.proofs.lemmas.List.Sums.{sum_by-cons, sum_by-le-sum_by, sum_by_more, sum_by_more_le, get_or-le-sum_by, sum_by-le}
pub use Rattle.std.proofs.lemmas.Option.{get_or_from_slice_get, slice_get_within, slice_get-get_or}
pub use Rattle.std.proofs.lemmas.Result.{IfOk-weaker}
pub use Rattle.std.specs.Int.{w16, w32, from_be_bytes}
pub use Rattle.std.specs.List.{flat_map, range_with_len, sum_by}
pub use Rattle.wal_commit.proofs.HonestOpenings.{honest_sliver}
pub use Rattle.wal_commit.proofs.OneDigest.{IsDigest, bytes_of_all, one_metadata, one_sliver}
pub use Rattle.wal_commit.specs.Identifier.{identifier_of}
unfoldable pub use Rattle.wal_commit.specs.Identifier.{metadata_over}
pub use Rattle.wal_evidence.proofs.SameOrNot.{one_to_one, same_or_not}
pub use Rattle.wal_extract.proofs.OneIdentifier.{identifier_over, same_metadata}
pub use Rattle.wal_extract.proofs.OneRoot.{held_one_root}
pub use Rattle.wal_kernel.specs.Region.{region}
pub use Rattle.wal_matrix.proofs.Places.{run_fits}
pub use Rattle.wal_matrix.proofs.Runs.{part_of_part, run_at_end, run_in_front, length-pieces, pieces_more, piece_at}
pub use Rattle.wal_matrix.specs.Matrix.{IsCodedMatrix, IsExtended, secondary_of, symbol_bytes}
unfoldable pub use Rattle.wal_matrix.specs.Matrix.{padded}
pub use Rattle.wal_reader.proofs.FirstOnes.{first_not_none, one_first, first_two}
pub use Rattle.wal_reader.proofs.Gathering.{weaken}
pub use Rattle.wal_reader.specs.Carried.{CarriesHeldSliver, NoHeldSliver, openings_in}
pub use Rattle.wal_reader.specs.Outcome.{IsMetadataIn, HasMetadata}
pub use Rattle.wal_shape.proofs.ShapeLaws.{symbol_size-least, symbol_size-filled, matrix_bytes-bound}
pub use Rattle.wal_shape.specs.MetaRef.{metadata_shown}
pub use Rattle.wal_shape.specs.Metadata.{BlobMetadata}
pub use Rattle.wal_shape.specs.Shape.{cell_count, IsShape, BlobShape, row_count, shard_count, symbol_size, column_count, most_bytes}
pub use Rattle.wal_shape.specs.Spelling.{number_text}
pub use Rattle.wal_shape.specs.declared.axis.Axis.TheVariants.{Secondary}
pub use Rattle.wal_bundle.specs.Columns.{AreColumns, IsFirstMissing, IsColumn, IsMissing, IsOwnColumn}
pub use Rattle.wal_bundle.specs.Contradictions.{AgreeBelow, ContradictsBundle, IsBundleOf, AreContraryMembers, IsTrueOf, SameMemberAnswer}
pub use Rattle.wal_bundle.specs.Layout.{column_bytes, index_columns, IsBundle, lengths_of, index_bytes, ColumnsFit, entries_text, Bundles, IsBundleSize}
unfoldable pub use Rattle.wal_bundle.specs.Layout.{columns_for, first_column, columns_text, index_text, member_columns, used_columns, whole_columns, entry_text, bundle_text}
pub use Rattle.wal_bundle.specs.Member.{HasBadIndex, HasIndex, HasMember, MissesColumn, Tells, of_index, of_many, of_member, of_none, of_start, IsIndex, IsMember, ShowsMember}
unfoldable pub use Rattle.wal_bundle.specs.Member.{count_in}
pub use Rattle.wal_bundle.specs.declared.answer.MemberAnswer.{MemberAnswer}
pub use Rattle.wal_bundle.specs.declared.answer.MemberAnswer.TheVariants.{BadIndex, Member, Missing, NoMember, Collision, NoMetadata}
unfoldable pub use Rattle.wal_bundle.specs.inside.Reading.{spelled_length, spelled_lengths}
