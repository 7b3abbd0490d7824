-- What the proofs of this crate cite from elsewhere, and of its own definitions, handed on from one place. Declares nothing.
pub use Rattle.std.proofs.Common.{◌≡◌, ℕ, zero, suc, ◌+◌, ◌-◌, ◌*◌, ◌==◌, if◌then◌else◌, ◌<◌, ◌≤◌, Bool, true, false, List, [], ◌∷◌, ◌++◌, length, get_or, take, drop, reverse, Some, slice_get, refl, sym, ap, subst, ◌∙◌, append_assoc, arith, ◌≢◌, ◌||◌, ◌&&◌, nat_eq, nat_lt, slice_set, replicate, ◌⊎◌, inl, inr, ◌%◌, ◌^◌, not, Result, Ok, Err, ◌/◌, cond, ltb, max, Option, None, rules}
pub use Rattle.std.proofs.lemmas.Bool.{eqb-true, cases_lt, cases_eq, eq-eqb, ne_eqb, or_right, false≢true, true_from_ne_false, and_parts, lt-ltb, le-ltb, ltb-true, ltb-false}
pub use Rattle.std.proofs.lemmas.List.{append-nil, take_at, drop_at, take-append-drop, length-append, length-take, length-drop, drop-drop, drop-take, take-take, nil_from_length, length-reverse, reverse-reverse, get_or-reverse, reverse-append, length-replicate, get_or-replicate, get_or-set_same, get_or-set_other, get_or_past, get_or-drop, get_or-take, take_all}
pub use Rattle.std.proofs.lemmas.Nat.{be_bytes_2, be_bytes_4, be_bytes_8, from_be_bytes-to_be_bytes_2, from_be_bytes-to_be_bytes_4, from_be_bytes-to_be_bytes_8, div-add-mod', mod_below}
pub use Rattle.std.specs.Int.{w16, w64, to_be_bytes, Width, w8, w32, byte_len, from_be_bytes, div_ceil}
pub use Rattle.std.specs.List.{AllByRecursion, list_any, list_all, flat_map}
pub use Rattle.std.specs.Prelude.{⊤, IfSome, IfNone}
unfoldable pub use Rattle.wal_shape.specs.BodyReading.{body_at}
pub use Rattle.wal_shape.specs.EncodingProof.{EncodingProof, IsProof}
pub use Rattle.wal_shape.specs.FieldReading.{◌>>=◌, number_at, run_at}
unfoldable pub use Rattle.wal_shape.specs.MetaRef.{metadata_shown}
pub use Rattle.wal_shape.specs.Metadata.{BlobMetadata, AreRoots, IsMetadata, roots_of, held_index, held_order}
pub use Rattle.wal_shape.specs.MetadataReading.{pairs_in}
unfoldable pub use Rattle.wal_shape.specs.MetadataReading.{spelled_format, behind_format, spelled_f, spelled_length, every_root, metadata_in, spelled_metadata}
pub use Rattle.wal_shape.specs.Opening.{IsBody, opening_shown}
pub use Rattle.wal_shape.specs.Owners.{every_below, node_of, among, has_neighbour, ascends_from}
pub use Rattle.wal_shape.specs.ProofReading.{axis_of, with_others, proof_with, proof_of}
unfoldable pub use Rattle.wal_shape.specs.ProofReading.{openings_in}
unfoldable pub use Rattle.wal_shape.specs.ProofRef.{proof_shown}
pub use Rattle.wal_shape.specs.Shape.{shard_count, most_bytes, IsShape, IsSymbolSize, cell_count}
unfoldable pub use Rattle.wal_shape.specs.Shape.{symbol_size}
pub use Rattle.wal_shape.specs.Spelling.{number_text, format_text, text_size, axis_number}
unfoldable pub use Rattle.wal_shape.specs.Spelling.{pairs_text, metadata_text, body_text, proof_text}
pub use Rattle.wal_shape.specs.declared.axis.Axis.{Axis}
pub use Rattle.wal_shape.specs.declared.axis.Axis.TheVariants.{Primary, Secondary}
pub use Rattle.wal_shape.specs.declared.body.BodyFault.{BodyFault}
pub use Rattle.wal_shape.specs.declared.opening.Opening.{Opening}
pub use Rattle.wal_shape.specs.declared.proof.Head.{Head}
pub use Rattle.wal_shape.specs.inside.ProofReading.{behind, SpellProof, ended, whole_head}
unfoldable pub use Rattle.wal_shape.specs.inside.ProofReading.{head_at, bodies_end, head_in}
