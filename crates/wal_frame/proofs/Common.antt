-- What the proofs of this crate cite from elsewhere, and of its own definitions, handed on from one place. Declares nothing.
pub use Rattle.std.proofs.Common.{◌≡◌, ℕ, zero, suc, ◌+◌, ◌-◌, ◌^◌, ◌<◌, ◌≤◌, ◌⊎◌, inl, inr, Bool, true, false, cond, ltb, eqb, List, [], ◌∷◌, ◌++◌, length, take, drop, Option, Some, None, Result, Ok, Err, refl, sym, ap, subst, ◌∙◌, append_assoc, arith, ◌/◌, ◌*◌, get_or, rules}
pub use Rattle.std.proofs.lemmas.Bool.{cases_lt, ltb-false, le-ltb, eqb-true, eqb-false, ne_eqb}
pub use Rattle.std.proofs.lemmas.List.{take_at, drop_at, take-append-drop, length-append, length-take, length-drop, length-replicate, drop-drop, append-nil, nil_from_length, take_all}
pub use Rattle.std.specs.Int.{w16, w32, from_be_bytes, w8, w64, Width, byte_len}
pub use Rattle.std.specs.List.{AllByRecursion, flat_map}
pub use Rattle.std.specs.Prelude.{slice_index, replicate, IfOk, IfErr, ⊤}
pub use Rattle.wal_shape.proofs.BodyLaws.{length-body_text, put_text, bind_ok, guard_ok, IsBelow, number_is, number_read, number_again, run_reads, run_again, body_is, body_again, run_size}
pub use Rattle.wal_shape.proofs.Codecs.{ok_is, taken_of, Reading, goes, fails, Codec, checked, both, seen, named, named_is, IsReader, alone}
pub use Rattle.wal_shape.proofs.MetadataLaws.{text_behind, metadata_text-format, length-behind, format_again, behind_again, size_by, spelled_metadata-format, spelled_metadata-f, spelled_metadata-text, IsMetadata-spelled, metadata_text-spelled, length-metadata_text, spelled_by}
pub use Rattle.wal_shape.proofs.Numbers.{IsBytes, IsBytes-drop, IsBytes-take, wide16, wide32, wide8, wide64, IsWide, byte_text}
pub use Rattle.wal_shape.specs.BodyReading.{body_at}
pub use Rattle.wal_shape.specs.EncodingProof.{EncodingProof, IsProof}
pub use Rattle.wal_shape.specs.FieldReading.{Gives, ◌>>=◌, number_at, run_at}
pub use Rattle.wal_shape.specs.MetaRef.{metadata_shown}
pub use Rattle.wal_shape.specs.Metadata.{BlobMetadata, IsMetadata, held_order}
pub use Rattle.wal_shape.specs.MetadataReading.{spelled_metadata, spelled_format, behind_format}
unfoldable pub use Rattle.wal_shape.specs.MetadataReading.{spelled_f, spelled_length}
pub use Rattle.wal_shape.specs.Opening.{IsBody, opening_shown}
pub use Rattle.wal_shape.specs.ProofReading.{openings_in, axis_of}
pub use Rattle.wal_shape.specs.Spelling.{number_text, metadata_text, body_text, axis_number, pairs_text, format_text, text_size}
unfoldable pub use Rattle.wal_shape.specs.Spelling.{proof_text}
pub use Rattle.wal_shape.specs.declared.axis.Axis.{Axis}
pub use Rattle.wal_shape.specs.declared.axis.Axis.TheVariants.{Primary, Secondary}
pub use Rattle.wal_shape.specs.declared.body.BodyFault.{BodyFault}
pub use Rattle.wal_shape.specs.declared.shape.Format.{Format}
pub use Rattle.wal_shape.specs.declared.shape.Format.TheVariants.{One, Two}
pub use Rattle.wal_frame.specs.Frame.{envelope, Frame, Metadata, Sliver, Opening, Proof, Read, Symbol, Ack, Attest, Forget, Answer, Clash, RegisterEntry, AckEntry, AttestEntry, IsFrame, metadata_kind, target_text, sliver_frame, frame_text, IsId, IsTarget, sliver_front}
pub use Rattle.wal_frame.specs.Reading.{IsPlaceBelow, made, target_with, ended, field_at, bytes_at, from_place, opening_at, proof_with, in_frame}
unfoldable pub use Rattle.wal_frame.specs.Reading.{metadata_at, metadata2_at, sliver_at, opened_at, proof_at, name_at, symbol_at, answer_at, clash_at, register_at, entry_at, request_at, fields_at, read_of, target_at, faults_at, roots_at, version_at, bodies_at, axis_at, text_at}
pub use Rattle.wal_frame.specs.Shown.{frame_shown}
pub use Rattle.wal_frame.specs.Stream.{IsPayload, size_in, payload_at, behind, front_of, stream_of, IsStream, IsMalformed, IfMalformed, Splits}
unfoldable pub use Rattle.wal_frame.specs.Stream.{envelope_at, payloads_in}
pub use Rattle.wal_frame.specs.declared.fields.Target.{Target}
pub use Rattle.wal_frame.specs.declared.frame.FrameError.{FrameError}
pub use Rattle.wal_frame.specs.declared.frame.FrameError.TheVariants.{BadKind, BadField, Truncated, Trailing}
