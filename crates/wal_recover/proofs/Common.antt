-- What the proofs of this crate cite from elsewhere, and of its own definitions, handed on from one place. Declares nothing.
pub use Rattle.std.proofs.Common.{◌≡◌, ℕ, ◌<◌, List, [], ◌∷◌, ◌++◌, length, Bool, true, false, IsTrue, Contains, refl, sym, ap, subst, ◌∙◌, ◌*◌, take, arith, inl, inr, ⊎_elim, ◌≤◌, get_or, rules, ◌+◌, replicate, All}
pub use Rattle.std.proofs.lemmas.Bool.{false≢true}
pub use Rattle.std.proofs.lemmas.List.{length-take-le, take_more}
pub use Rattle.wal_commit.specs.Held.{HoldsOpening}
pub use Rattle.wal_evidence.proofs.FalseOpenings.{false_opening, target_within}
pub use Rattle.wal_evidence.proofs.FirstOfEach.{first_taken, one_taken, takes_more}
pub use Rattle.wal_evidence.proofs.Marked.{marks_more, marks_none}
pub use Rattle.wal_evidence.proofs.OneLine.{one_line, crosses_within, line_shown, symbol_sizes, symbols_long}
pub use Rattle.wal_evidence.proofs.Openings.{crosses_more, symbols_load}
pub use Rattle.wal_evidence.specs.BadProof.{crosses_of, AreEnough, HasRoot, IsBadProof, ShowLine, symbols_of}
pub use Rattle.wal_evidence.specs.inside.Marks.{Marks, most_shards}
pub use Rattle.wal_matrix.proofs.Places.{part_fits}
pub use Rattle.wal_matrix.proofs.Words.{symbols_fit}
pub use Rattle.wal_shape.specs.EncodingProof.{EncodingProof, IsProof}
pub use Rattle.wal_shape.specs.MetaRef.{metadata_shown}
pub use Rattle.wal_shape.specs.Metadata.{BlobMetadata}
pub use Rattle.wal_shape.specs.Shape.{IsShape, shard_count, sliver_symbols, symbol_size, most_bytes, BlobShape}
pub use Rattle.wal_shape.specs.declared.axis.Axis.{Axis}
pub use Rattle.wal_shape.specs.declared.opening.Opening.{Opening}
pub use Rattle.wal_recover.specs.Recovery.{GivesOpening, TakenComeTo, HasCommittedSliver, IsCount, IsOwnOrFalse, OpeningsComeTo, Takes}
