-- What the proofs of this crate cite from elsewhere, and of its own definitions, handed on from one place. Declares nothing.
pub use Rattle.std.proofs.Common.{◌≡◌, ℕ, suc, ◌+◌, ◌*◌, ◌/◌, ◌%◌, ◌<◌, ◌≤◌, List, [], ◌∷◌, ◌++◌, length, take, drop, replicate, get_or, refl, sym, ap, subst, ◌∙◌, arith, ⊎_elim, length-append, append_assoc, append-nil, All, Some, Result, Ok, Err, IfOk, slice_get, ◌≢◌, zero, inl, inr, ◌-◌, rules}
pub use Rattle.std.proofs.lemmas.Bool.{cases_lt}
pub use Rattle.std.proofs.lemmas.List.{drop-append-le, get_or_past, take-append-le, length-drop, length-replicate, ext_get_or, get_or_append_left, get_or-append_right, take_at}
pub use Rattle.std.proofs.lemmas.Option.{slice_get_read, slice_get_within, get_or_from_slice_get, slice_get-get_or}
pub use Rattle.std.specs.List.{concat}
pub use Rattle.wal_commit.proofs.HonestOpenings.{committed_matrix, committed_opening, honest_opening, one_opening}
pub use Rattle.wal_commit.proofs.OneDigest.{IsDigest, bytes_of_all, one_symbol, path_bytes}
pub use Rattle.wal_commit.specs.Held.{HoldsOpening, HoldsSliver}
pub use Rattle.wal_commit.specs.Identifier.{identifier_of}
unfoldable pub use Rattle.wal_commit.specs.Identifier.{metadata_over}
pub use Rattle.wal_evidence.proofs.SameOrNot.{one_to_one, same_or_not}
pub use Rattle.wal_kernel.specs.Region.{region}
pub use Rattle.wal_matrix.proofs.Words.{line_is_word, lines_cross}
pub use Rattle.wal_matrix.specs.Matrix.{line_of}
pub use Rattle.wal_shape.specs.MetaRef.{metadata_shown}
pub use Rattle.wal_shape.specs.Metadata.{BlobMetadata, held_index, IsMetadata}
pub use Rattle.wal_shape.specs.Shape.{BlobShape, crossing, symbol_size, shard_count}
pub use Rattle.wal_shape.specs.declared.axis.Axis.{Axis}
pub use Rattle.wal_shape.specs.declared.claim.Claim.{Claim}
pub use Rattle.wal_shape.specs.declared.opening.Opening.{Opening}
pub use Rattle.wal_tree.proofs.LevelPairs.{length-pieces, pair_up-odd, pieces-append, pieces-more, paired, leaves-pieces}
pub use Rattle.wal_tree.proofs.Paths.{length-pair_up-half, level_above-next, path_of-end, path_of-step, length-leaves}
pub use Rattle.wal_tree.specs.Path.{beside, path_of, path_over}
pub use Rattle.wal_tree.specs.Tree.{empty_entry, leaves, pair_up, pieces}
pub use Rattle.wal_tree.specs.inside.Tree.{level_above}
pub use Rattle.wal_challenge.specs.Answer.{AreAnswers, AreWordsOf, HoldsBoth, OwnWords, ShowsDrawn, among, draw_of, drawn_index}
pub use Rattle.wal_challenge.specs.Verdict.{IsFalseClaim, AnswersDraw, AreOwnOrFalse, AnswersComeTo, FirstAnswer, HasDrawnSymbol, IsFirstWrong, claim_of, claims_from}
pub use Rattle.wal_challenge.specs.declared.checking.AnswerVerdict.TheVariants.{Accepted, Wrong, WrongCount}
pub use Rattle.wal_challenge.specs.declared.drawing.Draw.{Draw}
pub use Rattle.wal_challenge.specs.inside.Levels.{FirstLevels, IsLevel, evened, AreLevels}
