-- What the proofs of this crate cite from elsewhere, and of its own definitions, handed on from one place. Declares nothing.
pub use Rattle.sha2.proofs.Absorbing256.{hash_after-append, hash_after_next, padding-take}
pub use Rattle.sha2.proofs.Schedule256.{rounds_first, IsRoundsAt_at, rounds_window, window_word_place, IsWindow_first}
pub use Rattle.sha2.specs.Sha256.{final_hash, initial_hash_256, padded_message, padding, add32, word_at, small_sigma0, small_sigma1, schedule, IsRoundsAt, add_state}
unfoldable pub use Rattle.sha2.specs.Sha256.{digest_bytes, hash_after, sha256, compress, rounds}
pub use Rattle.std.proofs.Common.{◌≡◌, ◌≢◌, ℕ, zero, suc, ◌+◌, ◌-◌, ◌*◌, ◌/◌, ◌%◌, ◌<◌, ◌≤◌, inl, inr, Some, List, [], ◌∷◌, length, take, drop, get_or, replicate, slice_get, slice_index, slice_set, refl, sym, ap, subst, ◌∙◌, arith, length-drop, ◌++◌, add-one, length-append, ◌^◌, slice_index_or, bit_or, ap₂, w32, Fits, min, bit_and, bit_xor, zero-add}
pub use Rattle.std.proofs.Math.Nat.{mul-le-mul_right}
pub use Rattle.std.proofs.lemmas.Bool.{cases_lt}
pub use Rattle.std.proofs.lemmas.List.{drop_more, get_or-drop, get_or-replicate, get_or-set_same, get_or-take, length-replicate, take_all, append_assoc, drop-append-le, drop-drop, drop-take, drop_at, length-take-le, take-append-drop, take-append-le, take-take, take_at, get_or-set_other, length-set, length-map}
pub use Rattle.std.proofs.lemmas.Option.{get_or_from_slice_get, slice_get-get_or, slice_get_within}
pub use Rattle.std.specs.Int.{to_be_bytes, w64, rotate_right, Width, bit_not}
pub use Rattle.wal_lanes.specs.Pieces.{text, AreDigests}
pub use Rattle.wal_lanes.specs.Strips.{AreDigestsOf, IsStrip}
pub use Rattle.wal_lanes.specs.declared.strips.Group.{Group}
pub use Rattle.wal_lanes.specs.inside.Lanes.{lane, put_at, last_blocks, tail_length, HasLanes, words_of}
pub use Rattle.wal_lanes.specs.inside.Strips.{HasTaken, HaveTaken}
