-- What the proofs of this crate cite from elsewhere, and of its own definitions, handed on from one place. Declares nothing.
pub use Rattle.std.proofs.Common.{◌≡◌, ℕ, suc, ◌+◌, ◌*◌, ◌/◌, ◌^◌, ◌<◌, ◌≤◌, List, [], ◌∷◌, ◌++◌, length, take, refl, sym, ◌∙◌, arith, ◌≢◌, ◌%◌, drop, get_or, ap, ap₂, subst, inl, inr, append-nil, All, Result, Ok, Err, IfOk, replicate, length-append, ◌==◌, if◌then◌else◌, zero, map, ◌-◌, append_assoc, add-one, set, length-take, length-drop, Vec, Global, slice_index_or, None, Some, length-set, ◌⊎◌, rules}
pub use Rattle.std.proofs.Math.Nat.{div-le_of_le-mul, mul-le-mul_right, div-div-eq-div-mul, pow-succ', add-div_left, div-eq_of_lt}
pub use Rattle.std.proofs.Math.Seq.{take-add, take-append_seam, drop-append_seam, drop-cons, take-set-lt}
pub use Rattle.std.proofs.lemmas.Bool.{cases_lt}
pub use Rattle.std.proofs.lemmas.Grind.{take-set_at, common_steps}
pub use Rattle.std.proofs.lemmas.List.{get_or-replicate, get_or_past, drop-drop, take-append-drop, drop-set-lt, get_or-take, length-take-le, length-map, map-set, drop-append-le, drop-take, take-append-le, take-take, get_or_default}
pub use Rattle.std.proofs.lemmas.List.Elements.{All-cons, All-from_get_or, All-nil, All-head, All-tail, All-map, All-set}
pub use Rattle.std.proofs.lemmas.Result.{on_ok_weaker, IfOk-weaker}
pub use Rattle.std.specs.List.{concat}
pub use Rattle.std.specs.Prelude.{Option, bit_xor, OnErr}
pub use Rattle.std.specs.Slice.Iter.{chunks_exact_rest, chunks_exact_size}
pub use Rattle.wal_lanes.proofs.Parts.{put_before, put_here, piece_within, put_put, parts_put}
pub use Rattle.wal_lanes.specs.Pieces.{AreDigests}
pub use Rattle.wal_lanes.specs.inside.Lanes.{put_at}
pub use Rattle.wal_shape.specs.declared.text.Collision.{Collision}
pub use Rattle.wal_tree.specs.Collision.{IsCollision}
pub use Rattle.wal_tree.specs.Digests.{IsByte, lane_sum}
unfoldable pub use Rattle.wal_tree.specs.Digests.{toy32}
pub use Rattle.wal_tree.specs.Path.{IsPathTo, MeetAbove, MeetInTrees, MeetOnPaths, folded, parent, parent_text, path_over, beside, height_within, path_within}
unfoldable pub use Rattle.wal_tree.specs.Path.{height, path_of}
pub use Rattle.wal_tree.specs.Stack.{climb, pushed, entries}
pub use Rattle.wal_tree.specs.Stacks.{HaveLost, StandsFor, emptied, entry_of, held_entry, row_stack, StacksState}
pub use Rattle.wal_tree.specs.Tree.{empty_entry, node, pair_up, leaf, pieces, leaves, root_over, root_within}
unfoldable pub use Rattle.wal_tree.specs.Tree.{root_of}
pub use Rattle.wal_tree.specs.inside.Path.{width_of}
pub use Rattle.wal_tree.specs.inside.Stack.{weight}
pub use Rattle.wal_tree.specs.inside.Stacks.{HasRows, column_bytes}
pub use Rattle.wal_tree.specs.inside.Tree.{level_above}
