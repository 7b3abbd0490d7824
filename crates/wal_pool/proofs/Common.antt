-- What the proofs of this crate cite from elsewhere, and of its own definitions, handed on from one place. Declares nothing.
pub use Rattle.std.proofs.Common.{◌≡◌, ◌≢◌, ℕ, ◌+◌, ◌-◌, ◌*◌, ◌^◌, ◌<◌, ◌≤◌, true, Some, List, [], ◌∷◌, length, slice_get, slice_set, get_or, count_by, take, refl, sym, ap, ◌∙◌, arith, zero, suc, inl, inr, map, replicate, cond, subst, false, slice_index_or, not, ◌&&◌, drop, nat_eq, nat_lt, mul-le-mul_left, length-drop, length-take-le, ◌++◌, take_at, rules, length-set, lit≤}
pub use Rattle.std.proofs.lemmas.Bool.{cases_eq, cases_Bool, ne_eqb, eq-eqb, cases_order, and_parts, or_parts, eqb-false, ltb-true, not-true}
pub use Rattle.std.proofs.lemmas.List.{length-replicate, get_or-replicate, same_lists, get_or-set_same, get_or-set_other, with_items_is}
pub use Rattle.std.proofs.lemmas.List.Sums.{count_by-le-length, sum_by-cons, sum_by-set}
pub use Rattle.std.proofs.lemmas.Option.{get_or_from_slice_get, slice_get_within, slice_get-get_or}
pub use Rattle.std.specs.Int.{w32, from_be_bytes, to_be_bytes}
pub use Rattle.std.specs.List.{range_with_len}
pub use Rattle.wal_pool.specs.Pages.{PageState, Free, Taken, is_free, bytes_in, page_bytes, IsTakenPage, AreWhole, overwrite}
pub use Rattle.wal_pool.specs.inside.FreeList.{chain, is_free_list, has, state_of}
unfoldable pub use Rattle.wal_pool.specs.inside.FreeList.{page_of, next, states}
