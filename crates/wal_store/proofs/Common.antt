-- What the proofs of this crate cite from elsewhere, and of its own definitions, handed on from one place. Declares nothing.
pub use Rattle.std.proofs.Common.{◌≡◌, ℕ, zero, suc, ◌+◌, ◌<◌, ◌≤◌, Option, Some, None, List, [], ◌∷◌, length, take, replicate, slice_get, slice_set, get_or, refl, ap, ◌∙◌, arith, set-set, slice_index, option_map, Bool, true, ◌&&◌, map, count_by, sym, Less, Greater, eq-eqb, lt-ltb, le-leb, ◌++◌, drop, sum, drop-drop, ◌≢◌, inl, inr, false, cond, is_some, filter, Equal, ◌-◌, not, Ok, Err, IfSome, unwrap_or, T, Ordering, is_eq, append_assoc, is_lt, nat_eq, Result, IfOk, IfErr, ◌*◌, min, take-add, IsSome, insert, remove, ◌⊎◌, ◌↔◌, IsOk, OnOk, OnErr, All, subst, rules, vec_len, slice_index_or, vec_capacity, option_to_list, length-set, length-take, length-drop}
pub use Rattle.std.proofs.Math.Seq.{take-length, take-nil}
pub use Rattle.std.proofs.lemmas.Bool.{cases_eq, cases_lt, or_cases, true≢false, false≢true, cases_order, cases_Bool, cond_both}
pub use Rattle.std.proofs.lemmas.Bool.Decides.{nat_tests}
pub use Rattle.std.proofs.lemmas.Cmp.{on_total, nat_list_cmp_total}
pub use Rattle.std.proofs.lemmas.List.{map-set, length-map, map-id, length-append, get_or-set_same, get_or-set_other, take_min, take-append-drop, drop_all, append-nil, take-take, drop-take, drop_at, drop-append-le, map-append, take-map, drop-map}
pub use Rattle.std.proofs.lemmas.List.Edits.{length-remove, length-insert, get_or-insert_at}
pub use Rattle.std.proofs.lemmas.List.Elements.{All-nil, All-cons, All-head, All-tail, All-append}
pub use Rattle.std.proofs.lemmas.List.Recursion.{is_sum_by}
pub use Rattle.std.proofs.lemmas.List.Sums.{sum_by-cons, length-filter, count_by-le-length, sum_by-append, sum_by-set, sum_by-insert, sum_by-remove, get_or-le-sum_by}
pub use Rattle.std.proofs.lemmas.Map.{lookup-none, lookup-remove_entry}
pub use Rattle.std.proofs.lemmas.Map.Entries.{none_below_head, lookup_from_place, lookup_at_gap, sum_by-insert_entry, sum_by-remove_entry}
pub use Rattle.std.proofs.lemmas.Map.Keys.{sorted_tail, IsDistinct-from_sorted, Less-from_sorted}
pub use Rattle.std.proofs.lemmas.Option.{slice_get_within, slice_get_read, slice_get-get_or, get_or_from_slice_get, slice_get-map, some_pair_parts}
pub use Rattle.std.specs.BTreeMap.{is_at, insert_entry, IsOrdered}
pub use Rattle.std.specs.Cmp.{Equal-is, tied_itself, IsTotalOrder, eq_by_cmp_equiv}
pub use Rattle.std.specs.FinMap.{get-retain_keys, get-remove, same_map, contains_key-keys, len-entries, IsAntisymmetric, nat_cmp-IsAntisymmetric, slice_cmp-IsAntisymmetric, FinMap, from_sorted}
pub use Rattle.std.specs.FinMap.Entries.{find, put, is_sorted, below_all}
pub use Rattle.std.specs.List.{AllByRecursion, sum_by, list_any, range_with_len}
pub use Rattle.std.specs.List.Sorted.{IsSearchInRange, IsBinarySearchResult}
unfoldable pub use Rattle.std.specs.List.Sorted.{IsStrictlySortedBy}
pub use Rattle.std.specs.Map.{keys_of, set_value, remove_entry, lookup}
pub use Rattle.std.specs.Option.{ForSome, option_copied_mut}
pub use Rattle.std.specs.Ordering.{ordering_reverse, eq_by_cmp, match_ordering}
pub use Rattle.wal_pool.proofs.PageLaws.{slice_get-set_same, count-take, count-give}
pub use Rattle.wal_pool.specs.Pages.{PageState, Free, Taken, bytes_in, page_bytes, overwrite, is_free, IsTakenPage}
pub use Rattle.wal_shape.specs.Identifiers.{id_cmp}
pub use Rattle.wal_shape.specs.declared.BlobId.{BlobId}
pub use Rattle.wal_shape.specs.declared.part.Part.{Part}
pub use Rattle.wal_shape.specs.declared.part.Part.TheVariants.{Metadata, Primary, Secondary, Proof}
pub use Rattle.wal_store.specs.Answer.{HasRoom, IsPutAnswer}
pub use Rattle.wal_store.specs.Calls.{PutAnswer, Call, Put, after_call, after_calls, AreLawful, after_put, RunsTo, Continues, NoneWants, WantsNext, GoTogether}
pub use Rattle.wal_store.specs.Contents.{Contents, StoreState, parts_at, part_at, with_bytes, with_parts, without_part, cost, free_of, needed_for}
pub use Rattle.wal_store.specs.Entries.{Entries, key_past}
pub use Rattle.wal_store.specs.Parts.{part_of, with_part, Parts, no_parts, part_cost, cost_of, is_empty, is_absent}
unfoldable pub use Rattle.wal_store.specs.Parts.{pages_for}
pub use Rattle.wal_store.specs.Places.{is_past, next_id}
pub use Rattle.wal_store.specs.declared.contract.KeepError.TheVariants.{Full, Memory}
pub use Rattle.wal_store.specs.declared.map_keep.Budget.{Budget}
pub use Rattle.wal_store.specs.declared.rows.Row.{Row}
pub use Rattle.wal_store.specs.declared.rows.Slot.{Slot}
pub use Rattle.wal_store.specs.inside.Chain.{Linked, links, uses, joined, taken_at, Adds, Frees, taken_in}
pub use Rattle.wal_store.specs.inside.Entries.{cost_in, found_in, parts_in, needed_in, changed_in, AreKept, InBudget, room_answer, past_bound, cost_at, freed_in}
pub use Rattle.wal_store.specs.inside.Ordered.{RowList, row_of, rows_at, IsOrder}
pub use Rattle.wal_store.specs.inside.Rows.{slot_of, with_slot, slot_links, part_in, parts_of, ids_of, entries_of, row_uses, rows_use, are_sized, IsSized, IsHome, no_slots, slot_cost, content, is_sized, Owns, IsGap, no_slot, is_bare}
pub use Rattle.wal_store.specs.inside.Table.{all_pages}
