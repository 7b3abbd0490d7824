-- What the proofs of this crate cite from elsewhere, and of its own definitions, handed on from one place. Declares nothing.
pub use Rattle.std.proofs.Common.{◌≡◌, ℕ, List, [], ◌∷◌, ◌++◌, cond, All, fold, sym, subst, zero, suc, ◌+◌, ◌-◌, ◌<◌, ◌≤◌, Bool, true, false, ◌||◌, nat_lt, arith, length, filter, replicate, refl, ap, ◌∙◌, max, ◌&&◌, nat_eq, nat_le, slice_set, ◌≢◌, take, drop, map, insert, get_or, Contains, Result, Ok, Err, IfOk, IfErr, inl, inr, ◌⊎◌, ◌↔◌, append_assoc, HoldsAt, Option, Some, None, IfSome, IfNone, slice_index_or, not, slice_get, rules, ◌^◌}
pub use Rattle.std.proofs.Math.Bool.{or-false}
pub use Rattle.std.proofs.lemmas.Bool.{cond_both, lt-ltb, le-ltb, both_ways, or_from, and_right, cases_lt, ltb-true, false≢true, leb-true, and_parts, or_cases, cases_eq, cases_Bool, and_left, ne_eqb, eq-eqb, eqb-true, eqb-false, leb-false, false_from_ne_true, or_left, cond-false}
pub use Rattle.std.proofs.lemmas.Bool.Decides.{nat_tests}
pub use Rattle.std.proofs.lemmas.Fn.{filter_same, always_returns_same}
pub use Rattle.std.proofs.lemmas.Grind.{common_steps}
pub use Rattle.std.proofs.lemmas.List.{length-append, length-replicate, length-set, map-append, take-map, drop-map, length-map, get_or-map, get_or-set_same, get_or-set_other, get_or_default, append-nil, get_or_push, get_or_append_left}
pub use Rattle.std.proofs.lemmas.List.Edits.{length-insert, get_or-insert_below, get_or-insert_at, get_or-insert_above}
pub use Rattle.std.proofs.lemmas.List.Elements.{All-nil, All-cons, All-head, All-tail, All-push, All-filter, All-from_recursion, recursion_from_All, filter_agree}
pub use Rattle.std.proofs.lemmas.List.Folds.{fold_along, list_any_none}
pub use Rattle.std.proofs.lemmas.List.Kept.{IsStrictlySortedBy-filter}
pub use Rattle.std.proofs.lemmas.List.Sums.{fold_push, fold-append}
pub use Rattle.std.proofs.lemmas.Map.Keys.{Less-from_sorted, IsDistinct-from_sorted, sorted_tail}
pub use Rattle.std.proofs.lemmas.Map.Views.{list_any-from_Contains, Contains-from_any, All-insert_key}
pub use Rattle.std.specs.BTreeSet.{insert_key}
pub use Rattle.std.specs.Cmp.{IsTotalOrder, on_total, tied_itself}
pub use Rattle.std.specs.Cmp.Lexicographic.{texts_ties, nat_list_cmp_total}
pub use Rattle.std.specs.List.{list_any, AllByRecursion, list_all}
pub use Rattle.std.specs.List.Sorted.{IsSearchInRange, IsBinarySearchResult}
unfoldable pub use Rattle.std.specs.List.Sorted.{IsStrictlySortedBy}
pub use Rattle.std.specs.Ordering.{is_eq, is_lt, ordering_reverse, eq_by_cmp, match_ordering}
pub use Rattle.std.specs.declared.cmp.Ordering.{Ordering}
pub use Rattle.std.specs.declared.cmp.Ordering.TheVariants.{Less, Equal, Greater}
pub use Rattle.wal_shape.specs.Identifiers.{id_eq, id_cmp}
pub use Rattle.wal_shape.specs.Owners.{are_owners, node_of, has_neighbour}
pub use Rattle.wal_shape.specs.declared.axis.Side.TheVariants.{Now, Next}
pub use Rattle.wal_shape.specs.declared.metadata.BlobId.{BlobId}
pub use Rattle.wal_ledger.specs.Answers.{claim_of, MayRegister, is_moving_extension, IsCertificate}
pub use Rattle.wal_ledger.specs.Handover.{IsMadeIn, IsMadeSince, IsDated}
pub use Rattle.wal_ledger.specs.Kept.{IsOfCommittee, IsLawful, HasBrought}
pub use Rattle.wal_ledger.specs.Ledger.{History, history_of, history_after, names, is_fresh, Log, Phase, phase, phase_in, phase_after, writing, reading, is_moving, owners_at, owners_of, own_entries, readies, with_registered, until_among, same_node, signs_for, ready_shards, signers, cut, is_register, until_of, is_live, is_signer_among, IsCertified, MustHold, entered, until_in, registered, live_ids, is_finish, signer_count, LedgerState}
pub use Rattle.wal_ledger.specs.Order.{Ascends}
pub use Rattle.wal_ledger.specs.Orderly.{IsOrderly}
pub use Rattle.wal_ledger.specs.Shards.{count_below, committee_size, quorum_size}
pub use Rattle.wal_ledger.specs.Within.{IsWithin}
pub use Rattle.wal_ledger.specs.declared.entry.Body.{Body}
pub use Rattle.wal_ledger.specs.declared.entry.Body.TheVariants.{Begin, Finish, Register, Ack, Attest, Ready}
pub use Rattle.wal_ledger.specs.declared.entry.Entry.{Entry}
pub use Rattle.wal_ledger.specs.declared.entry.Kind.{Kind}
pub use Rattle.wal_ledger.specs.declared.entry.Kind.TheVariants.{Holds, Denies}
pub use Rattle.wal_ledger.specs.declared.rows.Row.{Row}
pub use Rattle.wal_ledger.specs.declared.tally.Tally.{Tally}
pub use Rattle.wal_ledger.specs.inside.Book.{BookState}
pub use Rattle.wal_ledger.specs.inside.Claims.{count_among, IsLeastQuorum}
pub use Rattle.wal_ledger.specs.inside.Flags.{flag_of}
pub use Rattle.wal_ledger.specs.inside.Kept.{IsKept, StandAt, log_of}
pub use Rattle.wal_ledger.specs.inside.Rows.{Rows, IsRow, row_in, living, no_row, row_registered, tally_of, with_tally, IsPlace, IsInsertionPoint, IsOrder, id_of, ids_of, row_of, row_beside, IsTable}
pub use Rattle.wal_ledger.specs.inside.Tally.{IsTally, IsFirstClaim, link_in, node_size, tally_after, signs, IsLinked, Chain, HasLeast, no_tally, quorum_after, HasChain}
