-- What the proofs of this crate cite from elsewhere, and of its own definitions, handed on from one place. Declares nothing.
pub use Rattle.std.proofs.Common.{◌≡◌, ◌≢◌, ◌⊎◌, ℕ, zero, suc, ◌+◌, ◌<◌, ◌≤◌, Bool, true, false, cond, not, ◌&&◌, ◌||◌, nat_eq, nat_lt, inl, inr, ⊎_elim, List, [], ◌∷◌, length, take, fold, All, Contains, slice_get, Some, refl, sym, ap, ◌∙◌, subst, arith, bytes_eq, Decides}
pub use Rattle.std.proofs.lemmas.Bool.{or_cases, or_left, or_right, and_parts, eq-eqb, eqb-true, cases_Bool, false≢true, lt-ltb}
pub use Rattle.std.proofs.lemmas.Bool.Decides.{nat_tests}
pub use Rattle.std.proofs.lemmas.Slice.Eq.{bytes_eq-Decides}
pub use Rattle.std.proofs.lemmas.List.{length-take-le, take-take}
pub use Rattle.std.proofs.lemmas.Option.{slice_get_within, get_or_from_slice_get}
pub use Rattle.std.specs.List.{list_any}
pub use Rattle.wal_shape.specs.declared.metadata.BlobId.{BlobId}
pub use Rattle.wal_shape.specs.Owners.{node_of}
pub use Rattle.wal_ledger.specs.declared.entry.Body.{Body}
pub use Rattle.wal_ledger.specs.declared.entry.Body.TheVariants.{Ack, Attest, Ready, Register, Begin, Finish}
pub use Rattle.wal_ledger.specs.declared.entry.Entry.{Entry}
pub use Rattle.wal_ledger.specs.declared.entry.Kind.{Kind}
pub use Rattle.wal_ledger.specs.declared.entry.Kind.TheVariants.{Holds, Denies}
pub use Rattle.wal_ledger.specs.Shards.{count_below, committee_size, quorum_size}
pub use Rattle.wal_ledger.specs.Ledger.{Log, phase, writing, owners_at, own_entries, same_node, signs_for, readies, signers, ready_shards, is_begin}
pub use Rattle.wal_ledger.specs.Kept.{IsLawful}
pub use Rattle.wal_ledger.proofs.Quorums.{count_below-split, count_below-some}
pub use Rattle.wal_chain.specs.Chain.{Post, Seal, IsPlain, AreAllowed, chain_head, IsBroken, IsSeenOn, Counts, Word, enters, agrees}
pub use Rattle.wal_chain.specs.Votes.{Seats, is_shared, speaks_for, votes_for, is_vote, HasVotes, is_claim, is_ready, IsBy, AreOn, AreSeatsOf, HasDecided, claimed, readied, voted}
pub use Rattle.wal_chain.specs.Fork.{IsFork, IsMadeAfter, AreInTurn, IsSteadfast, IsSound}
