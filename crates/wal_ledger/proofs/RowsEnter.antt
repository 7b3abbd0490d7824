-- The rows after a claim, a registration, or another entry.
use Rattle.wal_ledger.proofs.Common.{inl, inr, cases_Bool, ◌≡◌, ℕ, ◌+◌, ◌-◌, ◌<◌, ◌≤◌, max, Bool, true, false, cond, ◌&&◌, ◌||◌, nat_eq, nat_le, List, [], ◌∷◌, ◌++◌, length, slice_set, refl, sym, ap, ◌∙◌, subst, arith, list_any, insert_key, or_from, and_right, length-set, BlobId, Entry, Register, Ack, Attest, Ready, Kind, Holds, Denies, Row, Tally, Next, node_of, committee_size, flag_of, BookState, IsTally, IsFirstClaim, link_in, node_size, tally_after, Rows, IsRow, row_in, row_registered, tally_of, with_tally, IsKept, log_of, claim_of, Log, phase, writing, owners_at, owners_of, until_among, same_node, signs_for, readies, ready_shards, signers, own_entries, history_of, id_eq, id_cmp, Ascends}
use Rattle.wal_ledger.proofs.RowsPlace.{id_same}
use Rattle.wal_ledger.proofs.Living.{registered_ascends, living_same, living_registered}
use Rattle.wal_ledger.proofs.RowsKept.{pushed, nameless, kept_still, kept_quiet, row_kept, own_within}
use Rattle.wal_ledger.proofs.Quorums.{count_below-joined, ready-node, node_apart}
use Rattle.wal_ledger.proofs.Entering.{since_push, flag_raised}
use Rattle.wal_ledger.proofs.Handover.{history_of-epoch, until_push, until_plain}
use Rattle.wal_ledger.proofs.HandoverEntries.{phase_after-plain}
use Rattle.wal_ledger.proofs.HandoverOrder.{claim_plain, IsClaim, is_claim}
use Rattle.wal_ledger.proofs.TallyLaws.{tally_signed, tally_other, row_none, signs_claim, signs_register}

-- a claim is entered
with_until : (kind : Kind) (t : Tally) (row : Row) → (with_tally kind t row).until ≡ row.until
with_until kind t row = grind arith

-- the row of the identifier that is claimed
claimed_row : (f first w place size shard : ℕ) (owners : ℕ → List ℕ) (kind : Kind) (id : BlobId) (own entries : List Entry) (links : List ℕ) (row : Row) → let x : Entry = record { epoch = w; body = claim_of kind shard id } in
    IsRow f owners own entries links row → IsFirstClaim f first (owners w) own kind shard x → size ≡ node_size f (owners w) shard → length entries ≡ place → length links ≡ place
    → IsRow f owners (own ++ x ∷ []) (entries ++ x ∷ []) (links ++ link_in w (tally_of kind row) ∷ []) (with_tally kind (tally_after f w place size (tally_of kind row)) row)
claimed_row f first w place size shard owners kind id own entries links row i claim sized entries_len links_len =
    let x : Entry = record { epoch = w; body = claim_of kind shard id } in
    record {
      until = omega (arith, with_until kind (tally_after f w place size (tally_of kind row)) row, i.until, until_push own x, until_plain x.body (claim_plain kind shard id).1);
      tallies = at kind i claim;
    }
  where
    at : (kind : Kind) → let x : Entry = record { epoch = w; body = claim_of kind shard id } in
        IsRow f owners own entries links row → IsFirstClaim f first (owners w) own kind shard x
        → (k : Kind) → IsTally f owners (own ++ x ∷ []) k (entries ++ x ∷ []) (links ++ link_in w (tally_of kind row) ∷ []) (tally_of k (with_tally kind (tally_after f w place size (tally_of kind row)) row))
    at Holds i claim Holds = tally_signed f first place size shard owners own Holds entries links row.holds (record { epoch = w; body = Ack shard id }) (i.tallies Holds) claim sized entries_len links_len
    at Holds i claim Denies = tally_other f owners own Denies entries links row.denies (record { epoch = w; body = Ack shard id }) (link_in w row.holds) (λ e s. refl) (i.tallies Denies)
    at Denies i claim Holds = tally_other f owners own Holds entries links row.holds (record { epoch = w; body = Attest shard id }) (link_in w row.denies) (λ e s. refl) (i.tallies Holds)
    at Denies i claim Denies = tally_signed f first place size shard owners own Denies entries links row.denies (record { epoch = w; body = Attest shard id }) (i.tallies Denies) claim sized entries_len links_len

-- the row of the identifier that is registered
registered_row : (f epoch w until : ℕ) (owners : ℕ → List ℕ) (id : BlobId) (own entries : List Entry) (links : List ℕ) (row : Row) → let x : Entry = record { epoch = w; body = Register id until } in
    IsRow f owners own entries links row
    → IsRow f owners (cond (nat_le (until_among own) epoch) (x ∷ []) (own ++ x ∷ [])) (entries ++ x ∷ []) (links ++ 0 ∷ []) (row_registered epoch until row)
registered_row f epoch w until owners id own entries links row i =
    let x : Entry = record { epoch = w; body = Register id until } in
    let fresh = row_none f until owners (x ∷ []) (entries ++ x ∷ []) (links ++ 0 ∷ []) (λ k e s.
    or_from (nat_eq w e && signs_for (owners e) k s x.body) false (and_right (nat_eq w e) (signs_for (owners e) k s x.body) (signs_register (owners e) k s id until)) refl) in
    rw (← i.until) (elim (cases_Bool (nat_le row.until epoch)) [
      | inl past ↦ rw past (record { until = omega arith; tallies = fresh })
      | inr live ↦ rw live (record {
        until = ap (λ n. max n until) i.until ∙ sym (until_push own x);
        tallies = elim [
          | Holds ↦ tally_other f owners own Holds entries links row.holds x 0 (λ e s. refl) (i.tallies Holds)
          | Denies ↦ tally_other f owners own Denies entries links row.denies x 0 (λ e s. refl) (i.tallies Denies)
        ];
      })
    ])

module _ (f first : ℕ) (start : List ℕ) (e : ℕ) (m : Bool) (now next : ℕ) (book : BookState) (table : Rows) (flags : List Bool) (total : ℕ)
    (k : IsKept (log_of f first start book) book.spare book.links e m now next table flags total) (room : 0 < book.spare) where
  abbrev log : Log
  log = log_of f first start book

  abbrev w : ℕ
  w = writing log

  -- what is kept after a claim
  pub kept_claim : (place size shard : ℕ) (kind : Kind) (id : BlobId) (new : Rows) → let t : Tally = tally_of kind (row_in table id) in
      shard < committee_size f → signers log id kind w shard ≡ false → place ≡ length book.entries
      → size ≡ node_size f (owners_of Next log) shard → new.ids ≡ table.ids → new.spare ≡ table.spare → new.live ≡ table.live
      → ((q : BlobId) → row_in new q ≡ cond (id_eq id q) (with_tally kind (tally_after f w place size t) (row_in table id)) (row_in table q))
      → IsKept (log_of f first start (pushed book (record { epoch = w; body = claim_of kind shard id }) (link_in w t))) (book.spare - 1) (book.links ++ link_in w t ∷ []) e m now next new flags total
  kept_claim place size shard kind id new below first_time at sized ids spare live rows =
      let t : Tally = tally_of kind (row_in table id) in
      let x : Entry = record { epoch = w; body = claim_of kind shard id } in
      let claim : IsClaim shard id x.body = is_claim kind shard id in
      let same_until = with_until kind (tally_after f w place size t) (row_in table id) in
      kept_quiet f first start e m now next book table flags total k room new x.body (link_in w t) (claim.of (committee_size f) below)
      (λ p. phase_after-plain x.body x p (claim_plain kind shard id).0) claim.quiet
      (record {
        ids = ids ∙ sym (claim.ids table.ids);
        spare = omega arith;
        rows = λ q. rw (claim.own w q (history_of first book.entries q), rows q) (elim (cases_Bool (id_eq id q)) [
          | inl same ↦
              rw (same, ← id_same id q same)
              (claimed_row f first w place size shard (owners_at log) kind id (own_entries log id) book.entries book.links (row_in table id) (k.rows id)
              (record { below = below; signed = signs_claim kind shard id; first_time = first_time; latest = own_within log id k.lawful })
              sized (sym at) (k.linked ∙ sym at))
          | inr differ ↦ rw differ (row_kept f (owners_at log) (own_entries log q) book.entries (x ∷ []) book.links (link_in w t ∷ []) (row_in table q) (k.rows q))
        ]);
      })
      (living_same e table new k.alive live ids (λ q. elim (cases_Bool (id_eq id q)) [
        | inl same ↦ rw (rows q, same, ← id_same id q same) same_until
        | inr differ ↦ rw (rows q, differ)
      ]))

  -- what is kept after a registration
  pub kept_registered : (until : ℕ) (id : BlobId) (new : Rows) → w < until → new.ids ≡ insert_key id_cmp table.ids id → new.live ≡ insert_key id_cmp table.live id → table.spare ≤ new.spare + 1
      → ((q : BlobId) → row_in new q ≡ cond (id_eq id q) (row_registered e until (row_in table id)) (row_in table q))
      → IsKept (log_of f first start (pushed book (record { epoch = w; body = Register id until }) 0)) (book.spare - 1) (book.links ++ 0 ∷ []) e m now next new flags total
  kept_registered until id new beyond ids live spare rows =
      let x : Entry = record { epoch = w; body = Register id until } in
      kept_quiet f first start e m now next book table flags total k room new (Register id until) 0 tt (λ p. refl) (λ o s. refl)
      (record {
        ids = ids;
        spare = spare;
        rows = λ q. rw (rows q) (elim (cases_Bool (id_eq id q)) [
          | inl same ↦
              rw (same, ← id_same id q same, history_of-epoch first book.entries id ∙ sym k.epoch_is)
              (registered_row f e w until (owners_at log) id (own_entries log id) book.entries book.links (row_in table id) (k.rows id))
          | inr differ ↦ rw differ (row_kept f (owners_at log) (own_entries log q) book.entries (x ∷ []) book.links (0 ∷ []) (row_in table q) (k.rows q))
        ]);
      })
      (living_registered e until id table new k.alive (subst Ascends (sym k.ids_are) (registered_ascends book.entries)) (omega (arith, k.epoch_is, beyond)) ids live rows)

  -- what is kept after a node is ready
  pub kept_ready : (shard node size : ℕ) → shard < committee_size f → ready_shards log shard ≡ false
      → node ≡ node_of (owners_of Next log) shard → node < committee_size f → size ≡ node_size f (owners_of Next log) shard
      → IsKept (log_of f first start (pushed book (record { epoch = w; body = Ready shard }) 0)) (book.spare - 1) (book.links ++ 0 ∷ []) e m now next table (slice_set flags node true) (total + size)
  kept_ready shard node size below first_time is node_below sized =
      let o : List ℕ = owners_of Next log in
      let x : Entry = record { epoch = w; body = Ready shard } in
      let joined = count_below-joined (committee_size f) (ready_shards log) (same_node o shard) (λ s. list_any (λ (y : Entry). readies o s y.body) ((phase log).since ++ x ∷ []))
      (λ s. since_push o (phase log).since x s)
      (node_apart o (ready_shards log) shard (λ s u h. ready-node o (phase log).since s u h) first_time) in
      kept_still f first start e m now next book table flags total k room table (slice_set flags node true) (total + size) (Ready shard) 0 below (λ p. refl)
      (nameless f first (owners_at log) book table x 0 k.rows refl (λ id. refl))
      (length-set flags node true)
      (λ s lt. flag_raised flags node (node_of o s) (omega (arith, k.nodes)) ∙ ap (λ (v : ℕ). flag_of flags (node_of o s) || nat_eq v (node_of o s)) is)
      (omega (arith, k.counted, sized, joined))
      k.alive
