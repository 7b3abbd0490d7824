-- What the row of an identifier tells.
use Rattle.wal_ledger.proofs.Common.{◌≡◌, ℕ, zero, suc, ◌+◌, ◌-◌, ◌<◌, ◌≤◌, Bool, true, false, cond, ◌||◌, nat_lt, All, subst, arith, List, [], ◌∷◌, ◌++◌, length, filter, replicate, refl, sym, ap, ◌∙◌, list_any, or-false, lt-ltb, le-ltb, both_ways, length-append, length-replicate, All-nil, All-cons, All-push, fold_push, BlobId, Entry, Body, Begin, Finish, Row, Now, Next, are_owners, node_of, count_below, committee_size, flag_of, BookState, Rows, IsRow, row_in, living, IsOfCommittee, IsKept, StandAt, log_of, IsMadeIn, IsMadeSince, Log, Phase, phase, phase_in, phase_after, names, writing, reading, is_moving, owners_at, owners_of, own_entries, readies, with_registered, History, history_of, history_after, IsWithin, Option, Some, None, IfSome, IfNone, slice_index_or, Holds, quorum_size, count_among, IsLeastQuorum, IsLawful, is_live, IsCertified, IsCertificate, IsDated, no_row, HasBrought}
use Rattle.wal_ledger.proofs.Entering.{phase_push, phase_whole, history_of-push, since_push, flag_cleared, own_all}
use Rattle.wal_ledger.proofs.Quorums.{count_below-none, moves_in, writes_in, owners_in, brought_before, brought_last}
use Rattle.wal_ledger.proofs.Living.{living_retired}
use Rattle.wal_ledger.proofs.TallyLaws.{tally_kept, tally_owned, slice_get-front, slice_get-push, count_below-same, row_none}

-- an identifier's own entries are of the epochs that have been
pub own_within : (log : Log) (id : BlobId) → IsLawful log → All (IsWithin log.first (writing log)) (own_entries log id)
own_within log id lawful = own_all (IsWithin log.first (writing log)) log.first id log.entries (own_entries log id) refl lawful.within

-- the certificate of a live identifier
pub certificate_some : (log : Log) (id : BlobId) (o : Option (ℕ × ℕ)) → is_live log id ≡ true → IfSome o (λ found. IsLeastQuorum log.f (owners_at log) (own_entries log id) Holds found.0 found.1) → IfSome o (λ found. IsCertificate log id found.0 found.1)
certificate_some log id None live least = tt
certificate_some log id (Some found) live least = record { live = live; counted = least.counted; quorum = least.quorum; least = least.least }

pub certificate_none : (log : Log) (id : BlobId) (o : Option (ℕ × ℕ)) → IfNone o ((e : ℕ) → count_among log.f (owners_at log) (own_entries log id) Holds e < quorum_size log.f) → IfNone o (IsCertified log id → ⊥)
certificate_none log id None few = λ certified. omega (arith, few certified.quorum.0, certified.quorum.1)
certificate_none log id (Some found) few = tt

-- what is kept of an empty ledger
pub kept_new : (f first : ℕ) (start : List ℕ) (room : ℕ) → 1 ≤ f → f ≤ 333 → first ≤ 65535 → are_owners (committee_size f) start ≡ true
    → IsKept (record { f = f; first = first; owners = start; entries = [] }) room [] first false 0 0 (record { ids = []; rows = []; live = []; spare = room }) (replicate (committee_size f) false) 0
kept_new f first start room some few last owned =
    let here : first + 0 - first ≡ 0 = omega arith in
    let there : first + 0 + 0 - first ≡ 0 = omega arith in
    let log : Log = record { f = f; first = first; owners = start; entries = [] } in
    let low : first + 0 + 0 ≤ 65535 = omega arith in
    let fits : room ≤ room = omega arith in
    let read : first ≡ first + 0 = omega arith in
    let brings : false ≡ true → HasBrought log = λ moving. absurd (cc) in
    let dated : false ≡ true → IsDated log = λ moving. absurd (cc) in
    let within = All-nil (IsWithin first (first + 0 + 0)) in
    let none_ahead = All-nil (λ (x : Entry). x.epoch ≤ first + 0 + 0) in
    let since_begin = All-nil (IsMadeSince (first + 0 + 0)) in
    let members = All-nil (λ (x : Entry). IsOfCommittee (committee_size f) x.body) in
    let now_at = ap (λ (k : ℕ). slice_index_or (start ∷ []) k []) here in
    let next_at = ap (λ (k : ℕ). slice_index_or (start ∷ []) k []) there in
    let rows : (id : BlobId) → IsRow f (owners_at log) [] [] [] no_row =
    λ id. record { until = refl; tallies = row_none f 0 (owners_at log) [] [] [] (λ kind e s. refl) } in
    let nodes = length-replicate (committee_size f) false in
    let ready = λ (s : ℕ) (lt : s < committee_size f).
    flag_cleared (committee_size f) (node_of (slice_index_or (start ∷ []) (first + 0 + 0 - first) []) s) in
    let counted = sym (count_below-none (committee_size f) (λ s. false) (λ s. refl)) in
    assumption

-- ---- What is kept of a ledger after one more entry.

-- a row stays right when entries follow that are not the identifier's own
pub row_kept : (f : ℕ) (owners : ℕ → List ℕ) (own entries more : List Entry) (links after : List ℕ) (row : Row) → IsRow f owners own entries links row → IsRow f owners own (entries ++ more) (links ++ after) row
row_kept f owners own entries more links after row i = record {
  until = i.until;
  tallies = λ kind. tally_kept f owners own kind entries more links after _ (i.tallies kind);
}

-- and by all owners that are the same for the epochs of the own entries
row_owned : (f first last : ℕ) (owners owns : ℕ → List ℕ) (own entries : List Entry) (links : List ℕ) (row : Row) → All (IsWithin first last) own → ((e : ℕ) → e ≤ last → owns e ≡ owners e)
    → IsRow f owners own entries links row → IsRow f owns own entries links row
row_owned f first last owners owns own entries links row within same i = record {
  until = i.until;
  tallies = λ kind. tally_owned f first last owners owns own kind entries links _ within same (i.tallies kind);
}

-- owners stand where they stood when more entries follow
stand_push : (start : List ℕ) (entries more : List Entry) (link : ℕ) (owners : List ℕ) → StandAt start entries link owners → StandAt start (entries ++ more) link owners
stand_push start entries more zero owners h = h
stand_push start entries more (suc place) owners h = (h.0, slice_get-front entries more place _ h.1)

-- those that a Begin brings stand there
stand_begun : (start : List ℕ) (entries : List Entry) (e link : ℕ) (owners : List ℕ) → link ≡ length entries + 1 → StandAt start (entries ++ record { epoch = e; body = Begin owners } ∷ []) link owners
stand_begun start entries e zero owners at = absurd (omega arith)
stand_begun start entries e (suc place) owners at = (e, slice_get-push entries (record { epoch = e; body = Begin owners }) place (omega arith))

-- what is kept, of the phase and the writing epoch
record AtPhase (f first : ℕ) (start : List ℕ) (entries : List Entry) (e : ℕ) (m : Bool) (now next : ℕ) (flags : List Bool) (total w : ℕ) (q : Phase) : Type 0 where
  last : w ≤ 65535
  turns : length q.brought ≡ q.finishes + cond (moves_in q) 1 0
  paused : moves_in q ≡ true → (phase_in q.before).finishes ≡ q.finishes
  brings : moves_in q ≡ true → (o : List ℕ) × (q.brought ≡ (phase_in q.before).brought ++ o ∷ [])
  made : All (IsMadeSince w) q.since
  dated : moves_in q ≡ true → All (λ x. x.epoch ≤ first + q.finishes) q.before × All (IsMadeIn w) q.since
  epoch_is : e ≡ first + q.finishes
  moving_is : m ≡ moves_in q
  now_at : StandAt start entries now (owners_in first start q (first + q.finishes))
  next_at : StandAt start entries next (owners_in first start q w)
  ready : let o = owners_in first start q w in (s : ℕ) → s < committee_size f → flag_of flags (node_of o s) ≡ list_any (λ x. readies o s x.body) q.since
  counted : let o = owners_in first start q w in total ≡ count_below (committee_size f) (λ s. list_any (λ x. readies o s x.body) q.since)

-- what is kept, of the rows, after one more entry, by the owners of each epoch
pub record Follows (f first : ℕ) (owners : ℕ → List ℕ) (book : BookState) (table new : Rows) (x : Entry) (link : ℕ) : Type 0 where
  pub ids : new.ids ≡ with_registered table.ids x.body
  pub spare : table.spare ≤ new.spare + 1
  pub rows : (id : BlobId) → IsRow f owners (history_after id (history_of first book.entries id) x).own (book.entries ++ x ∷ []) (book.links ++ link ∷ []) (row_in new id)

-- entries that name no identifier leave the rows
pub nameless : (f first : ℕ) (owners : ℕ → List ℕ) (book : BookState) (table : Rows) (x : Entry) (link : ℕ)
    → ((id : BlobId) → IsRow f owners (history_of first book.entries id).own book.entries book.links (row_in table id))
    → with_registered table.ids x.body ≡ table.ids → ((id : BlobId) → names id x.body ≡ false) → Follows f first owners book table table x link
nameless f first owners book table x link rows ids none = record {
  ids = sym ids;
  spare = omega arith;
  rows = λ id. rw (none id) (row_kept f owners (history_of first book.entries id).own book.entries (x ∷ []) book.links (link ∷ []) (row_in table id) (rows id));
}

-- the entries, with one more and its link
abbrev pub pushed : BookState → Entry → ℕ → BookState
pushed book x link = record { entries = book.entries ++ x ∷ []; links = book.links ++ link ∷ []; spare = book.spare - 1 }

-- those that live on when the reading epoch ends
abbrev pub living_on : ℕ → Rows → Rows
living_on e table = record table { live = filter (λ q. nat_lt (e + 1) (row_in table q).until) table.live }

-- entries by which no node is ready leave the ready ones
quiet_count : (n : ℕ) (owners : List ℕ) (since : List Entry) (x : Entry) → ((s : ℕ) → readies owners s x.body ≡ false)
    → count_below n (λ s. list_any (λ (y : Entry). readies owners s y.body) (since ++ x ∷ [])) ≡ count_below n (λ s. list_any (λ (y : Entry). readies owners s y.body) since)
quiet_count n owners since x quiet =
    count_below-same n _ _ (λ s lt. since_push owners since x s ∙ ap (λ b. list_any (λ (y : Entry). readies owners s y.body) since || b) (quiet s) ∙ or-false (list_any (λ (y : Entry). readies owners s y.body) since))

module _ (f first : ℕ) (start : List ℕ) (e : ℕ) (m : Bool) (now next : ℕ) (book : BookState) (table : Rows) (flags : List Bool) (total : ℕ)
    (k : IsKept (log_of f first start book) book.spare book.links e m now next table flags total) (room : 0 < book.spare) where
  abbrev old : Log
  old = log_of f first start book

  abbrev entered : Body → Entry
  entered body = record { epoch = writing old; body = body }

  abbrev entries : Body → List Entry
  entries body = book.entries ++ entered body ∷ []

  -- what is kept after one more entry
  abbrev KeptAfter : Body → ℕ → ℕ → Bool → ℕ → ℕ → Rows → List Bool → ℕ → Type 0
  KeptAfter body link o n reads writes new after sum =
      IsKept (log_of f first start (pushed book (entered body) link)) (book.spare - 1) (book.links ++ link ∷ []) o n reads writes new after sum

  kept_push : (body : Body) (link o : ℕ) (n : Bool) (reads writes : ℕ) (new : Rows) (after : List Bool) (sum u : ℕ)
      → let x : Entry = entered body in let q : Phase = phase_after body x (phase old) in
      IsOfCommittee (committee_size f) body → length after ≡ length flags → u ≡ writes_in first q → writing old ≤ u
      → Follows f first (owners_in first start q) book table new x link
      → AtPhase f first start (entries body) o n reads writes after sum u q → new.live ≡ living o new
      → KeptAfter body link o n reads writes new after sum
  kept_push body link o n reads writes new after sum u of same is grows follows turns alive =
      let x : Entry = entered body in
      let push = sym (phase_push book.entries x) in
      let p : Phase = phase_in (entries body) in
      let w : ℕ = writes_in first p in
      let epoch : u ≡ w = is ∙ ap (writes_in first) push in
      let at : AtPhase f first start (entries body) o n reads writes after sum w p =
      subst (λ (v : ℕ). AtPhase f first start (entries body) o n reads writes after sum v p) epoch
      (subst (AtPhase f first start (entries body) o n reads writes after sum u) push turns) in
      let rows : Follows f first (owners_in first start p) book table new x link =
      subst (λ (q : Phase). Follows f first (owners_in first start q) book table new x link) push follows in
      let within : All (IsWithin first w) (entries body) =
      All-push (IsWithin first w) book.entries x
      (λ j d lt. let i = k.lawful.within j d lt in record { low = i.low; high = omega (arith, i.high, grows, epoch) })
      (record { low = omega arith; high = omega (arith, grows, epoch) }) in
      let none_ahead : All (λ (y : Entry). y.epoch ≤ w) (entries body) = λ j d lt. (within j d lt).high in
      let dated : moves_in p ≡ true → IsDated (log_of f first start (pushed book x link)) =
      λ moving. record { earlier = (at.dated moving).0; later = (at.dated moving).1 } in
      let members = All-push (λ (y : Entry). IsOfCommittee (committee_size f) y.body) book.entries x
      k.lawful.members of in
      let ids_are = rows.ids ∙ ap (λ (l : List BlobId). with_registered l body) k.ids_are
      ∙ sym (fold_push (λ l (y : Entry). with_registered l y.body) [] book.entries x) in
      let ids_fit : book.spare - 1 ≤ new.spare = omega (arith, k.ids_fit, rows.spare) in
      let linked : length (book.links ++ link ∷ []) ≡ length (entries body) =
      omega (arith, k.linked, length-append book.links (link ∷ []), length-append book.entries (x ∷ [])) in
      let row = λ (id : BlobId). subst (λ (c : History). IsRow f (owners_in first start p) c.own (entries body)
      (book.links ++ link ∷ []) (row_in new id)) (sym (history_of-push first book.entries x id)) (rows.rows id) in
      let nodes = same ∙ k.nodes in
      assumption

  -- what is kept after an entry that neither begins nor ends a change of the epoch
  pub kept_still : (new : Rows) (after : List Bool) (sum : ℕ) (body : Body) (link : ℕ) → let x : Entry = entered body in let o : List ℕ = owners_of Next old in
      IsOfCommittee (committee_size f) body → ((p : Phase) → phase_after body x p ≡ record p { since = p.since ++ x ∷ [] })
      → Follows f first (owners_at old) book table new x link → length after ≡ length flags
      → ((s : ℕ) → s < committee_size f → flag_of after (node_of o s) ≡ (flag_of flags (node_of o s) || readies o s body))
      → sum ≡ count_below (committee_size f) (λ s. list_any (λ (y : Entry). readies o s y.body) ((phase old).since ++ x ∷ [])) → new.live ≡ living e new
      → KeptAfter body link e m now next new after sum
  kept_still new after sum body link of turns follows same more counted alive =
      let x : Entry = entered body in
      let p : Phase = phase old in
      let is = sym (turns p) in
      let made = All-push (IsMadeSince (writing old)) p.since x k.lawful.since_begin (λ plain. refl) in
      let dated : is_moving old ≡ true → All (λ (y : Entry). y.epoch ≤ reading old) p.before
      × All (IsMadeIn (writing old)) (p.since ++ x ∷ []) =
      λ moving. let d = k.lawful.dated moving in
      (d.earlier, All-push (IsMadeIn (writing old)) p.since x d.later (λ id named. refl)) in
      let now_at = stand_push start book.entries (x ∷ []) now (owners_of Now old) k.now_at in
      let next_at = stand_push start book.entries (x ∷ []) next (owners_of Next old) k.next_at in
      let ready = λ (s : ℕ) (lt : s < committee_size f). more s lt
      ∙ ap (λ b. b || readies (owners_of Next old) s body) (k.ready s lt)
      ∙ sym (since_push (owners_of Next old) p.since x s) in
      kept_push body link e m now next new after sum (writing old) of same (ap (writes_in first) is) (omega arith)
      (subst (λ (q : Phase). Follows f first (owners_in first start q) book table new x link) is follows)
      (subst (AtPhase f first start (entries body) e m now next after sum (writing old)) is (assumption))
      alive

  -- what is kept after one that neither begins nor ends a change and makes nobody ready
  pub kept_quiet : (new : Rows) (body : Body) (link : ℕ) → let x : Entry = entered body in
      IsOfCommittee (committee_size f) body → ((p : Phase) → phase_after body x p ≡ record p { since = p.since ++ x ∷ [] })
      → ((owners : List ℕ) (s : ℕ) → readies owners s body ≡ false) → Follows f first (owners_at old) book table new x link → new.live ≡ living e new
      → KeptAfter body link e m now next new flags total
  kept_quiet new body link of turns quiet follows alive =
      let o : List ℕ = owners_of Next old in
      kept_still new flags total body link of turns follows refl
      (λ s lt. sym (ap (λ b. flag_of flags (node_of o s) || b) (quiet o s) ∙ or-false (flag_of flags (node_of o s))))
      (k.counted ∙ sym (quiet_count (committee_size f) o (phase old).since (entered body) (quiet o)))
      alive

  -- at a Begin
  pub kept_begin : (place : ℕ) (owners : List ℕ) → is_moving old ≡ false → reading old < 65535 → are_owners (committee_size f) owners ≡ true → place ≡ length book.entries + 1
      → KeptAfter (Begin owners) 0 e true now place table (replicate (length flags) false) 0
  kept_begin place owners serving below owned at =
      let x : Entry = entered (Begin owners) in
      let p : Phase = phase old in
      let q : Phase = phase_after (Begin owners) x p in
      let w : ℕ = reading old + 1 in
      let one : writing old ≡ reading old = omega (arith, ap {B = ℕ} (λ b. cond b 1 0) serving) in
      let equal : length p.brought ≡ p.finishes = omega (arith, k.lawful.turns, one) in
      let more : length q.brought ≡ length p.brought + 1 = length-append p.brought (owners ∷ []) in
      let moves : moves_in q ≡ true = lt-ltb p.finishes (length q.brought) (omega (arith, more, equal)) in
      let two : w ≡ writes_in first q = omega (arith, ap {B = ℕ} (λ b. cond b 1 0) moves) in
      let before : All (λ (y : Entry). y.epoch ≤ reading old) (p.before ++ p.since) =
      subst (All (λ (y : Entry). y.epoch ≤ reading old)) (sym (phase_whole book.entries)) (λ j d lt. omega (arith, k.lawful.none_ahead j d lt, one)) in
      let same : (e : ℕ) → e ≤ writing old → owners_in first start q e ≡ owners_in first start p e =
      λ e le. brought_before (start ∷ p.brought) owners (e - first) (omega (arith, le, one, equal)) in
      let next_owners : owners_in first start q w ≡ owners = brought_last (start ∷ p.brought) owners (w - first) (omega (arith, equal)) in
      kept_push (Begin owners) 0 e true now place table (replicate (length flags) false) 0 w owned (length-replicate (length flags) false) two (omega (arith, one))
      (nameless f first (owners_in first start q) book table x 0
      (λ id. row_owned f first (writing old) (owners_at old) (owners_in first start q) (own_entries old id) book.entries book.links (row_in table id) (own_within old id k.lawful) same (k.rows id))
      refl (λ id. refl))
      (record {
        last = omega (arith, below);
        turns = omega (arith, more, two, equal);
        paused = λ moving. ap (λ (l : List Entry). (phase_in l).finishes) (phase_whole book.entries);
        brings = λ moving. (owners, ap (λ (l : List Entry). (phase_in l).brought ++ owners ∷ []) (sym (phase_whole book.entries)));
        made = All-cons (IsMadeSince w) x [] (λ plain. cc) (All-nil (IsMadeSince w));
        dated = λ moving. (before, All-cons (IsMadeIn w) x [] (λ id named. cc) (All-nil (IsMadeIn w)));
        epoch_is = k.epoch_is;
        moving_is = sym moves;
        now_at = subst (StandAt start (entries (Begin owners)) now) (sym (same (reading old) (omega arith))) (stand_push start book.entries (x ∷ []) now (owners_of Now old) k.now_at);
        next_at = subst (StandAt start (entries (Begin owners)) place) (sym next_owners) (stand_begun start book.entries (writing old) place owners at);
        ready = λ s lt. flag_cleared (length flags) (node_of (owners_in first start q w) s);
        counted = sym (count_below-none (committee_size f) (λ s. false) (λ s. refl));
      })
      k.alive

  -- at a Finish
  pub kept_finish : is_moving old ≡ true → KeptAfter Finish 0 (e + 1) false next next (living_on e table) flags total
  kept_finish moving =
      let x : Entry = entered Finish in
      let p : Phase = phase old in
      let o : List ℕ = owners_of Next old in
      let one : writing old ≡ first + (p.finishes + 1) = omega (arith, ap {B = ℕ} (λ b. cond b 1 0) moving) in
      let rests : nat_lt (p.finishes + 1) (length p.brought) ≡ false = le-ltb (p.finishes + 1) (length p.brought) (omega (arith, k.lawful.turns, one)) in
      let two : writing old ≡ writes_in first (phase_after Finish x p) = omega (arith, one, ap {B = ℕ} (λ b. cond b 1 0) rests) in
      let stands = stand_push start book.entries (x ∷ []) next o k.next_at in
      let same : Follows f first (owners_at old) book table table x 0 = nameless f first (owners_at old) book table x 0 k.rows refl (λ id. refl) in
      kept_push Finish 0 (e + 1) false next next (living_on e table) flags total (writing old) tt refl two (omega arith)
      (record { ids = same.ids; spare = same.spare; rows = same.rows })
      (record {
        last = k.lawful.last;
        turns = omega (arith, k.lawful.turns, one, two);
        paused = λ again. let none : true ≡ false = sym again ∙ rests in cc;
        brings = λ again. absurd (both_ways _ rests again);
        made = All-push (IsMadeSince (writing old)) p.since x k.lawful.since_begin (λ plain. refl);
        dated = λ again. absurd (both_ways _ rests again);
        epoch_is = omega (arith, k.epoch_is);
        moving_is = sym rests;
        now_at = subst (λ (u : ℕ). StandAt start (entries Finish) next (owners_in first start p u)) one stands;
        next_at = stands;
        ready = λ s lt. k.ready s lt ∙ sym (since_push o p.since x s ∙ or-false (list_any (λ (y : Entry). readies o s y.body) p.since));
        counted = k.counted ∙ sym (quiet_count (committee_size f) o p.since x (λ s. refl));
      })
      (living_retired e table k.alive)
