-- What is answered, and what is written of it.
use Rattle.wal_serve.proofs.Common.{◌≡◌, ℕ, ◌+◌, ◌-◌, ◌<◌, ◌≤◌, Bool, List, [], ◌∷◌, ◌++◌, length, Option, None, Result, Ok, Err, refl, sym, ap, subst, ◌∙◌, append-nil, arith, length-append, flat_map-append, MetaClash, FrameError, Frame, envelope, CanBePut, WritesReply, Reply, ServedState, PayloadRoom, done, malformed, no_request, overlong, reply_text, outcome_text, clash_in, IsReplyOutcome, AnswersPut, AnswersFrame, AnswersRead, sent, Row, Table, looked_at, read_past, AnswersInto, RepliesInto, StopsWith, BlobId, Kind, LedgerState, committee_size, PutAnswer, PutsOrWants, ShowsTexts, ShardState, desk, with_contents, with_ledger, refused, no_shard, put_reply, refusal_reply, AnswersEntry, AnswersForget, ClaimEntered, Vouched, unbacked, asked, Entered, of_committee, of_none, forgotten, Forgets}
use Rattle.std.proofs.lemmas.List.Concat.{flat_map-cons}
use Rattle.wal_frame.specs.Buffer.{Buffer, appended}
use Rattle.wal_shard.proofs.ReplyLaws.{appended_then}
use Rattle.wal_serve.specs.inside.Requests.{IsNoRequest}
use Rattle.wal_serve.specs.inside.Saying.{Says, SaysReplied}
use Rattle.wal_shard.specs.declared.answers.AckRefusal.{AckRefusal}
use Rattle.wal_shard.specs.Vouching.{Vouches, MayForget, without_slivers}

pub sent_one : (own : ℕ) (payload : List ℕ) → sent own (payload ∷ []) ≡ envelope own payload
sent_one own payload = flat_map-cons (envelope own) payload [] ∙ append-nil (envelope own payload)

-- one frame was written
pub says_one : (own at : ℕ) (old new : Buffer) (payload : List ℕ) → at ≡ own → new ≡ appended old (envelope at payload) → length (envelope at payload) ≤ old.spare
    → Says own old (payload ∷ []) new
says_one own at old new payload by e fits =
    let same : envelope at payload ≡ sent own (payload ∷ []) = ap (λ (n : ℕ). envelope n payload) by ∙ sym (sent_one own payload) in
    record {
      written = e ∙ ap (appended old) same;
      fits = omega (arith, ap length same, fits);
    }

-- the frames of a reply, and then their number
pub says_replied : (own at room : ℕ) (old mid new : Buffer) (payloads : List (List ℕ)) (count : ℕ) (r : Reply) → at ≡ own → r ≡ done count → WritesReply own old payloads count mid
    → old.spare ≤ mid.spare + room → room + 17 ≤ old.spare → new ≡ appended mid (envelope at (reply_text r)) → length (envelope at (reply_text r)) ≤ mid.spare → SaysReplied own old payloads new
says_replied own at room old mid new payloads count r by is writes left enough e fits =
    let last = reply_text (done (length payloads)) in
    let front = sent own payloads in
    let whole : sent own (payloads ++ last ∷ []) ≡ front ++ envelope own last = flat_map-append (envelope own) payloads (last ∷ []) ∙ ap (λ (t : List ℕ). front ++ t) (sent_one own last) in
    let same : envelope at (reply_text r) ≡ envelope own last = cc (by, is, writes.counted) in
    let spare : mid.spare ≡ old.spare - length front = ap (λ (b : Buffer). b.spare) writes.written in
    record {
      written = cc (e, same, writes.written, appended_then old front (envelope own last), whole);
      fits = omega (arith, ap length whole, length-append front (envelope own last), ap length same, spare, left, enough, fits);
    }

-- the two texts that end serving stand in the last frame
frame_stops : (digest : List ℕ → List ℕ) (may_want : Bool) (x : Frame) (old new : ServedState) (frames : List (List ℕ)) (clash : Option MetaClash)
    → AnswersFrame digest may_want x old frames clash new → StopsWith clash frames
frame_stops digest may_want x old new frames clash h = grind arith

pub read_stops : (digest : List ℕ → List ℕ) (may_want : Bool) (r : Result Frame FrameError) (old new : ServedState) (frames : List (List ℕ)) (clash : Option MetaClash)
    → AnswersRead digest may_want r old frames clash new → StopsWith clash frames
read_stops digest may_want (Ok x) old new frames clash h = frame_stops digest may_want x old new frames clash h
read_stops digest may_want (Err fault) old new frames clash h = grind arith

-- ---- the rows of the table, as they are answered

-- one frame is answered so, and was written
pub says_row : (own at : ℕ) (old new : Buffer) (Answer : Row) (before after : ServedState) (outcome : Result Reply MetaClash) (clash : Option MetaClash)
    → Answer before (outcome_text outcome ∷ []) (clash_in outcome) after → clash ≡ clash_in outcome → at ≡ own → new ≡ appended old (envelope at (outcome_text outcome)) → length (envelope at (outcome_text outcome)) ≤ old.spare
    → (frames : List (List ℕ)) × Answer before frames clash after × Says own old frames new
says_row own at old new Answer before after outcome clash answers ends by e fits =
    rw ends (outcome_text outcome ∷ [], answers, says_one own at old new (outcome_text outcome) by e fits)

module _ (digest : List ℕ → List ℕ) (may_want : Bool) where
  -- the row of a frame that is known
  pub at_frame : (shown x : Frame) (before after : ServedState) (frames : List (List ℕ)) (clash : Option MetaClash) → shown ≡ x
      → AnswersFrame digest may_want x before frames clash after → AnswersFrame digest may_want shown before frames clash after
  at_frame shown x before after frames clash same h =
      subst (λ (y : Frame). AnswersFrame digest may_want y before frames clash after) (sym same) h

  -- a metadata, a sliver or a proof
  pub put_row : (x : Frame) (before after : ServedState) (frames : List (List ℕ)) (clash : Option MetaClash) → CanBePut x
      → AnswersPut digest may_want x before frames clash after → AnswersFrame digest may_want x before frames clash after
  put_row (Frame.Metadata m) before after frames clash part h = h
  put_row (Frame.Sliver id axis index bytes) before after frames clash part h = h
  put_row (Frame.Proof id p) before after frames clash part h = h
  put_row _ before after frames clash part h = absurd part

  no_row : (x : Frame) (before after : ServedState) (frames : List (List ℕ)) (clash : Option MetaClash) → IsNoRequest x
      → IsReplyOutcome (Ok no_request) frames clash × (after ≡ before) → AnswersFrame digest may_want x before frames clash after
  no_row x before after frames clash none h = grind arith

  -- a frame that is no request
  pub refused_row : (x : Frame) (before : ServedState) (r : Reply) → IsNoRequest x → r ≡ no_request → AnswersFrame digest may_want x before (reply_text r ∷ []) None before
  refused_row x before r none is = no_row x before before _ None none ((ap (λ (q : Reply). reply_text q ∷ []) is, refl), refl)

  -- a payload that is no frame
  pub fault_row : (read : Result Frame FrameError) (fault : FrameError) (before : ServedState) (r : Reply) → read ≡ Err fault → r ≡ malformed fault
      → AnswersRead digest may_want read before (reply_text r ∷ []) None before
  fault_row read fault before r reads is =
      subst (λ (x : Result Frame FrameError). AnswersRead digest may_want x before (reply_text r ∷ []) None before) (sym reads)
      ((ap (λ (q : Reply). reply_text q ∷ []) is, refl), refl)

-- ---- payloads in the buffer

-- a payload for which there is no room
pub overlong_into : (C : Type 0) (Answer : Table C) (buffer : PayloadRoom) (size : ℕ) (old : C) (r : Reply) → r ≡ overlong → buffer.room < size
    → AnswersInto Answer buffer size old (reply_text r ∷ []) None old
overlong_into C Answer buffer size old r is less =
    rw is (λ payload long kept. read_past (omega (arith, less, long)), tt)

-- a payload that is in the buffer
pub looked_into : (C : Type 0) (Answer : Table C) (buffer : PayloadRoom) (there : List ℕ) (size : ℕ) (old new : C) (frames : List (List ℕ)) (clash : Option MetaClash) → size ≤ buffer.room
    → there ≡ buffer.bytes → Answer old there frames clash new → RepliesInto Answer buffer size old frames clash new
looked_into C Answer buffer there size old new frames clash le is answers payload long kept =
    looked_at frames clash new (omega (arith, le, long)) (rw (is ∙ kept le) at answers)

-- ---- what the requests do that have one answer

-- what the ledger answers, as a row of the table
pub entry_row : (Makes : Reply → LedgerState → Type 0) (s : ServedState) (r : Reply) (ledger : LedgerState) → Makes r ledger
    → AnswersEntry Makes s (reply_text r ∷ []) None (with_ledger s ledger)
entry_row Makes s r ledger makes = (r, ledger, makes, (refl, refl), refl)

-- the shard's refusal; the ledger is lent
pub vouched_not : (kind : Kind) (s : ServedState) (lent : LedgerState) (id : BlobId) (why : AckRefusal) (r : Reply) → lent ≡ s.ledger
    → Vouches kind lent.log s.shard.contents id (Err why) → r ≡ refusal_reply why
    → AnswersEntry (Vouched kind s id) s (reply_text r ∷ []) None (with_ledger s s.ledger)
vouched_not kind s lent id why r lends vouches is =
    let own = subst (λ (l : LedgerState). Vouches kind l.log s.shard.contents id (Err why)) lends vouches in
    entry_row (Vouched kind s id) s r s.ledger (rw is (unbacked why own))

-- what the shard vouches for is answered so
pub vouched : (kind : Kind) (s : ServedState) (lent new : LedgerState) (id : BlobId) (own : ℕ) (r : Reply) → lent ≡ s.ledger → own ≡ s.shard.index
    → Vouches kind lent.log s.shard.contents id (Ok tt) → ClaimEntered kind s.ledger own id r new
    → AnswersEntry (Vouched kind s id) s (reply_text r ∷ []) None (with_ledger s new)
vouched kind s lent new id own r lends by vouches claimed =
    entry_row (Vouched kind s id) s r new (asked r new (rw lends at vouches) (rw by at claimed))

-- entries of shards
pub entered_none : (kind : Kind) (s : ServedState) (shard : ℕ) (id : BlobId) (r : Reply) → r ≡ no_shard
    → (shard < committee_size s.ledger.log.f → ⊥)
    → AnswersEntry (Entered kind s.ledger shard id) s (reply_text r ∷ []) None (with_ledger s s.ledger)
entered_none kind s shard id r is not = entry_row (Entered kind s.ledger shard id) s r s.ledger (rw is (of_none not))

-- what the ledger says of a claim is the answer to its entry, and the shard stays
pub entered_in : (kind : Kind) (s : ServedState) (shard : ℕ) (id : BlobId) (r : Reply) (new : LedgerState) → shard < committee_size s.ledger.log.f
    → ClaimEntered kind s.ledger shard id r new
    → AnswersEntry (Entered kind s.ledger shard id) s (reply_text r ∷ []) None (with_ledger s new)
entered_in kind s shard id r new within claimed =
    entry_row (Entered kind s.ledger shard id) s r new (of_committee r new within claimed)

abbrev pub state_with : ShardState → LedgerState → ServedState
state_with shard ledger = record { shard = shard; ledger = ledger }

-- slivers that go, and that stay; the ledger is lent
pub forgets_done : (s : ServedState) (lent : LedgerState) (shard : ShardState) (id : BlobId) (r : Reply) → lent ≡ s.ledger → MayForget lent.log s.shard.contents id → r ≡ done 0
    → shard ≡ with_contents s.shard (without_slivers s.shard.contents id) → AnswersForget id s (reply_text r ∷ []) None (state_with shard s.ledger)
forgets_done s lent shard id r lends may is gone =
    (r, without_slivers s.shard.contents id, rw is (forgotten (rw lends at may)), (refl, refl), ap (λ (z : ShardState). state_with z s.ledger) gone)

-- to forget what may not be forgotten is refused with code 5, and changes nothing
pub forgets_not : (s : ServedState) (lent : LedgerState) (shard : ShardState) (id : BlobId) (r : Reply) → lent ≡ s.ledger → (MayForget lent.log s.shard.contents id → ⊥) → r ≡ refused 5
    → shard ≡ s.shard → AnswersForget id s (reply_text r ∷ []) None (state_with shard s.ledger)
forgets_not s lent shard id r lends not is stays =
    (r, s.shard.contents, rw is (Forgets.kept (rw lends at not)), (refl, refl), ap (λ (z : ShardState). state_with z s.ledger) stays)

-- what is put; the ledger is lent
pub gives_put : (digest : List ℕ → List ℕ) (may_want : Bool) (s : ServedState) (lent : LedgerState) (shard : ShardState) (x : Frame) (answer : PutAnswer) (outcome : Result Reply MetaClash) → lent ≡ s.ledger
    → PutsOrWants digest may_want (desk s.shard lent.log) s.shard.contents x answer shard.contents → outcome ≡ put_reply answer → ShowsTexts digest s.shard.contents x answer → shard ≡ with_contents s.shard shard.contents
    → AnswersPut digest may_want x s (outcome_text outcome ∷ []) (clash_in outcome) (state_with shard s.ledger)
gives_put digest may_want s lent shard x answer outcome lends puts is shows same =
    (outcome, shard.contents, (answer, rw lends at puts, is, shows), (refl, refl), ap (λ (z : ShardState). state_with z s.ledger) same)
