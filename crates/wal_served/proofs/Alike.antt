-- States that are alike at an identifier answer a request of it alike, and are alike then.
use Rattle.wal_served.proofs.Common.{◌≡◌, ℕ, ◌-◌, ◌<◌, Bool, true, false, cond, List, [], ◌∷◌, length, Option, Some, None, Result, Ok, Err, inl, inr, refl, sym, ap, subst, ◌∙◌, arith, IfSome, cases_lt, BlobId, Part, MetaClash, FrameError, Frame, Metadata, Sliver, Opening, Proof, Read, Symbol, Ack, Attest, Forget, Answer, Clash, RegisterEntry, AckEntry, AttestEntry, stored_bytes, Kind, Holds, Denies, LedgerState, is_live, HasRoom, Parts, pages_for, Contents, parts_at, part_at, with_bytes, cost, free_of, needed_for, AckRefusal, PutAnswer, SymbolReplies, read_reply_of, has_proof, IsAccepted, IsHeldIn, PutsOrWants, ShowsTexts, Verifies, put_id, put_part, desk, Vouches, backs, MayForget, without_slivers, ServedState, holding, with_ledger, named, refused, done, put_reply, ClaimEntered, Entered, Forgets, Registered, Vouched, unbacked, asked, forgotten, kept, AnswersRead, AnswersFrame, AnswersPut, AnswersEntry, AnswersForget, IsReplyOutcome, IsReplied, TellsWant, answer_text, about, about_read, AlikeAt, RoomFor, pages_in, entries_in, asks_entry, tells, tells_entry, ◌≤◌, ◌⊎◌, is_some, false≢true, read_of, PutDesk, AnswersRequest, read_stops, AnswersAlike, AnswersWithRoom, WantsForMore}
use Rattle.wal_served.proofs.Replies.{Reply}
use Rattle.wal_served.proofs.Apart.{alike_one, stored_there, slivers_gone}
use Rattle.wal_served.proofs.AlikeLedgers.{Follows, so_too, short, joined_ledgers, same_live, same_until, same_writing, open_too, invalid_too, claim_entered, registered_too, entered_too, rewritten}
use Rattle.wal_serve.specs.Determined.{SameButLast, SameFrames}
use Rattle.wal_serve.specs.inside.Serving.{StopsWith}
use Rattle.wal_serve.proofs.OneTable.{one_table}

-- of two states that are alike to one, each is alike to the other
pub joined : (id : BlobId) (one here there : ServedState) → AlikeAt id one here → AlikeAt id one there → AlikeAt id here there
joined id one here there a b = record {
  faults = b.faults ∙ sym a.faults;
  index = b.index ∙ sym a.index;
  parts = b.parts ∙ sym a.parts;
  ledgers = joined_ledgers id one.ledger.log here.ledger.log there.ledger.log a.ledgers b.ledgers;
}

-- ---- answers

-- the pages and the entries that an answer tells to be taken
abbrev pub charged_pages : Result Frame FrameError → List (List ℕ) → ℕ
charged_pages read frames = cond (tells 0 frames) (pages_in read) 0

abbrev pub charged_entries : Result Frame FrameError → List (List ℕ) → ℕ
charged_entries read frames = cond (tells_entry frames) (entries_in read) 0

-- the other state has that answer, and is alike then; or it lacks room for what that answer tells to be taken, and may say so
pub data Carried (digest : List ℕ → List ℕ) (id : BlobId) (other : ServedState) (read : Result Frame FrameError) (frames : List (List ℕ)) (clash : Option MetaClash) (new : ServedState) : Type 0 where
  carries : (then : ServedState) → AnswersRead digest false read other frames clash then → AlikeAt id new then → Carried digest id other read frames clash new
  wants : (others : List (List ℕ)) → TellsWant others → AnswersRead digest false read other others None other → tells_entry frames ≡ true
      → (RoomFor id other (charged_pages read frames) (charged_entries read frames) → ⊥) → Carried digest id other read frames clash new

-- what holds of f, of the shard's number and of what is held in the one state holds of those in the other
along : (id : BlobId) (one other : ServedState) → AlikeAt id one other → (P : ℕ → ℕ → Parts → Type 0) → P one.shard.f one.shard.index (parts_at one.shard.contents id)
    → P other.shard.f other.shard.index (parts_at other.shard.contents id)
along id one other a P h = rw (a.parts, a.index, a.faults) h

module _ (id : BlobId) (one other : ServedState) (a : AlikeAt id one other) where
  -- what is held came to be alike
  with_parts : (c d : Contents) → parts_at d id ≡ parts_at c id → AlikeAt id (holding one c) (holding other d)
  with_parts c d same = record { faults = a.faults; index = a.index; parts = same; ledgers = a.ledgers }

  live_too : is_live other.ledger.log id ≡ is_live one.ledger.log id
  live_too = same_live id one.ledger.log other.ledger.log a.ledgers

  -- ---- the ledger's answers

  vouches_too : (kind : Kind) (answer : Result (Unit {0}) AckRefusal) → Vouches kind one.ledger.log one.shard.contents id answer → Vouches kind other.ledger.log other.shard.contents id answer
  vouches_too kind (Ok done) v = (open_too id one.ledger.log other.ledger.log a.ledgers v.0, ap (backs kind) a.parts ∙ v.1)
  vouches_too kind (Err AckRefusal.Unregistered) v = live_too ∙ v
  vouches_too kind (Err AckRefusal.Expires) v =
      (live_too ∙ v.0, omega (arith, v.1, same_until id one.ledger.log other.ledger.log a.ledgers, same_writing id one.ledger.log other.ledger.log a.ledgers))
  vouches_too kind (Err AckRefusal.Declined) v = (open_too id one.ledger.log other.ledger.log a.ledgers v.0, ap (backs kind) a.parts ∙ v.1)

  vouched_too : (kind : Kind) (r : Reply) (new : LedgerState) → Vouched kind one id r new → (r ≡ refused 10 → ⊥) → Follows id other.ledger new (Vouched kind other id) r
  vouched_too kind _ _ (unbacked why v) some = so_too other.ledger (unbacked why (vouches_too kind (Err why) v)) a.ledgers
  vouched_too kind _ _ (asked r new v claim) some =
      rewritten id other.ledger new (ClaimEntered kind other.ledger other.shard.index id) (Vouched kind other id) r (λ q l c. asked q l (vouches_too kind (Ok tt) v) c)
      (claim_entered id one.ledger other.ledger a.ledgers other.shard.index new kind r (rw a.index claim) some)

  module _ (digest : List ℕ → List ℕ) (frame : Frame) (frames : List (List ℕ)) (clash : Option MetaClash) (new : ServedState) where
    entry_carried : asks_entry frame ≡ true → (Makes Others : Reply → LedgerState → Type 0)
        → ((others : List (List ℕ)) (c : Option MetaClash) (then : ServedState) → AnswersEntry Others other others c then → AnswersFrame digest false frame other others c then)
        → ((r : Reply) (l : LedgerState) → Makes r l → (r ≡ refused 10 → ⊥) → Follows id other.ledger l Others r)
        → (TellsWant frames → ⊥) → AnswersEntry Makes one frames clash new → Carried digest id other (Ok frame) frames clash new
    entry_carried asks Makes Others answers follows some (r, ledger, makes, told, is) = by (follows r ledger makes not_want)
      where
        not_want : r ≡ refused 10 → ⊥
        not_want e = some (10, 0, 0, inr (inr refl), rw e at told.0)

        by : Follows id other.ledger ledger Others r → Carried digest id other (Ok frame) frames clash new
        by (so_too then says alike) =
            carries (with_ledger other then) (answers frames clash (with_ledger other then) (r, then, says, told, refl))
            (rw is (record { faults = a.faults; index = a.index; parts = a.parts; ledgers = alike }))
        by (short none lacks tells_it) =
            let made : tells_entry frames ≡ true = rw told.0 tells_it in
            let least : charged_entries (Ok frame) frames ≡ 1 = rw (made, asks) refl in
            wants (answer_text 10 0 0 ∷ []) (10, 0, 0, inr (inr refl), refl) (answers (answer_text 10 0 0 ∷ []) None other (refused 10, other.ledger, lacks, (refl, refl), refl)) made
            (λ room. omega (arith, room.entries_fit, least, none))

-- ---- puts

-- whether there is room for a part
pub data Fits (id : BlobId) (s : ServedState) (bytes : List ℕ) : Type 0 where
  fits : HasRoom (free_of s.shard.limit s.shard.contents) (needed_for s.shard.contents id bytes) → Fits id s bytes
  full : (free : ℕ) → free_of s.shard.limit s.shard.contents ≡ Some free → free < needed_for s.shard.contents id bytes
      → ((entries : ℕ) → RoomFor id s (pages_for (length bytes)) entries → ⊥) → Fits id s bytes

pub fits_or_not : (id : BlobId) (s : ServedState) (bytes : List ℕ) → Fits id s bytes
fits_or_not id s bytes = by s.shard.limit refl
  where
    by : (limit : Option ℕ) → s.shard.limit ≡ limit → Fits id s bytes
    by None is = fits (rw is tt)
    by (Some most) is = elim (cases_lt (most - cost s.shard.contents) (needed_for s.shard.contents id bytes)) [
      | inl less ↦ full (most - cost s.shard.contents) (rw is refl) less
          (λ entries room. omega (arith, rw is at room.pages_fit, less))
      | inr enough ↦ fits (rw is enough)
    ]

module _ (digest : List ℕ → List ℕ) (frame : Frame) (one other : ServedState) (a : AlikeAt (put_id digest frame) one other) where
  abbrev q : BlobId
  q = put_id digest frame

  same_part : (part : Part) → part_at other.shard.contents q part ≡ part_at one.shard.contents q part
  same_part part = rw a.parts refl

  accepted_too : IsAccepted digest (desk one.shard one.ledger.log) one.shard.contents frame → IsAccepted digest (desk other.shard other.ledger.log) other.shard.contents frame
  accepted_too is = record { live = live_too q one other a ∙ is.live; verified = along q one other a (λ f k p. Verifies digest f k p frame) is.verified }

  held_too : (x : Frame) → IsHeldIn one.shard.contents q x → IsHeldIn other.shard.contents q x
  held_too (Metadata m) is = same_part Part.Metadata ∙ is
  held_too x is = rw (same_part (put_part x)) is

  texts_too : (answer : PutAnswer) → ShowsTexts digest one.shard.contents frame answer → ShowsTexts digest other.shard.contents frame answer
  texts_too (PutAnswer.OtherMetadata clash) (m, held, is, holds, digested) = (m, held, is, rw a.parts holds, digested)
  texts_too answer t = tt

  -- what is held once the part is stored
  stored_alike : (part : Part) (bytes : List ℕ) → parts_at (with_bytes other.shard.contents q part bytes) q ≡ parts_at (with_bytes one.shard.contents q part bytes) q
  stored_alike part bytes = rw (stored_there other.shard.contents q part bytes, stored_there one.shard.contents q part bytes, a.parts) refl

  module _ (frames : List (List ℕ)) (clash : Option MetaClash) (new : ServedState) (some : TellsWant frames → ⊥) where
    put_carried : (may_want : Bool) → ((others : List (List ℕ)) (c : Option MetaClash) (then : ServedState) → AnswersPut digest false frame other others c then → AnswersFrame digest false frame other others c then)
        → AnswersPut digest may_want frame one frames clash new → Carried digest q other (Ok frame) frames clash new
    put_carried may_want answers (outcome, contents, (answer, puts, same, shows), told, is) = by answer puts shows (rw same at told)
      where
        -- an answer that leaves what is held
        same_answer : (x : PutAnswer) → PutsOrWants digest false (desk other.shard other.ledger.log) other.shard.contents frame x other.shard.contents
            → ShowsTexts digest one.shard.contents frame x → IsReplyOutcome (put_reply x) frames clash → contents ≡ one.shard.contents → Carried digest q other (Ok frame) frames clash new
        same_answer x p s t e =
            carries other (answers frames clash other (put_reply x, other.shard.contents, (x, p, refl, texts_too x s), t, refl))
            (rw (is, e) a)

        stored : PutsOrWants digest may_want (desk one.shard one.ledger.log) one.shard.contents frame PutAnswer.Stored contents → IsReplyOutcome (put_reply PutAnswer.Stored) frames clash
            → Fits q other (stored_bytes frame) → Carried digest q other (Ok frame) frames clash new
        stored p t (fits room) =
            let next = with_bytes other.shard.contents q (put_part frame) (stored_bytes frame) in
            carries (holding other next)
            (answers frames clash (holding other next) (put_reply PutAnswer.Stored, next, (PutAnswer.Stored, (accepted_too p.0, same_part (put_part frame) ∙ p.1, room, refl), refl, tt), t, refl))
            (rw (is, p.3)
            (with_parts q one other a (with_bytes one.shard.contents q (put_part frame) (stored_bytes frame)) next (stored_alike (put_part frame) (stored_bytes frame))))
        stored p t (full free is_free less not) =
            let needs = needed_for other.shard.contents q (stored_bytes frame) in
            let pages : charged_pages (Ok frame) frames ≡ pages_for (length (stored_bytes frame)) = rw t.0 refl in
            wants (answer_text 6 needs free ∷ []) (6, needs, free, inl refl, refl)
            (answers (answer_text 6 needs free ∷ []) None other (
              put_reply (PutAnswer.Full needs free),
              other.shard.contents,
              (PutAnswer.Full needs free, (accepted_too p.0, same_part (put_part frame) ∙ p.1, is_free, refl, less, refl), refl, tt),
              (refl, refl),
              refl,
            ))
            (ap tells_entry t.0) (λ charged. not (charged_entries (Ok frame) frames) (rw pages at charged))

        by : (x : PutAnswer) → PutsOrWants digest may_want (desk one.shard one.ledger.log) one.shard.contents frame x contents → ShowsTexts digest one.shard.contents frame x
            → IsReplyOutcome (put_reply x) frames clash → Carried digest q other (Ok frame) frames clash new
        by PutAnswer.Unregistered p s t = same_answer PutAnswer.Unregistered (live_too q one other a ∙ p.0, refl) s t p.1
        by PutAnswer.NoMetadata p s t = same_answer PutAnswer.NoMetadata (live_too q one other a ∙ p.0, p.1, same_part Part.Metadata ∙ p.2, refl) s t p.3
        by PutAnswer.Unverified p s t =
            let back = joined q one other one a (alike_one q one) in
            same_answer PutAnswer.Unverified
            (live_too q one other a ∙ p.0, (λ rests. rw (same_part Part.Metadata) (p.1 rests)), (λ v. p.2 (along q other one back (λ f k x. Verifies digest f k x frame) v)), refl) s t p.3
        by (PutAnswer.OtherMetadata texts) p s t =
            same_answer (PutAnswer.OtherMetadata texts) (accepted_too p.0, p.1, p.2, p.3, same_part Part.Metadata ∙ p.4, p.5, p.6, refl) s t p.7
        by PutAnswer.Held p s t = same_answer PutAnswer.Held (accepted_too p.0, held_too frame p.1, refl) s t p.2
        by (PutAnswer.Full needed free) p s t = absurd (some (6, needed, free, inl refl, t.0))
        by PutAnswer.Memory p s t = absurd (some (7, 0, 0, inr (inl refl), t.0))
        by PutAnswer.Stored p s t = stored p t (fits_or_not q other (stored_bytes frame))

-- ---- what is forgotten

may_too : (id : BlobId) (one other : ServedState) → AlikeAt id one other → MayForget one.ledger.log one.shard.contents id → MayForget other.ledger.log other.shard.contents id
may_too id one other a may = record { invalid = invalid_too id one.ledger.log other.ledger.log a.ledgers may.invalid; proof = ap has_proof a.parts ∙ may.proof }

forget_carried : (digest : List ℕ → List ℕ) (name : List ℕ) (one other : ServedState) → AlikeAt (named name) one other → (frames : List (List ℕ)) (clash : Option MetaClash) (new : ServedState)
    → AnswersForget (named name) one frames clash new → Carried digest (named name) other (Ok (Forget name)) frames clash new
forget_carried digest name one other a frames clash new (r, contents, forgets, told, same) = by r contents forgets told same
  where
    id : BlobId
    id = named name

    carried : (s : Reply) (c d : Contents) → Forgets other.ledger.log other.shard.contents id s d → parts_at d id ≡ parts_at c id → IsReplyOutcome (Ok s) frames clash → new ≡ holding one c
        → Carried digest id other (Ok (Forget name)) frames clash new
    carried s c d there parts t is =
        carries (holding other d) (s, d, there, t, refl) (rw is (with_parts id one other a c d parts))

    by : (s : Reply) (c : Contents) → Forgets one.ledger.log one.shard.contents id s c → IsReplyOutcome (Ok s) frames clash → new ≡ holding one c → Carried digest id other (Ok (Forget name)) frames clash new
    by s c (forgotten may) t is =
        carried s c (without_slivers other.shard.contents id) (forgotten (may_too id one other a may)) (rw (slivers_gone other.shard.contents id, slivers_gone one.shard.contents id, a.parts) refl) t is
    by s c (kept not) t is = carried s c other.shard.contents (kept (λ may. not (may_too id other one (joined id one other one a (alike_one id one)) may))) a.parts t is

-- ---- each row

-- an option has one identifier at most
pub the_one : (x y : BlobId) → ◌≡◌ {A = Option BlobId} (Some x) (Some y) → x ≡ y
the_one x y same = cc

if_some : (o : Option BlobId) (P : BlobId → Type 0) → IfSome o P → (id : BlobId) → o ≡ Some id → P id
if_some (Some x) P p id e = subst P (the_one x id e) p
if_some None P p id e = absurd cc

module _ (digest : List ℕ → List ℕ) (may_want : Bool) (one other : ServedState) (frames : List (List ℕ)) (clash : Option MetaClash) (new : ServedState) (some : TellsWant frames → ⊥) where
  -- nothing changes, and the same is answered
  nothing_changes : (id : BlobId) → AlikeAt id one other → (read : Result Frame FrameError) → AnswersRead digest false read other frames clash other → new ≡ one → Carried digest id other read frames clash new
  nothing_changes id a read answers same = carries other answers (rw same a)

  at_frame : (frame : Frame) → AnswersFrame digest may_want frame one frames clash new → IfSome (about digest frame) (λ id. AlikeAt id one other → Carried digest id other (Ok frame) frames clash new)
  at_frame (Metadata m) h = λ a. put_carried digest (Metadata m) one other a frames clash new some may_want (λ x c y z. z) h
  at_frame (Sliver name axis index bytes) h = λ a. put_carried digest (Sliver name axis index bytes) one other a frames clash new some may_want (λ x c y z. z) h
  at_frame (Proof name p) h = λ a. put_carried digest (Proof name p) one other a frames clash new some may_want (λ x c y z. z) h
  at_frame (Opening name axis index o) h = λ a. nothing_changes (named name) a (Ok (Opening name axis index o)) (h.0, refl) h.1
  at_frame (Answer code i j) h = tt
  at_frame (Clash left right) h = tt
  at_frame (Forget name) h = λ a. forget_carried digest name one other a frames clash new h
  at_frame (Read name) h = λ a.
      nothing_changes (named name) a (Ok (Read name)) (along (named name) one other a (λ f k p. IsReplied (read_reply_of name k p) frames clash) h.0, refl) h.1
  at_frame (Symbol name axis index) (payloads, replies, told, same) = λ a.
      nothing_changes (named name) a (Ok (Symbol name axis index)) (payloads, along (named name) one other a (λ f k p. SymbolReplies digest name k p axis index payloads) replies, told, refl) same
  at_frame (Ack name) h = λ a.
      entry_carried (named name) one other a digest (Ack name) frames clash new refl _ (Vouched Holds other (named name)) (λ x c y z. z) (vouched_too (named name) one other a Holds) some h
  at_frame (Attest name) h = λ a.
      entry_carried (named name) one other a digest (Attest name) frames clash new refl _ (Vouched Denies other (named name)) (λ x c y z. z) (vouched_too (named name) one other a Denies) some h
  at_frame (RegisterEntry name until) h = λ a.
      entry_carried (named name) one other a digest (RegisterEntry name until) frames clash new refl _ (Registered other.ledger (named name) until) (λ x c y z. z)
      (registered_too (named name) one.ledger other.ledger a.ledgers until) some h
  at_frame (AckEntry shard name) h = λ a.
      entry_carried (named name) one other a digest (AckEntry shard name) frames clash new refl _ (Entered Holds other.ledger shard (named name)) (λ x c y z. z)
      (entered_too (named name) one.ledger other.ledger a.ledgers Holds shard) some h
  at_frame (AttestEntry shard name) h = λ a.
      entry_carried (named name) one other a digest (AttestEntry shard name) frames clash new refl _ (Entered Denies other.ledger shard (named name)) (λ x c y z. z)
      (entered_too (named name) one.ledger other.ledger a.ledgers Denies shard) some h

  -- what was read is answered by the other state too, or that state lacks room
  pub read_carried : (read : Result Frame FrameError) (id : BlobId) → about_read digest read ≡ Some id → AlikeAt id one other → AnswersRead digest may_want read one frames clash new
      → Carried digest id other read frames clash new
  read_carried (Ok frame) id e a h = if_some (about digest frame) (λ x. AlikeAt x one other → Carried digest x other (Ok frame) frames clash new) (at_frame frame h) id e a
  read_carried (Err fault) id e a h = absurd cc

-- ---- THE FIRST LAW: states that are alike at an identifier answer alike what regards it

-- ---- whether the keep may want memory

-- an answer of a keep that never wants memory is one of any keep
puts_still : (digest : List ℕ → List ℕ) (d : PutDesk) (old : Contents) (frame : Frame) (answer : PutAnswer) (new : Contents) (also : Bool) → PutsOrWants digest false d old frame answer new
    → PutsOrWants digest also d old frame answer new
puts_still digest d old frame PutAnswer.Memory new also p = absurd (false≢true p.0)
puts_still digest d old frame answer new also p = p

module _ (digest : List ℕ → List ℕ) (old : ServedState) (frames : List (List ℕ)) (clash : Option MetaClash) (new : ServedState) where
  -- only puts want memory
  read_as : (may_want also : Bool) → ((frame : Frame) → AnswersPut digest may_want frame old frames clash new → AnswersPut digest also frame old frames clash new)
      → (read : Result Frame FrameError) → AnswersRead digest may_want read old frames clash new → AnswersRead digest also read old frames clash new
  read_as may_want also each (Ok (Metadata m)) h = each (Metadata m) h
  read_as may_want also each (Ok (Sliver id axis index bytes)) h = each (Sliver id axis index bytes) h
  read_as may_want also each (Ok (Proof id p)) h = each (Proof id p) h
  read_as may_want also each (Ok frame) h = h
  read_as may_want also each (Err fault) h = h

  pub read_still : (also : Bool) (read : Result Frame FrameError) → AnswersRead digest false read old frames clash new → AnswersRead digest also read old frames clash new
  read_still also read h =
      read_as false also (λ frame (outcome, contents, put, told, then).
      let still = puts_still digest _ old.shard.contents frame put.0 contents also put.1 in
      (outcome, contents, (put.0, still, put.2, put.3), told, then)) read h

  read_calm : (may_want : Bool) (read : Result Frame FrameError) → (TellsWant frames → ⊥) → AnswersRead digest may_want read old frames clash new → AnswersRead digest false read old frames clash new
  read_calm may_want read some h = read_as may_want false calm read h
    where
      calm : (frame : Frame) → AnswersPut digest may_want frame old frames clash new → AnswersPut digest false frame old frames clash new
      calm frame (outcome, contents, (answer, puts, is, shows), told, then) = by answer puts is shows
        where
          by : (x : PutAnswer) → PutsOrWants digest may_want (desk old.shard old.ledger.log) old.shard.contents frame x contents → outcome ≡ put_reply x → ShowsTexts digest old.shard.contents frame x
              → AnswersPut digest false frame old frames clash new
          by PutAnswer.Memory p same t = absurd (some (7, 0, 0, inr (inl refl), (rw same at told).0))
          by x p same t = (outcome, contents, (x, p, same, t), told, then)

-- ---- the law

-- less needs less room
pub fits_less : (limit : Option ℕ) (size less : ℕ) → IfSome limit (λ most. size ≤ most) → less ≤ size → IfSome limit (λ most. less ≤ most)
fits_less limit size less fit small = grind arith

pub less_room : (id : BlobId) (s : ServedState) (pages entries fewer less : ℕ) → RoomFor id s pages entries → fewer ≤ pages → less ≤ entries → RoomFor id s fewer less
less_room id s pages entries fewer less room p e = record { pages_fit = fits_less s.shard.limit _ _ room.pages_fit (omega arith); entries_fit = omega (arith, room.entries_fit) }

-- where there is room
pub answers_with_room : (digest : List ℕ → List ℕ) → AnswersWithRoom digest
answers_with_room digest id one other payload may_want also frames clash new a about answers some room =
    by (read_carried digest may_want one other frames clash new some (read_of payload) id about a answers)
  where
    by : Carried digest id other (read_of payload) frames clash new → (then : ServedState) × AnswersRequest digest also other payload frames clash then × AlikeAt id new then
    by (carries then there alike) = (then, read_still digest other frames clash then also (read_of payload) there, alike)
    by (wants others want there more not) = absurd (not room)

frames_by : (clash : Option MetaClash) (xs ys : List (List ℕ)) → (is_some clash ≡ false → xs ≡ ys) → (is_some clash ≡ true → SameButLast xs ys) → SameFrames xs ys
frames_by None xs ys calm stops = inl (calm refl)
frames_by (Some texts) xs ys calm stops = inr (stops refl)

-- of any two answers
pub answers_alike : (digest : List ℕ → List ℕ) → AnswersAlike digest
answers_alike digest id one other payload may_want also frames others clash second new then a about answers answers_too some also_some =
    by (read_carried digest may_want one other frames clash new some (read_of payload) id about a answers)
  where
    Result_of : Type 0
    Result_of = AnswersRequest digest also other payload frames clash then × SameFrames frames others × AlikeAt id new then

    calm : AnswersRequest digest false other payload others second then
    calm = read_calm digest other others second then also (read_of payload) also_some answers_too

    by : Carried digest id other (read_of payload) frames clash new → Result_of
    by (carries there is alike) =
        let same = one_table digest other payload frames others clash second there then is calm in (
          read_still digest other frames clash then also (read_of payload) (rw same.state at is),
          frames_by clash frames others same.frames same.last,
          rw same.state at alike,
        )
    by (wants wanted want is more not) =
        absurd (also_some (rw ((one_table digest other payload wanted others None second other then is calm).frames refl) at want))

-- ---- want of room

abbrev first_byte : List (List ℕ) → ℕ
first_byte ((kind ∷ rest) ∷ frames) = kind
first_byte _ = 0

-- what tells of want of room ends no serving
want_goes : (clash : Option MetaClash) (frames : List (List ℕ)) → StopsWith clash frames → TellsWant frames → clash ≡ None
want_goes None frames stops want = refl
want_goes (Some texts) frames stops (code, a, b, is, told) = absurd (omega (arith, ap first_byte (sym told ∙ stops)))

-- an answer of a keep that never wants memory, which tells of want of room or that a part was stored
data Beside (digest : List ℕ → List ℕ) (read : Result Frame FrameError) (s : ServedState) : Type 0 where
  beside : (frames : List (List ℕ)) (new : ServedState) → AnswersRead digest false read s frames None new → TellsWant frames ⊎ (tells 0 frames ≡ true) → Beside digest read s

module _ (digest : List ℕ → List ℕ) (s : ServedState) (also : Bool) (frames : List (List ℕ)) (new : ServedState) (want : TellsWant frames) where
  put_beside : (frame : Frame) → ((f : List (List ℕ)) (n : ServedState) → AnswersPut digest false frame s f None n → AnswersFrame digest false frame s f None n)
      → AnswersPut digest also frame s frames None new → Beside digest (Ok frame) s
  put_beside frame answers (outcome, contents, (answer, puts, is, shows), told, then) = by answer puts is shows
    where
      -- there is room or there is none
      accepted : PutsOrWants digest also (desk s.shard s.ledger.log) s.shard.contents frame PutAnswer.Memory contents → Fits (put_id digest frame) s (stored_bytes frame) → Beside digest (Ok frame) s
      accepted p (fits room) =
          beside _ _ (answers _ _ (put_reply PutAnswer.Stored, _, (PutAnswer.Stored, (p.1, p.2, room, refl), refl, tt), (refl, refl), refl)) (inr refl)
      accepted p (full free is_free less not) =
          let refusal = PutAnswer.Full (needed_for s.shard.contents (put_id digest frame) (stored_bytes frame)) free in
          beside _ _ (answers _ _ (put_reply refusal, s.shard.contents, (refusal, (p.1, p.2, is_free, refl, less, refl), refl, tt), (refl, refl), refl))
          (inl (6, _, free, inl refl, refl))

      by : (x : PutAnswer) → PutsOrWants digest also (desk s.shard s.ledger.log) s.shard.contents frame x contents → outcome ≡ put_reply x → ShowsTexts digest s.shard.contents frame x → Beside digest (Ok frame) s
      by PutAnswer.Memory p same t = accepted p (fits_or_not (put_id digest frame) s (stored_bytes frame))
      by x p same t = beside frames new (answers frames new (outcome, contents, (x, p, same, t), told, then)) (inl want)

  read_beside : (read : Result Frame FrameError) → AnswersRead digest also read s frames None new → Beside digest read s
  read_beside (Ok (Metadata m)) h = put_beside (Metadata m) (λ f n z. z) h
  read_beside (Ok (Sliver id axis index bytes)) h = put_beside (Sliver id axis index bytes) (λ f n z. z) h
  read_beside (Ok (Proof id p)) h = put_beside (Proof id p) (λ f n z. z) h
  read_beside (Ok frame) h = beside frames new h (inl want)
  read_beside (Err fault) h = beside frames new h (inl want)

-- want where the other state wants no room
pub wants_for_more : (digest : List ℕ → List ℕ) → WantsForMore digest
wants_for_more digest id one other payload may_want also frames others clash second new then a about answers answers_too some want =
    by (read_carried digest may_want one other frames clash new some (read_of payload) id about a answers) (read_beside digest other also others then want (read_of payload) goes_on)
  where
    goes_on : AnswersRead digest also (read_of payload) other others None then
    goes_on =
        rw (want_goes second others (read_stops digest also (read_of payload) other then others second answers_too) want) at answers_too

    by : Carried digest id other (read_of payload) frames clash new → Beside digest (read_of payload) other → tells_entry frames ≡ true
    by (wants wanted told is more not) there = more
    by (carries reached is alike) (beside xs n there what) = so what
      where
        same : xs ≡ frames
        same = (one_table digest other payload xs frames None clash n reached there is).frames refl

        so : TellsWant xs ⊎ (tells 0 xs ≡ true) → tells_entry frames ≡ true
        so (inl wanted) = absurd (some (rw same at wanted))
        so (inr stored) = rw (rw same at stored) refl
