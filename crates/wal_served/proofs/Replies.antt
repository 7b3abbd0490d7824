-- The frames of an answer and its code, and what a payload may change.
use Rattle.wal_served.proofs.Common.{◌≡◌, ℕ, true, false, List, [], ◌∷◌, Option, Some, None, Ok, inl, inr, sym, ap, subst, ◌∙◌, refl, ⊤, eqb-false, Event, Line, MetaClash, Frame, Answer, Clash, frame_text, World, is_collision, Steps, rules_of, ServedState, reply_text, IsReplyOutcome, tells_entry, world_of, an_event, frame_of, IsTold, Does, answer_text, IsWant, IsRefused, TellsWant, arith, nat_tests, BlobId, id_eq, AckAnswer, Kind, Holds, Denies, LedgerState, names, Claims, acked, claim_of, is_plain, ack_reply, ClaimEntered, AttestAnswer, ◌<◌, ◌≤◌, Bool, Result, Err, ◌⊎◌, FrameError, Metadata, Sliver, Proof, Symbol, Ack, Attest, Forget, RegisterEntry, AckEntry, AttestEntry, IsFrame, read_of, stored_bytes, frame_is, Body, Register, committee_size, takes_in, MayRegister, MayClaim, Contents, part_at, with_bytes, PutAnswer, CanBePut, IsAccepted, PutsOrWants, put_id, put_part, desk, without_slivers, holding, with_ledger, named, put_reply, Entered, Forgets, Registered, Vouched, unbacked, asked, forgotten, kept, of_committee, of_none, AnswersRequest, AnswersRead, AnswersPut, AnswersEntry, AnswersForget, about_read, entries_in, tells, RegisterAnswer}

-- the type of what is replied, whose name is the serving crate's own
abbrev domain_of : {A B : Type 0} → (A → B) → Type 0
domain_of {A = A} f = A

-- the answers that `reply_text` spells
abbrev pub Reply : Type 0
Reply = domain_of reply_text

-- what tells of something that was done is no refusal after which nothing has changed
pub made_stays : (code a b : ℕ) → tells_entry (answer_text code a b ∷ []) ≡ true → IsRefused code → ⊥
made_stays code a b made refused = grind (arith, nat_tests)

-- ---- what belongs to a line

-- it is no answer for want of room
abbrev HasRoom : Option Frame → Type 0
HasRoom None = ⊤
HasRoom (Some (Answer code a b)) = IsWant code → ⊥
HasRoom (Some (Clash left right)) = ⊤
HasRoom (Some _) = ⊥

line_room : (said : Line) → HasRoom (frame_of said)
line_room said = grind arith

-- the bytes at the front of the first frame: its kind, and the code of an answer
abbrev kind_in : List (List ℕ) → ℕ
kind_in ((kind ∷ rest) ∷ frames) = kind
kind_in _ = 0

abbrev code_in : List (List ℕ) → ℕ
code_in ((kind ∷ code ∷ rest) ∷ frames) = code
code_in _ = 0

-- what tells a line tells of no want of room
pub told_room : (said : Line) (frames : List (List ℕ)) → IsTold said frames → TellsWant frames → ⊥
told_room said frames (frame, is, only) (code, a, b, wants, same) = by frame is only
  where
    by : (f : Frame) → frame_of said ≡ Some f → frames ≡ frame_text f ∷ [] → ⊥
    by (Answer c x y) belongs one = subst HasRoom belongs (line_room said) (subst IsWant (ap code_in (sym same ∙ one)) wants)
    by (Clash left right) belongs one = eqb-false 0x30 0x31 refl (ap kind_in (sym same ∙ one))
    by _ belongs one = absurd (subst HasRoom belongs (line_room said))

-- ---- what is done

module _ (digest : List ℕ → List ℕ) (s new : ServedState) (e : Event) (frames : List (List ℕ)) (clash : Option MetaClash) (r : Reply) (told : IsReplyOutcome (Ok r) frames clash) where
  -- a step, whose line is told
  pub takes : (said : Line) → is_collision said ≡ false → frame_of said ≡ Some (Answer r.code r.a r.b)
      → ((w : World) → Steps (rules_of digest s.shard.f) (world_of w s) e said (world_of w new)) → Does digest s (an_event e) frames clash new
  takes said goes frame steps = inl (record {
    line = said;
    steps = steps;
    told = (Answer r.code r.a r.b, frame, told.0);
    ends = rw told.1 goes;
  })

  -- or no room for one
  pub lacks : IsWant r.code → new ≡ s → Does digest s (an_event e) frames clash new
  lacks wants same = inr (record { code = r.code; a = r.a; b = r.b; wants = wants; told = told.0; goes_on = told.1; same = same })

-- ---- acknowledgements and attestations as one: a claim of either kind, by the answer that an acknowledgement would have

abbrev pub IsClaimed : Kind → LedgerState → ℕ → BlobId → Reply → LedgerState → Type 0
IsClaimed kind old shard id r new = (answer : AckAnswer) × Claims kind old shard id (acked answer) new × (r ≡ ack_reply answer)

-- what is entered is a claim
pub as_claim : (kind : Kind) (old : LedgerState) (shard : ℕ) (id : BlobId) (r : Reply) (new : LedgerState) → ClaimEntered kind old shard id r new → IsClaimed kind old shard id r new
as_claim Holds old shard id r new h = h
as_claim Denies old shard id r new (AttestAnswer.Unregistered, h, e) = (AckAnswer.Unregistered, h, e)
as_claim Denies old shard id r new (AttestAnswer.Expires, h, e) = (AckAnswer.Expires, h, e)
as_claim Denies old shard id r new (AttestAnswer.NoRoom, h, e) = (AckAnswer.NoRoom, h, e)
as_claim Denies old shard id r new (AttestAnswer.Already, h, e) = (AckAnswer.Already, h, e)
as_claim Denies old shard id r new (AttestAnswer.Counted count, h, e) = (AckAnswer.Counted count, h, e)
as_claim Denies old shard id r new (AttestAnswer.Invalid count, h, e) = (AckAnswer.Certified count, h, e)

-- and a claim is entered
pub of_claim : (kind : Kind) (old : LedgerState) (shard : ℕ) (id : BlobId) (r : Reply) (new : LedgerState) → IsClaimed kind old shard id r new → ClaimEntered kind old shard id r new
of_claim Holds old shard id r new h = h
of_claim Denies old shard id r new (AckAnswer.Unregistered, h, e) = (AttestAnswer.Unregistered, h, e)
of_claim Denies old shard id r new (AckAnswer.Expires, h, e) = (AttestAnswer.Expires, h, e)
of_claim Denies old shard id r new (AckAnswer.NoRoom, h, e) = (AttestAnswer.NoRoom, h, e)
of_claim Denies old shard id r new (AckAnswer.Already, h, e) = (AttestAnswer.Already, h, e)
of_claim Denies old shard id r new (AckAnswer.Counted count, h, e) = (AttestAnswer.Counted count, h, e)
of_claim Denies old shard id r new (AckAnswer.Certified count, h, e) = (AttestAnswer.Invalid count, h, e)

-- the entry that a claim makes leaves the epoch as it is, and names the identifier
pub claim_plain : (kind : Kind) (shard : ℕ) (id : BlobId) → is_plain (claim_of kind shard id) ≡ true
claim_plain kind shard id = grind arith

pub claim_names : (kind : Kind) (shard : ℕ) (q id : BlobId) → names id (claim_of kind shard q) ≡ id_eq q id
claim_names kind shard q id = grind arith

-- ---- what a payload may change of a state: nothing, a part that is stored, slivers that go, or an entry that is made

-- an entry that may be made
pub data Enterable (s : ServedState) (q : BlobId) : Body → Type 0 where
  to_register : (until : ℕ) → MayRegister s.ledger.log q until → until ≤ 65536 → Enterable s q (Register q until)
  to_claim : (kind : Kind) (shard : ℕ) → MayClaim s.ledger.log kind shard q → (shard < committee_size s.ledger.log.f) ⊎ (shard ≡ s.shard.index) → Enterable s q (claim_of kind shard q)

pub enter_plain : (s : ServedState) (q : BlobId) (b : Body) → Enterable s q b → is_plain b ≡ true
enter_plain s q _ (to_register until may low) = refl
enter_plain s q _ (to_claim kind shard may place) = claim_plain kind shard q

pub enter_names : (s : ServedState) (q id : BlobId) (b : Body) → Enterable s q b → names id b ≡ id_eq q id
enter_names s q id _ (to_register until may low) = refl
enter_names s q id _ (to_claim kind shard may place) = claim_names kind shard q id

-- each change but none is of the identifier that the payload regards, and the answer tells of it
pub data Change (digest : List ℕ → List ℕ) (old : ServedState) (read : Result Frame FrameError) (frames : List (List ℕ)) (new : ServedState) : Type 0 where
  no_change : new ≡ old → Change digest old read frames new
  part_stored : (frame : Frame) → read ≡ Ok frame → CanBePut frame → about_read digest read ≡ Some (put_id digest frame) → tells 0 frames ≡ true
      → IsAccepted digest (desk old.shard old.ledger.log) old.shard.contents frame → part_at old.shard.contents (put_id digest frame) (put_part frame) ≡ None
      → new ≡ holding old (with_bytes old.shard.contents (put_id digest frame) (put_part frame) (stored_bytes frame)) → Change digest old read frames new
  slivers_went : (q : BlobId) → about_read digest read ≡ Some q → tells 0 frames ≡ true → new ≡ holding old (without_slivers old.shard.contents q) → Change digest old read frames new
  entry_made : (q : BlobId) (b : Body) → about_read digest read ≡ Some q → entries_in read ≡ 1 → tells_entry frames ≡ true → Enterable old q b
      → new ≡ with_ledger old (takes_in old.ledger b) → Change digest old read frames new

module _ (digest : List ℕ → List ℕ) (may_want : Bool) (old : ServedState) (frames : List (List ℕ)) (clash : Option MetaClash) (new : ServedState) where
  abbrev Changes : Result Frame FrameError → Type 0
  Changes read = Change digest old read frames new

  by_put : (frame : Frame) → CanBePut frame → about_read digest (Ok frame) ≡ Some (put_id digest frame) → AnswersPut digest may_want frame old frames clash new → Changes (Ok frame)
  by_put frame part about (outcome, contents, (answer, puts, same, shows), told, is) = by answer puts (rw same at told)
    where
      same_held : contents ≡ old.shard.contents → Changes (Ok frame)
      same_held e = no_change (rw e at is)

      by : (a : PutAnswer) → PutsOrWants digest may_want (desk old.shard old.ledger.log) old.shard.contents frame a contents → IsReplyOutcome (put_reply a) frames clash → Changes (Ok frame)
      by PutAnswer.Stored p t = part_stored frame refl part about (rw t.0 refl) p.0 p.1 (rw p.3 at is)
      by PutAnswer.Held p t = same_held p.2
      by PutAnswer.Unregistered p t = same_held p.1
      by (PutAnswer.OtherMetadata texts) p t = same_held p.7
      by (PutAnswer.Full needed free) p t = same_held p.5
      by _ p t = same_held p.3

  by_forget : (name : List ℕ) → AnswersForget (named name) old frames clash new → Changes (Ok (Forget name))
  by_forget name (r, contents, forgets, told, is) = by r contents forgets told.0 is
    where
      by : (s : Reply) (c : Contents) → Forgets old.ledger.log old.shard.contents (named name) s c → frames ≡ reply_text s ∷ [] → new ≡ holding old c → Changes (Ok (Forget name))
      by _ _ (forgotten may) t e = slivers_went (named name) refl (ap (tells 0) t) e
      by _ _ (kept not) t e = no_change e

  -- of an entry
  module _ (read : Result Frame FrameError) (q : BlobId) (about : about_read digest read ≡ Some q) (asks : entries_in read ≡ 1) where
    module _ (r : Reply) (ledger : LedgerState) (told : IsReplyOutcome (Ok r) frames clash) (is : new ≡ with_ledger old ledger) where
      stays_so : ledger ≡ old.ledger → Changes read
      stays_so e = no_change (rw e at is)

      made : (b : Body) → Enterable old q b → tells_entry (reply_text r ∷ []) ≡ true → ledger ≡ takes_in old.ledger b → Changes read
      made b may tells_it e = entry_made q b about asks (rw told.0 tells_it) may (rw e at is)

      by_claim : (kind : Kind) (shard : ℕ) → (shard < committee_size old.ledger.log.f) ⊎ (shard ≡ old.shard.index) → IsClaimed kind old.ledger shard q r ledger → Changes read
      by_claim kind shard place (answer, claims, same) = by answer claims (rw same refl)
        where
          by : (a : AckAnswer) → Claims kind old.ledger shard q (acked a) ledger → tells_entry (reply_text r ∷ []) ≡ tells_entry (reply_text (ack_reply a) ∷ []) → Changes read
          by AckAnswer.Unregistered h t = stays_so h.1
          by (AckAnswer.Counted count) h t = made _ (to_claim kind shard h.0.0 place) t h.0.2
          by (AckAnswer.Certified count) h t = made _ (to_claim kind shard h.0.0 place) t h.0.2
          by _ h t = stays_so h.2

      by_register : (until : ℕ) → until ≤ 65536 → Registered old.ledger q until r ledger → Changes read
      by_register until low (RegisterAnswer.Past, h, t) = stays_so h.1
      by_register until low (RegisterAnswer.MovingExtension, h, t) = absurd t
      by_register until low (RegisterAnswer.NoRoom, h, t) = stays_so h.2
      by_register until low (RegisterAnswer.Registered most, h, t) = made (Register q until) (to_register until h.0 low) (rw t refl) h.2

    by_vouched : (kind : Kind) → AnswersEntry (Vouched kind old q) old frames clash new → Changes read
    by_vouched kind (r, ledger, vouched, told, is) = by r ledger vouched told is
      where
        by : (s : Reply) (l : LedgerState) → Vouched kind old q s l → IsReplyOutcome (Ok s) frames clash → new ≡ with_ledger old l → Changes read
        by _ _ (unbacked why v) t e = no_change e
        by _ _ (asked s l v claim) t e = by_claim s l t e kind old.shard.index (inr refl) (as_claim kind old.ledger old.shard.index q s l claim)

    by_entered : (kind : Kind) (shard : ℕ) → AnswersEntry (Entered kind old.ledger shard q) old frames clash new → Changes read
    by_entered kind shard (r, ledger, entered, told, is) = by r ledger entered told is
      where
        by : (s : Reply) (l : LedgerState) → Entered kind old.ledger shard q s l → IsReplyOutcome (Ok s) frames clash → new ≡ with_ledger old l → Changes read
        by _ _ (of_committee s l less claim) t e = by_claim s l t e kind shard (inl less) (as_claim kind old.ledger shard q s l claim)
        by _ _ (of_none outside) t e = no_change e

  by_read : (read : Result Frame FrameError) → ((x : Frame) → read ≡ Ok x → IsFrame x) → AnswersRead digest may_want read old frames clash new
      → Changes read
  by_read (Ok (Metadata m)) fits h = by_put (Metadata m) tt refl h
  by_read (Ok (Sliver name axis index bytes)) fits h = by_put (Sliver name axis index bytes) tt refl h
  by_read (Ok (Proof name p)) fits h = by_put (Proof name p) tt refl h
  by_read (Ok (Symbol name axis index)) fits h = no_change h.3
  by_read (Ok (Forget name)) fits h = by_forget name h
  by_read (Ok (Ack name)) fits h = by_vouched (Ok (Ack name)) (named name) refl refl Holds h
  by_read (Ok (Attest name)) fits h = by_vouched (Ok (Attest name)) (named name) refl refl Denies h
  by_read (Ok (RegisterEntry name until)) fits (r, ledger, makes, told, is) =
      by_register (Ok (RegisterEntry name until)) (named name) refl refl r ledger told is until (fits (RegisterEntry name until) refl).1 makes
  by_read (Ok (AckEntry shard name)) fits h = by_entered (Ok (AckEntry shard name)) (named name) refl refl Holds shard h
  by_read (Ok (AttestEntry shard name)) fits h = by_entered (Ok (AttestEntry shard name)) (named name) refl refl Denies shard h
  by_read (Ok frame) fits h = no_change h.1
  by_read (Err fault) fits h = no_change h.1

  -- a request that is answered changes what its frame may change
  pub changes : (payload : List ℕ) → AnswersRequest digest may_want old payload frames clash new → Changes (read_of payload)
  changes payload answers = by_read (read_of payload) (λ x reads. (frame_is payload x reads).fits) answers
