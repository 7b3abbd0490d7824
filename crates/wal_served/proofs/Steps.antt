-- What serving does are steps of the world.
use Rattle.wal_served.proofs.Common.{◌≡◌, ◌≢◌, ℕ, ◌<◌, true, false, cond, not, nat_eq, List, refl, sym, ap, ◌∙◌, eq-eqb, arith, range_with_len, eqb-true, set-set, get_or-set_same, length-range_with_len, get_or-range_with_len, length-map-range_with_len, BlobId, Now, Next, among, node_of, Contents, parts_at, Body, Kind, committee_size, LedgerState, reading, owners_at, owners_of, same_node, takes_in, is_plain, plain_stays, backs, Committee, World, side_of, writing_side, is_correct, contents_of, held, with_contents, keeps, empty_committee, MayPost, Declines, ServedState, holding, with_ledger, others, alone, world_of, IsDesk, length, nat_tests, [], Option, None, Ok, Axis, MetaClash, Read, Symbol, Parts, SymbolReplies, OpeningReply, given, read_reply_of, SymbolReply, silent, named, IsReplied, AsksFor, by_metadata, of_nothing, RepliesTruly, Bool, nat_lt, Some, Err, inl, inr, eqb-false, lt-ltb, le-ltb, cases_lt, Event, Line, Answer, Holds, Denies, Claimed, AckRefusal, Vouches, Steps, ClaimStep, is_collision, rules_of, reply, refused, refusal_reply, ClaimEntered, Vouched, unbacked, asked, Entered, of_committee, of_none, IsReplyOutcome, an_event, no_event, entry_of, frame_of, Does, AckAnswer, AttestAnswer, Result, Frame, Clash, read_of, frame_is, PutAnswer, CanBePut, IsAccepted, Puts, PutsOrWants, desk, desk_of, without_slivers, done, put_reply, IsPutRequest, Forgets, forgotten, kept, send_frame, ◌∷◌, FrameError, Metadata, Sliver, Proof, Ack, Attest, Forget, RegisterEntry, AckEntry, AttestEntry, SamePlace, Registered, AnswersRequest, AnswersRead, AnswersPut, AnswersEntry, Replies, looked_at, read_past, Served, more, Meaning, read_meaning, IsRefused, answer_text, Stepped, AreSteps, tells_entry, RegisterAnswer}
use Rattle.std.specs.FinMap as finmap
use Rattle.wal_event.specs.declared.line.AckWord.TheVariants as ack
use Rattle.wal_event.specs.declared.line.AttestWord.TheVariants as attest
use Rattle.wal_event.specs.declared.line.ForgetWord.TheVariants as forgetting
use Rattle.wal_protocol.specs.Step as step
use Rattle.wal_event.specs.declared.line.RegisterWord.TheVariants as register
use Rattle.std.proofs.lemmas.List.Folds.{list_any_at}
use Rattle.std.proofs.lemmas.Map.Views.{any-filter_same}
use Rattle.wal_shape.specs.declared.axis.Side.{Side}
use Rattle.wal_protocol.proofs.Lookups.{held_is}
use Rattle.wal_served.proofs.Replies.{Reply, takes, lacks, made_stays, Change, no_change, part_stored, slivers_went, entry_made, enter_plain, changes}
use Rattle.wal_event.specs.declared.line.SendWord.{SendWord}

-- ---- the world of a shard that serves: its committee, and what an answer leaves of it

-- ---- the committee

-- the shard is none of the others
pub outside : (f own : ℕ) → among (others f own) own ≡ false
outside f own = any-filter_same (λ s. nat_eq s own) (λ s. not (nat_eq s own)) false (λ k same. ap not same) (range_with_len 0 (committee_size f))

-- every other shard of the committee is
pub inside : (f own s : ℕ) → s < committee_size f → s ≢ own → among (others f own) s ≡ true
inside f own s lt ne =
    let range = range_with_len 0 (committee_size f) in
    any-filter_same (λ k. nat_eq k s) (λ k. not (nat_eq k own)) true differs range
    ∙ list_any_at (λ k. nat_eq k s) range s 0 (omega (arith, lt, length-range_with_len 0 (committee_size f)))
    (eq-eqb _ s (get_or-range_with_len 0 (committee_size f) s 0 lt ∙ omega arith))
  where
    differs : (k : ℕ) → nat_eq k s ≡ true → not (nat_eq k own) ≡ true
    differs k same = grind (arith, nat_tests)

-- what it holds
pub holds : (f own : ℕ) (m : Contents) → own < committee_size f → contents_of (alone f own m) own ≡ m
unfolding with_contents
holds f own m lt =
    let long : length (empty_committee f (others f own)).shards ≡ committee_size f =
    length-map-range_with_len _ 0 (committee_size f) in
    get_or-set_same (empty_committee f (others f own)).shards own m finmap.empty (omega (arith, lt, long))

pub holds_parts : (f own : ℕ) (m : Contents) (id : BlobId) → own < committee_size f → held (alone f own m) own id ≡ parts_at m id
holds_parts f own m id lt = held_is (alone f own m) own id ∙ ap (λ (c : Contents). parts_at c id) (holds f own m lt)

-- it holds something else
pub holds_then : (f own : ℕ) (old new : Contents) → with_contents (alone f own old) own new ≡ alone f own new
unfolding with_contents
holds_then f own old new =
    ap {B = Committee} (λ (l : List Contents). record { faulty = others f own; shards = l }) (set-set (empty_committee f (others f own)).shards own old new)

-- ---- the world

module _ (s : ServedState) (d : IsDesk s) where
  -- the shard is correct
  pub here : (w : World) → is_correct Now (world_of w s) s.shard.index ≡ true
  unfolding with_contents
  here w = ap not (outside s.shard.f s.shard.index)

  -- every other shard of the committee is faulty
  pub there : (w : World) (t : ℕ) → t < committee_size s.shard.f → t ≢ s.shard.index → is_correct Now (world_of w s) t ≡ false
  unfolding with_contents
  there w t lt ne = ap not (inside s.shard.f s.shard.index t lt ne)

  pub contents_here : (w : World) → contents_of (side_of Now (world_of w s)) s.shard.index ≡ s.shard.contents
  contents_here w = holds s.shard.f s.shard.index s.shard.contents d.place

  pub parts_here : (w : World) (id : BlobId) → held (side_of Now (world_of w s)) s.shard.index id ≡ parts_at s.shard.contents id
  parts_here w id = holds_parts s.shard.f s.shard.index s.shard.contents id d.place

  -- a world is written to on the side that serves
  pub writes_now : (w : World) → writing_side (world_of w s) ≡ Now
  writes_now w = ap {B = Side} (λ b. cond b Next Now) d.serves

  owners_now : owners_of Next s.ledger.log ≡ owners_of Now s.ledger.log
  owners_now = ap (owners_at s.ledger.log) (omega (arith, ap {B = ℕ} (λ b. cond b 1 0) d.serves))

  -- a shard of this one's node is this one
  pub of_node : (t : ℕ) → t < committee_size s.ledger.log.f → same_node (owners_of Next s.ledger.log) s.shard.index t ≡ true → t ≡ s.shard.index
  of_node t lt same =
      sym (d.owners t (rw d.faults at lt)) ∙ sym (rw owners_now at (eqb-true _ _ same)) ∙ d.owners s.shard.index d.place

  -- what it holds backs what it says
  pub may_post : (w : World) (kind : Kind) (id : BlobId) → backs kind (parts_at s.shard.contents id) ≡ true → MayPost (world_of w s) kind s.shard.index id
  may_post w kind id backed = rw (writes_now w) (λ correct t lt same. rw (of_node t lt same, parts_here w id) backed)

  -- or does not
  pub declines : (w : World) (kind : Kind) (id : BlobId) → backs kind (parts_at s.shard.contents id) ≡ false → Declines (world_of w s) kind s.shard.index id
  declines w kind id bare = rw (writes_now w) (here w, s.shard.index, rw d.faults d.place, eq-eqb _ _ refl, rw (parts_here w id) bare)

  -- a faulty shard says what it likes
  pub may_say : (w : World) (kind : Kind) (t : ℕ) (id : BlobId) → t < committee_size s.shard.f → t ≢ s.shard.index → MayPost (world_of w s) kind t id
  may_say w kind t id lt ne = rw (writes_now w) (λ correct. absurd (let e : true ≡ false = sym correct ∙ there w t lt ne in cc))

  -- the shard keeps something
  pub keeps_then : (w : World) (new : Contents) → world_of w (holding s new) ≡ keeps (world_of w s) Now s.shard.index new
  keeps_then w new = ap {B = World} (λ (c : Committee). record (world_of w s) { now = c }) (sym (holds_then s.shard.f s.shard.index s.shard.contents new))

-- ---- what stays

pub holding_same : (s : ServedState) (new : Contents) → new ≡ s.shard.contents → holding s new ≡ s
holding_same s new same = ap {B = ServedState} (holding s) same

pub ledger_same : (s : ServedState) (new : LedgerState) → new ≡ s.ledger → with_ledger s new ≡ s
ledger_same s new same = ap {B = ServedState} (with_ledger s) same

-- one more entry leaves the epoch as it is
pub desk_entered : (s : ServedState) (b : Body) → IsDesk s → is_plain b ≡ true → IsDesk (with_ledger s (takes_in s.ledger b))
desk_entered s b d plain =
    let same = plain_stays s.ledger.log b plain in
    let new = (takes_in s.ledger b).log in
    let owners : owners_of Now new ≡ owners_of Now s.ledger.log = same.owners (reading new) ∙ ap (owners_at s.ledger.log) same.reading in
    record {
      place = d.place;
      faults = d.faults;
      serves = same.moving ∙ d.serves;
      owners = λ t lt. ap (λ (o : List ℕ). node_of o t) owners ∙ d.owners t lt;
    }

pub desk_holding : (s : ServedState) (new : Contents) → IsDesk s → IsDesk (holding s new)
desk_holding s new d = record { place = d.place; faults = d.faults; serves = d.serves; owners = d.owners }

-- ---- what a shard that serves replies of what it holds is the world's true reply

pub read_true : (digest : List ℕ → List ℕ) (s : ServedState) → IsDesk s → (id : List ℕ) (frames : List (List ℕ)) (clash : Option MetaClash)
    → IsReplied (read_reply_of id s.shard.index (parts_at s.shard.contents (named id))) frames clash → RepliesTruly digest s (Ok (Read id)) frames clash
read_true digest s d id frames clash replied w = rw (here s d w, parts_here s d w (named id)) replied

-- of a blob of which nothing is held there is nothing to say
no_opening : (digest : List ℕ → List ℕ) (id : List ℕ) (shard : ℕ) (p : Parts) (axis : Axis) (index : ℕ) (payloads : List (List ℕ)) → p.metadata ≡ None → OpeningReply digest id shard p axis index payloads → payloads ≡ []
no_opening digest id shard p axis index _ none (given m sliver o holds got lt cross is) = cc
no_opening digest id shard p axis index payloads none reply = refl

says_nothing : (digest : List ℕ → List ℕ) (id : List ℕ) (shard : ℕ) (p : Parts) (axis : Axis) (index : ℕ) (payloads : List (List ℕ)) → p.metadata ≡ None → p.proof ≡ None
    → SymbolReplies digest id shard p axis index payloads → payloads ≡ []
says_nothing digest id shard p axis index payloads none bare (opening, is, whole) =
    rw (no_opening digest id shard p axis index opening none is, none, bare) at whole

pub symbol_true : (digest : List ℕ → List ℕ) (s : ServedState) → IsDesk s → (id : List ℕ) (axis : Axis) (index : ℕ) (payloads frames : List (List ℕ)) (clash : Option MetaClash)
    → SymbolReplies digest id s.shard.index (parts_at s.shard.contents (named id)) axis index payloads → IsReplied payloads frames clash
    → RepliesTruly digest s (Ok (Symbol id axis index)) frames clash
symbol_true digest s d id axis index payloads frames clash is replied =
    (payloads, replied, λ w shard asks. rw (here s d w, parts_here s d w (named id)) (to shard asks))
  where
    to : (shard : ℕ) → AsksFor (parts_at s.shard.contents (named id)) axis index shard → SymbolReply digest (named id) s.shard.index (parts_at s.shard.contents (named id)) axis shard payloads
    to shard (by_metadata m holds same) = SymbolReply.replies m payloads holds (rw same at is)
    to shard (of_nothing none bare) =
        let held = parts_at s.shard.contents (named id) in
        rw (says_nothing digest id s.shard.index held axis index payloads none bare is) (silent none)

-- ---- acknowledgements and attestations that a shard serves, as steps of the world

abbrev pub claim_event : Kind → ℕ → BlobId → Event
claim_event Holds shard id = Event.Ack shard id
claim_event Denies shard id = Event.Attest shard id

-- a claim that the shard's node may make is a step, where there is room
claim_does : (digest : List ℕ → List ℕ) (s : ServedState) (kind : Kind) (shard : ℕ) (id : BlobId) (r : Reply) (new : LedgerState) (frames : List (List ℕ)) (clash : Option MetaClash)
    → ((w : World) → MayPost (world_of w s) kind shard id) → ClaimEntered kind s.ledger shard id r new → IsReplyOutcome (Ok r) frames clash
    → Does digest s (an_event (claim_event kind shard id)) frames clash (with_ledger s new)
claim_does digest s kind shard id r new frames clash may claimed told = by kind may claimed
  where
    says : (e : Event) (q : Reply) → r ≡ q → (said : Line) → is_collision said ≡ false → frame_of said ≡ Some (Answer q.code q.a q.b)
        → ((w : World) → Steps (rules_of digest s.shard.f) (world_of w s) e said (world_of w (with_ledger s new))) → Does digest s (an_event e) frames clash (with_ledger s new)
    says e q is said goes frame steps = takes digest s (with_ledger s new) e frames clash q (rw is at told) said goes frame steps

    full : (e : Event) → r ≡ refused 10 → new ≡ s.ledger → Does digest s (an_event e) frames clash (with_ledger s new)
    full e is same = lacks digest s (with_ledger s new) e frames clash (refused 10) (rw is at told) (inr (inr refl)) (ledger_same s new same)

    same : new ≡ s.ledger → (w : World) → world_of w (with_ledger s new) ≡ world_of w s
    same e w = ap (world_of w) (ledger_same s new e)

    claims : (k : Kind) → ((w : World) → MayPost (world_of w s) k shard id) → (count : ℕ) → Claimed k s.ledger shard id count new → (w : World)
        → ClaimStep (world_of w s) k shard id count (world_of w (with_ledger s new))
    claims k m count h w = record { first_time = h.0; may = m w; state = ap (λ (l : LedgerState). world_of w (with_ledger s l)) h.2; counted = h.3 }

    by : (k : Kind) → ((w : World) → MayPost (world_of w s) k shard id) → ClaimEntered k s.ledger shard id r new → Does digest s (an_event (claim_event k shard id)) frames clash (with_ledger s new)
    by Holds m (AckAnswer.Unregistered, h, e) = says (Event.Ack shard id) (refused 1) e (Line.Ack shard id ack.Unregistered) refl refl (λ w. (refl, refl, (h.0, same h.1 w)))
    by Holds m (AckAnswer.Expires, h, e) = says (Event.Ack shard id) (refused 8) e (Line.Ack shard id ack.Expires) refl refl (λ w. (refl, refl, (h.0, h.1, same h.2 w)))
    by Holds m (AckAnswer.NoRoom, h, e) = full (Event.Ack shard id) e h.2
    by Holds m (AckAnswer.Already, h, e) = says (Event.Ack shard id) (refused 12) e (Line.Ack shard id ack.Already) refl refl (λ w. (refl, refl, ((h.0, m w, h.1), same h.2 w)))
    by Holds m (AckAnswer.Counted count, h, e) = says (Event.Ack shard id) (reply 13 count 0) e (Line.Ack shard id (ack.Counted count)) refl refl (λ w. (refl, refl, (claims Holds m count h.0 w, h.1)))
    by Holds m (AckAnswer.Certified count, h, e) = says (Event.Ack shard id) (reply 14 count 0) e (Line.Ack shard id (ack.Certified count)) refl refl (λ w. (refl, refl, (claims Holds m count h.0 w, h.1)))
    by Denies m (AttestAnswer.Unregistered, h, e) = says (Event.Attest shard id) (refused 1) e (Line.Attest shard id attest.Unregistered) refl refl (λ w. (refl, refl, (h.0, same h.1 w)))
    by Denies m (AttestAnswer.Expires, h, e) = says (Event.Attest shard id) (refused 8) e (Line.Attest shard id attest.Expires) refl refl (λ w. (refl, refl, (h.0, h.1, same h.2 w)))
    by Denies m (AttestAnswer.NoRoom, h, e) = full (Event.Attest shard id) e h.2
    by Denies m (AttestAnswer.Already, h, e) = says (Event.Attest shard id) (refused 12) e (Line.Attest shard id attest.Already) refl refl (λ w. (refl, refl, ((h.0, m w, h.1), same h.2 w)))
    by Denies m (AttestAnswer.Counted count, h, e) = says (Event.Attest shard id) (reply 13 count 0) e (Line.Attest shard id (attest.Counted count)) refl refl (λ w. (refl, refl, (claims Denies m count h.0 w, h.1)))
    by Denies m (AttestAnswer.Invalid count, h, e) = says (Event.Attest shard id) (reply 14 count 0) e (Line.Attest shard id (attest.Invalid count)) refl refl (λ w. (refl, refl, (claims Denies m count h.0 w, h.1)))

-- the shard's own
pub vouched_does : (digest : List ℕ → List ℕ) (s : ServedState) → IsDesk s → (kind : Kind) (id : BlobId) (r : Reply) (new : LedgerState) (frames : List (List ℕ)) (clash : Option MetaClash)
    → Vouched kind s id r new → IsReplyOutcome (Ok r) frames clash → Does digest s (an_event (claim_event kind s.shard.index id)) frames clash (with_ledger s new)
vouched_does digest s d kind id _ _ frames clash (asked r new vouches claimed) told =
    claim_does digest s kind s.shard.index id r new frames clash (λ w. may_post s d w kind id vouches.1) claimed told
vouched_does digest s d kind id _ _ frames clash (unbacked why vouches) told = by kind why vouches told
  where
    own : ℕ
    own = s.shard.index

    by : (k : Kind) (x : AckRefusal) → Vouches k s.ledger.log s.shard.contents id (Err x) → IsReplyOutcome (Ok (refusal_reply x)) frames clash → Does digest s (an_event (claim_event k own id)) frames clash s
    by Holds AckRefusal.Unregistered v t = takes digest s s (Event.Ack own id) frames clash (refused 1) t (Line.Ack own id ack.Unregistered) refl refl (λ w. (refl, refl, (v, refl)))
    by Holds AckRefusal.Expires v t = takes digest s s (Event.Ack own id) frames clash (refused 8) t (Line.Ack own id ack.Expires) refl refl (λ w. (refl, refl, (v.0, v.1, refl)))
    by Holds AckRefusal.Declined v t = takes digest s s (Event.Ack own id) frames clash (refused 5) t (Line.Ack own id ack.Declined) refl refl (λ w. (refl, refl, (v.0, declines s d w Holds id v.1, refl)))
    by Denies AckRefusal.Unregistered v t = takes digest s s (Event.Attest own id) frames clash (refused 1) t (Line.Attest own id attest.Unregistered) refl refl (λ w. (refl, refl, (v, refl)))
    by Denies AckRefusal.Expires v t = takes digest s s (Event.Attest own id) frames clash (refused 8) t (Line.Attest own id attest.Expires) refl refl (λ w. (refl, refl, (v.0, v.1, refl)))
    by Denies AckRefusal.Declined v t = takes digest s s (Event.Attest own id) frames clash (refused 5) t (Line.Attest own id attest.Declined) refl refl (λ w. (refl, refl, (v.0, declines s d w Denies id v.1, refl)))

-- entries of shards
pub entered_does : (digest : List ℕ → List ℕ) (s : ServedState) → IsDesk s → (kind : Kind) (shard : ℕ) (id : BlobId) (r : Reply) (new : LedgerState) (frames : List (List ℕ)) (clash : Option MetaClash)
    → Entered kind s.ledger shard id r new → IsReplyOutcome (Ok r) frames clash
    → Does digest s (entry_of s.shard.f s.shard.index shard (claim_event kind shard id)) frames clash (with_ledger s new)
entered_does digest s d kind shard id r new frames clash entered told = by (nat_eq shard s.shard.index) refl
  where
    other : (q : Reply) (l : LedgerState) → shard ≢ s.shard.index → Entered kind s.ledger shard id q l → IsReplyOutcome (Ok q) frames clash
        → Does digest s (cond (nat_lt shard (committee_size s.shard.f)) (an_event (claim_event kind shard id)) no_event) frames clash (with_ledger s l)
    other _ _ ne (of_committee q l lt claimed) says =
        let less = rw d.faults at lt in
        rw (lt-ltb _ _ less) (claim_does digest s kind shard id q l frames clash (λ w. may_say s d w kind shard id less ne) claimed says)
    other _ _ ne (of_none none) says =
        elim (cases_lt shard (committee_size s.shard.f)) [
          | inl lt ↦ absurd (none (rw d.faults lt))
          | inr le ↦ rw (le-ltb _ _ le) (refl, says.1)
        ]

    by : (b : Bool) → nat_eq shard s.shard.index ≡ b → Does digest s (entry_of s.shard.f s.shard.index shard (claim_event kind shard id)) frames clash (with_ledger s new)
    by true e = rw e (refl, told.1)
    by false e = rw e (other r new (eqb-false _ _ e) entered told)

-- ---- what is put to a shard that serves, and what it lets go, as steps of the world

-- ---- puts

-- what is put under a limit of pages and stays within it is put without one
unlimited : (digest : List ℕ → List ℕ) (s : ServedState) (frame : Frame) → IsAccepted digest (desk s.shard s.ledger.log) s.shard.contents frame
    → IsAccepted digest (desk_of s.shard.f s.shard.index None s.ledger.log) s.shard.contents frame
unlimited digest s frame a = record { live = a.live; verified = a.verified }

module _ (digest : List ℕ → List ℕ) (s : ServedState) (d : IsDesk s) (payload : List ℕ) (frame : Frame) (reads : read_of payload ≡ Ok frame) (part : CanBePut frame) where
  -- what is put to the shard is put in the world
  put_there : (w : World) (answer : PutAnswer) (new : Contents) → Puts digest (desk_of s.shard.f s.shard.index None s.ledger.log) s.shard.contents frame answer new
      → step.IsPut (rules_of digest s.shard.f) (world_of w s) Now s.shard.index payload answer frame new
  put_there w answer new puts = (here s d w, (reads, part), ((frame_is payload frame reads).fits, rw (contents_here s d w) puts))

  -- a put is a step, where there is room
  pub put_does : (may_want : Bool) (outcome : Result Reply MetaClash) (new : Contents) (frames : List (List ℕ)) (clash : Option MetaClash)
      → IsPutRequest digest may_want s.shard s.ledger.log frame outcome new → IsReplyOutcome outcome frames clash
      → Does digest s (an_event (Event.Send Now s.shard.index payload)) frames clash (holding s new)
  put_does may_want outcome new frames clash (answer, puts, is, shows) told = by answer puts (rw is at told)
    where
      e : Event
      e = Event.Send Now s.shard.index payload

      says : (q : Reply) (word : SendWord) → IsReplyOutcome (Ok q) frames clash → send_frame word ≡ Some (Answer q.code q.a q.b)
          → ((w : World) → step.SendStep (rules_of digest s.shard.f) (world_of w s) Now s.shard.index payload word (world_of w (holding s new))) → Does digest s (an_event e) frames clash (holding s new)
      says q word t frame sends = takes digest s (holding s new) e frames clash q t (Line.Send s.shard.index word) refl frame (λ w. (refl, sends w))

      same_world : new ≡ s.shard.contents → (w : World) → world_of w (holding s new) ≡ world_of w s
      same_world same w = ap (world_of w) (holding_same s new same)

      refuses : (x : PutAnswer) → new ≡ s.shard.contents → Puts digest (desk_of s.shard.f s.shard.index None s.ledger.log) s.shard.contents frame x new → (w : World)
          → step.Refused (rules_of digest s.shard.f) (world_of w s) Now s.shard.index payload x (world_of w (holding s new))
      refuses x same p w = (frame, new, put_there w x new p, same_world same w)

      by : (x : PutAnswer) → PutsOrWants digest may_want (desk s.shard s.ledger.log) s.shard.contents frame x new → IsReplyOutcome (put_reply x) frames clash → Does digest s (an_event e) frames clash (holding s new)
      by PutAnswer.Stored h t = says (done 0) SendWord.Stored t refl (λ w. (frame, new, put_there w PutAnswer.Stored new (unlimited digest s frame h.0, h.1, tt, h.3), keeps_then s d w new))
      by PutAnswer.Held h t = says (refused 11) SendWord.Held t refl (refuses PutAnswer.Held h.2 (unlimited digest s frame h.0, h.1, h.2))
      by PutAnswer.Unregistered h t = says (refused 1) SendWord.Unregistered t refl (refuses PutAnswer.Unregistered h.1 h)
      by PutAnswer.NoMetadata h t = says (refused 3) SendWord.NoMetadata t refl (refuses PutAnswer.NoMetadata h.3 h)
      by PutAnswer.Unverified h t = says (refused 2) SendWord.Unverified t refl (refuses PutAnswer.Unverified h.3 h)
      by (PutAnswer.OtherMetadata texts) h t = inl (record {
        line = Line.Collision texts.left texts.right;
        steps = λ w. (
          h.6,
          (
            frame,
            new,
            PutAnswer.OtherMetadata texts,
            refl,
            put_there w (PutAnswer.OtherMetadata texts) new (unlimited digest s frame h.0, h.1, h.2, h.3, h.4, h.5, h.6, h.7),
            same_world h.7 w,
          ),
        );
        told = (Clash texts.left texts.right, refl, t.0);
        ends = rw t.1 refl;
      })
      by (PutAnswer.Full needed free) h t = lacks digest s (holding s new) e frames clash (reply 6 needed free) t (inl refl) (holding_same s new h.5)
      by PutAnswer.Memory h t = lacks digest s (holding s new) e frames clash (refused 7) t (inr (inl refl)) (holding_same s new h.3)

-- ---- forgetting

pub forget_does : (digest : List ℕ → List ℕ) (s : ServedState) → IsDesk s → (id : BlobId) (r : Reply) (new : Contents) (frames : List (List ℕ)) (clash : Option MetaClash)
    → Forgets s.ledger.log s.shard.contents id r new → IsReplyOutcome (Ok r) frames clash
    → Does digest s (an_event (Event.Forget Now s.shard.index id)) frames clash (holding s new)
forget_does digest s d id _ _ frames clash (forgotten may) told =
    takes digest s (holding s (without_slivers s.shard.contents id)) (Event.Forget Now s.shard.index id) frames clash (done 0) told (Line.Forget s.shard.index id forgetting.Done) refl refl
    (λ w. (
      refl,
      refl,
      (
        here s d w,
        rw (contents_here s d w) may,
        rw (contents_here s d w) (keeps_then s d w (without_slivers s.shard.contents id)),
      ),
    ))
forget_does digest s d id _ _ frames clash (kept not) told =
    takes digest s s (Event.Forget Now s.shard.index id) frames clash (refused 5) told (Line.Forget s.shard.index id forgetting.Declined) refl refl
    (λ w. (refl, refl, (here s d w, (λ may. not (rw (contents_here s d w) at may)), refl)))

-- ---- what serving does are steps of the world

-- ---- registrations

register_does : (digest : List ℕ → List ℕ) (s : ServedState) (id : BlobId) (until : ℕ) (r : Reply) (new : LedgerState) (frames : List (List ℕ)) (clash : Option MetaClash)
    → Registered s.ledger id until r new → IsReplyOutcome (Ok r) frames clash → Does digest s (an_event (Event.Register id until)) frames clash (with_ledger s new)
register_does digest s id until r new frames clash (RegisterAnswer.Past, h, is) told =
    takes digest s (with_ledger s new) (Event.Register id until) frames clash (refused 15) (rw is at told)
    (Line.Register id register.RefusedPast) refl refl
    (λ w. (refl, (h.0, ap (world_of w) (ledger_same s new h.1))))
register_does digest s id until r new frames clash (RegisterAnswer.MovingExtension, h, is) told = absurd is
register_does digest s id until r new frames clash (RegisterAnswer.Registered most, h, is) told =
    takes digest s (with_ledger s new) (Event.Register id until) frames clash (done most) (rw is at told)
    (Line.Register id (register.Until most)) refl refl
    (λ w. (refl, (h.0, ap (λ (l : LedgerState). world_of w (with_ledger s l)) h.2, h.3)))
register_does digest s id until r new frames clash (RegisterAnswer.NoRoom, h, is) told =
    lacks digest s (with_ledger s new) (Event.Register id until) frames clash (refused 10) (rw is at told)
    (inr (inr refl)) (ledger_same s new h.2)

-- ---- each row

module _ (digest : List ℕ → List ℕ) (may_want : Bool) (s : ServedState) (d : IsDesk s) (frames : List (List ℕ)) (clash : Option MetaClash) (new : ServedState) where
  put_done : (payload : List ℕ) (frame : Frame) → read_of payload ≡ Ok frame → CanBePut frame → AnswersPut digest may_want frame s frames clash new
      → Does digest s (an_event (Event.Send Now s.shard.index payload)) frames clash new
  put_done payload frame reads part (outcome, contents, put, told, is) =
      rw is (put_does digest s d payload frame reads part may_want outcome contents frames clash put told)

  entry_done : (m : Meaning) (Makes : Reply → LedgerState → Type 0) → ((r : Reply) (l : LedgerState) → Makes r l → IsReplyOutcome (Ok r) frames clash → Does digest s m frames clash (with_ledger s l))
      → AnswersEntry Makes s frames clash new → Does digest s m frames clash new
  entry_done m Makes does (r, ledger, makes, told, is) = rw is (does r ledger makes told)

  read_done : (payload : List ℕ) (read : Result Frame FrameError) → read_of payload ≡ read → AnswersRead digest may_want read s frames clash new
      → Does digest s (read_meaning s.shard.f s.shard.index payload read) frames clash new
  read_done payload (Ok (Metadata m)) reads h = put_done payload (Metadata m) reads tt h
  read_done payload (Ok (Sliver id axis index bytes)) reads h = put_done payload (Sliver id axis index bytes) reads tt h
  read_done payload (Ok (Proof id p)) reads h = put_done payload (Proof id p) reads tt h
  read_done payload (Ok (Read id)) reads h = (h.1, h.0.1)
  read_done payload (Ok (Symbol id axis index)) reads (payloads, is, replied, same) = (same, replied.1)
  read_done payload (Ok (Ack id)) reads h = entry_done (an_event (Event.Ack s.shard.index (named id))) (Vouched Holds s (named id)) (λ r l. vouched_does digest s d Holds (named id) r l frames clash) h
  read_done payload (Ok (Attest id)) reads h = entry_done (an_event (Event.Attest s.shard.index (named id))) (Vouched Denies s (named id)) (λ r l. vouched_does digest s d Denies (named id) r l frames clash) h
  read_done payload (Ok (Forget id)) reads (r, contents, forgets, told, is) =
      rw is (forget_does digest s d (named id) r contents frames clash forgets told)
  read_done payload (Ok (RegisterEntry id until)) reads h = entry_done (an_event (Event.Register (named id) until)) (Registered s.ledger (named id) until) (λ r l. register_does digest s (named id) until r l frames clash) h
  read_done payload (Ok (AckEntry shard id)) reads h = entry_done _ (Entered Holds s.ledger shard (named id)) (λ r l. entered_does digest s d Holds shard (named id) r l frames clash) h
  read_done payload (Ok (AttestEntry shard id)) reads h = entry_done _ (Entered Denies s.ledger shard (named id)) (λ r l. entered_does digest s d Denies shard (named id) r l frames clash) h
  read_done payload (Ok frame) reads h = (h.1, h.0.1)
  read_done payload (Err fault) reads h = (h.1, h.0.1)

  read_replies : (read : Result Frame FrameError) → AnswersRead digest may_want read s frames clash new → RepliesTruly digest s read frames clash
  read_replies (Ok (Read id)) h = read_true digest s d id frames clash h.0
  read_replies (Ok (Symbol id axis index)) (payloads, is, replied, same) = symbol_true digest s d id axis index payloads frames clash is replied
  read_replies (Ok frame) h = tt
  read_replies (Err fault) h = tt

  -- what is refused changes nothing
  refused_same : (read : Result Frame FrameError) → Change digest s read frames new → (code a b : ℕ) → frames ≡ answer_text code a b ∷ [] → IsRefused code → new ≡ s
  refused_same read change code a b only refused =
      let never : tells_entry frames ≡ true → ⊥ = λ made. made_stays code a b (rw only at made) refused in
      grind arith

  -- the shard goes on to serve, at its place
  goes_on : (read : Result Frame FrameError) → Change digest s read frames new → IsDesk new × SamePlace s.shard new.shard
  goes_on read (no_change is) = rw is (d, record { f = refl; index = refl; limit = refl })
  goes_on read (part_stored frame reads part about told accepted absent is) = rw is (desk_holding s _ d, record { f = refl; index = refl; limit = refl })
  goes_on read (slivers_went q about told is) = rw is (desk_holding s _ d, record { f = refl; index = refl; limit = refl })
  goes_on read (entry_made q b about asks told may is) = rw is (desk_entered s b d (enter_plain s q b may), record { f = refl; index = refl; limit = refl })

-- ---- the laws

-- what a payload does that was looked at, and a shard that serves goes on to be one
pub answered_steps : (digest : List ℕ → List ℕ) (may_want : Bool) (old : ServedState) (payload : List ℕ) (frames : List (List ℕ)) (clash : Option MetaClash) (new : ServedState) → IsDesk old
    → AnswersRequest digest may_want old payload frames clash new → Stepped digest may_want old payload frames clash new × IsDesk new
answered_steps digest may_want old payload frames clash new d answers =
    let change = changes digest may_want old frames clash new payload answers in
    let then = goes_on digest may_want old d frames clash new (read_of payload) change in (
      record {
        answers = answers;
        does = read_done digest may_want old d frames clash new payload (read_of payload) refl answers;
        replies = read_replies digest may_want old d frames clash new (read_of payload) answers;
        refused = refused_same digest may_want old d frames clash new (read_of payload) change;
        place = then.1;
      },
      then.0,
    )

replied_steps : (digest : List ℕ → List ℕ) (may_want : Bool) (room : ℕ) (old : ServedState) (payload : List ℕ) (frames : List (List ℕ)) (clash : Option MetaClash) (new : ServedState) → IsDesk old
    → Replies (AnswersRequest digest may_want) room old payload frames clash new → Replies (Stepped digest may_want) room old payload frames clash new × IsDesk new
replied_steps digest may_want room old payload _ _ _ d (looked_at frames clash new fits answers) =
    let h = answered_steps digest may_want old payload frames clash new d answers in
    (looked_at frames clash new fits h.0, h.1)
replied_steps digest may_want room old payload _ _ _ d (read_past long) = (read_past long, d)

-- what serving does
pub served_steps : (digest : List ℕ → List ℕ) (may_want : Bool) (room : ℕ) (fresh : ServedState) (taken : List ℕ) (frames : List (List ℕ)) (clash : Option MetaClash) (state : ServedState) → IsDesk fresh
    → Served (AnswersRequest digest may_want) room fresh taken frames clash state → AreSteps digest may_want room fresh taken frames clash state × IsDesk state
served_steps digest may_want room fresh _ _ _ _ d Served.none = (Served.none, d)
served_steps digest may_want room fresh _ _ _ _ d (more front frames mid before sender payload some clash new fits replies) =
    let h = served_steps digest may_want room fresh front frames None mid d before in
    let last = replied_steps digest may_want room mid payload some clash new h.1 replies in
    (more front frames mid h.0 sender payload some clash new fits last.0, last.1)
