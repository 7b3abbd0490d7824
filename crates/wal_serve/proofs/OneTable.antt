-- THE TABLE of requests has one answer to each payload, over a keep that never wants memory.
use Rattle.wal_serve.proofs.Common.{◌≡◌, ℕ, false, List, Result, Ok, Err, refl, arith, ⊤, BlobId, Axis, MetaClash, Frame, Parts, Contents, Kind, Holds, Denies, Log, LedgerState, PutAnswer, OpeningReply, SymbolReplies, PutDesk, PutsOrWants, Reply, ServedState, put_reply, ClaimEntered, Entered, Forgets, Registered, Vouched, given, not_held, Bool, [], Option, None, sym, ap, subst, ◌∙◌, true≢false, false≢true, is_some, FrameError, Metadata, Sliver, Proof, Read, Symbol, Ack, Attest, Forget, RegisterEntry, AckEntry, AttestEntry, read_of, desk, parts_at, named, with_ledger, malformed, no_request, AnswersRequest, AnswersFrame, AnswersPut, AnswersRead, IsReplyOutcome, IsSingle, SameAnswer, holding}
use Rattle.wal_commit.proofs.HonestOpenings.{one_opening}
use Rattle.wal_shard.proofs.Soundness.{one_metadata}
use Rattle.wal_shard.proofs.OnePut.{never_wants, none_some, puts_once, some_is}
use Rattle.wal_commit.specs.Held.{IsOpeningOf}

-- ---- what a shard and a ledger answer is one thing, but for the two texts of a collision

-- one reply; the texts of two collisions may differ
abbrev pub SameReply : Result Reply MetaClash → Result Reply MetaClash → Type 0
SameReply (Ok r) (Ok s) = r ≡ s
SameReply (Err clash) (Err other) = ⊤
SameReply _ _ = ⊥

-- any reply is the same as itself
same_self : (r : Result Reply MetaClash) → SameReply r r
same_self (Ok r) = refl
same_self (Err clash) = tt

-- ---- puts

pub one_put : (digest : List ℕ → List ℕ) (d : PutDesk) (old : Contents) (frame : Frame) (a b : PutAnswer) (x y : Contents) → PutsOrWants digest false d old frame a x
    → PutsOrWants digest false d old frame b y → SameReply (put_reply a) (put_reply b) × (x ≡ y)
one_put digest d old frame a b x y p q =
    puts_once digest d old frame (λ s t. SameReply (put_reply s) (put_reply t)) (λ s. same_self (put_reply s)) (λ c e. tt) a b x y
    (never_wants digest d old frame a x p) (never_wants digest d old frame b y q)

-- ---- openings of held slivers

module _ (digest : List ℕ → List ℕ) (id : List ℕ) (shard : ℕ) (p : Parts) (axis : Axis) (index : ℕ) where
  one_opening_reply : (a b : List (List ℕ)) → OpeningReply digest id shard p axis index a → OpeningReply digest id shard p axis index b → a ≡ b
  one_opening_reply a b (given m sliver o has at within cross is) (given n other q has_n at_n within_n cross_n is_n) =
      let same = one_metadata p m n has has_n in
      let here : IsOpeningOf digest n axis index other o = rw (same, some_is _ sliver other at at_n) at is in
      let one = one_opening digest n axis index other o q has_n.fit.shape.1 here is_n in
      let crosses : o.cross ≡ q.cross = cc (cross, cross_n, same) in
      let all : o ≡ q = λ i. record { cross = crosses i; symbol = one.0 i; path = one.1 i } in
      cc (all)
  one_opening_reply a b (given m sliver o has at within cross is) (not_held none) = absurd (none_some _ sliver none at)
  one_opening_reply a b (given m sliver o has at within cross is) (OpeningReply.no_shard n has_n outside) =
      absurd (outside (rw (one_metadata p m n has has_n) at within))
  one_opening_reply a b (not_held none) (given n other q has_n at_n within_n cross_n is_n) = absurd (none_some _ other none at_n)
  one_opening_reply a b (OpeningReply.no_shard m has outside) (given n other q has_n at_n within_n cross_n is_n) =
      absurd (outside (rw (one_metadata p n m has_n has) at within_n))
  one_opening_reply a b s t = refl

  pub one_symbols : (a b : List (List ℕ)) → SymbolReplies digest id shard p axis index a → SymbolReplies digest id shard p axis index b → a ≡ b
  one_symbols a b s t =
      cc (s.2, t.2, one_opening_reply s.0 t.0 s.1 t.1)

-- ---- the ledger

pub one_registered : (old : LedgerState) (id : BlobId) (until : ℕ) (r s : Reply) (x y : LedgerState) → Registered old id until r x → Registered old id until s y → (r ≡ s) × (x ≡ y)
one_registered old id until r s x y a b = grind arith

-- a claim has one reply, and leaves one ledger
one_claimed : (kind : Kind) (old : LedgerState) (shard : ℕ) (id : BlobId) (r s : Reply) (x y : LedgerState) → ClaimEntered kind old shard id r x → ClaimEntered kind old shard id s y → (r ≡ s) × (x ≡ y)
one_claimed Holds old shard id r s x y a b = grind arith
one_claimed Denies old shard id r s x y a b = grind arith

pub one_vouched : (kind : Kind) (old : ServedState) (id : BlobId) (r s : Reply) (x y : LedgerState) → Vouched kind old id r x → Vouched kind old id s y → (r ≡ s) × (x ≡ y)
one_vouched kind old id r s x y a b = grind (arith, one_claimed)

pub one_entered : (kind : Kind) (old : LedgerState) (shard : ℕ) (id : BlobId) (r s : Reply) (x y : LedgerState) → Entered kind old shard id r x → Entered kind old shard id s y → (r ≡ s) × (x ≡ y)
one_entered kind old shard id r s x y a b = grind (arith, one_claimed)

pub one_forget : (log : Log) (old : Contents) (id : BlobId) (r s : Reply) (x y : Contents) → Forgets log old id r x → Forgets log old id s y → (r ≡ s) × (x ≡ y)
one_forget log old id r s x y a b = grind arith

-- ---- THE TABLE of requests has one answer to each payload, over a keep that never wants memory

module _ {xs ys : List (List ℕ)} {clash second : Option MetaClash} {new then : ServedState} where
  -- an answer that does not end serving
  calm : clash ≡ None → second ≡ None → xs ≡ ys → new ≡ then → SameAnswer xs ys clash second new then
  calm none nothing frames state = record {
    stops = cc;
    frames = λ fails. frames;
    last = λ stops. absurd (false≢true (sym (ap is_some none) ∙ stops));
    state = state;
  }

  one_outcome : (a b : Result Reply MetaClash) → SameReply a b → IsReplyOutcome a xs clash → IsReplyOutcome b ys second
      → new ≡ then → SameAnswer xs ys clash second new then
  one_outcome (Ok r) (Ok s) same a b state = calm a.1 b.1 (cc (a.0, same, b.0)) state
  one_outcome (Err one) (Err other) same a b state = record {
    stops = cc (a.1, b.1);
    frames = λ fails. absurd (true≢false (sym (ap is_some a.1) ∙ fails));
    last = λ stops. record { front = []; one = one; other = other; ends = a.0; ends_too = b.0 };
    state = state;
  }
  one_outcome _ _ same a b state = absurd same

  -- an answer that is made in one way
  one_made : {X : Type 0} (Makes : Reply → X → Type 0) (leaves : X → ServedState)
      → ((r s : Reply) (x y : X) → Makes r x → Makes s y → (r ≡ s) × (x ≡ y))
      → ((r : Reply) × (x : X) × Makes r x × IsReplyOutcome (Ok r) xs clash × (new ≡ leaves x))
      → ((s : Reply) × (y : X) × Makes s y × IsReplyOutcome (Ok s) ys second × (then ≡ leaves y))
      → SameAnswer xs ys clash second new then
  one_made Makes leaves once a b =
      let same = once a.0 b.0 a.1 b.1 a.2 b.2 in
      calm a.3.1 b.3.1 (cc (a.3.0, same.0, b.3.0)) (cc (a.4, same.1, b.4))

module _ (digest : List ℕ → List ℕ) (old : ServedState) (xs ys : List (List ℕ)) (clash second : Option MetaClash) (new then : ServedState) where
  one_stored : (frame : Frame) → AnswersPut digest false frame old xs clash new → AnswersPut digest false frame old ys second then → SameAnswer xs ys clash second new then
  one_stored frame a b =
      let put = a.2 in
      let other = b.2 in
      let same = one_put digest (desk old.shard old.ledger.log) old.shard.contents frame put.0 other.0 a.1 b.1 put.1 other.1 in
      one_outcome a.0 b.0 (rw (put.2, other.2) same.0) a.3 b.3 (cc (a.4, same.1, b.4))

  one_frame : (frame : Frame) → AnswersFrame digest false frame old xs clash new → AnswersFrame digest false frame old ys second then → SameAnswer xs ys clash second new then
  one_frame (Metadata m) a b = one_stored _ a b
  one_frame (Sliver id axis index bytes) a b = one_stored _ a b
  one_frame (Proof id p) a b = one_stored _ a b
  one_frame (Read id) a b = calm a.0.1 b.0.1 (cc (a.0.0, b.0.0)) (a.1 ∙ sym b.1)
  one_frame (Symbol id axis index) a b =
      let held = parts_at old.shard.contents (named id) in
      let same = one_symbols digest id old.shard.index held axis index a.0 b.0 a.1 b.1 in
      calm a.2.1 b.2.1 (cc (a.2.0, same, b.2.0)) (a.3 ∙ sym b.3)
  one_frame (Ack id) a b = one_made _ (with_ledger old) (one_vouched Holds old (named id)) a b
  one_frame (Attest id) a b = one_made _ (with_ledger old) (one_vouched Denies old (named id)) a b
  one_frame (Forget id) a b =
      one_made _ (holding old) (one_forget old.ledger.log old.shard.contents (named id)) a b
  one_frame (RegisterEntry id until) a b =
      one_made _ (with_ledger old) (one_registered old.ledger (named id) until) a b
  one_frame (AckEntry shard id) a b = one_made _ (with_ledger old) (one_entered Holds old.ledger shard (named id)) a b
  one_frame (AttestEntry shard id) a b =
      one_made _ (with_ledger old) (one_entered Denies old.ledger shard (named id)) a b
  one_frame frame a b = one_outcome (Ok no_request) (Ok no_request) refl a.0 b.0 (a.1 ∙ sym b.1)

  one_read : (read : Result Frame FrameError) → AnswersRead digest false read old xs clash new → AnswersRead digest false read old ys second then → SameAnswer xs ys clash second new then
  one_read (Ok frame) a b = one_frame frame a b
  one_read (Err fault) a b = one_outcome (Ok (malformed fault)) (Ok (malformed fault)) refl a.0 b.0 (a.1 ∙ sym b.1)

-- a request has one answer where memory is not wanted
pub one_table : (digest : List ℕ → List ℕ) → IsSingle (AnswersRequest digest false)
one_table digest old payload xs ys clash second new then a b = one_read digest old xs ys clash second new then (read_of payload) a b

pub one_without_want : (digest : List ℕ → List ℕ) (may_want : Bool) → may_want ≡ false → IsSingle (AnswersRequest digest may_want)
one_without_want digest may_want never = subst (λ (b : Bool). IsSingle (AnswersRequest digest b)) (sym never) (one_table digest)
