-- What a shard answers to a payload, and the state then: the table of requests.
use Rattle.std.specs.Prelude.{◌≡◌, ℕ, Bool, List, [], ◌∷◌, ◌++◌, length, Option, None, Result, Ok}
use Rattle.std.specs.Prelude.{Err}
use Rattle.wal_shape.specs.declared.metadata.BlobId.{BlobId}
use Rattle.wal_shape.specs.declared.text.MetaClash.{MetaClash}
use Rattle.wal_frame.specs.declared.frame.FrameError.{FrameError}
use Rattle.wal_frame.specs.Frame.{Frame, Metadata, Sliver, Opening, Proof, Read, Symbol, Ack}
use Rattle.wal_frame.specs.Frame.{Attest, Forget, Answer, Clash, RegisterEntry, AckEntry}
use Rattle.wal_frame.specs.Frame.{AttestEntry}
use Rattle.wal_frame.specs.Reading.{read_of}
use Rattle.wal_ledger.specs.declared.entry.Kind.TheVariants.{Holds, Denies}
use Rattle.wal_ledger.specs.Ledger.{LedgerState}
use Rattle.wal_store.specs.Contents.{Contents, parts_at}
use Rattle.wal_shard.specs.Holding.{SymbolReplies, read_reply_of}
use Rattle.wal_serve.specs.declared.reply.Reply.{Reply}
use Rattle.wal_serve.specs.State.{ServedState, with_ledger, holding, named}
use Rattle.wal_serve.specs.Reply.{done, malformed, no_request, reply_text, outcome_text, clash_in}
use Rattle.wal_serve.specs.Requests.{IsPutRequest, Registered, Vouched, Entered, Forgets}

-- the answer is one frame
abbrev pub IsReplyOutcome : Result Reply MetaClash → List (List ℕ) → Option MetaClash → Type 0
IsReplyOutcome outcome frames clash =
    (frames ≡ outcome_text outcome ∷ []) × (clash ≡ clash_in outcome)

-- the answer is these frames, and then their number
abbrev pub IsReplied : List (List ℕ) → List (List ℕ) → Option MetaClash → Type 0
IsReplied payloads frames clash =
    (frames ≡ payloads ++ reply_text (done (length payloads)) ∷ []) × (clash ≡ None)

-- a metadata, a sliver or a proof is put to the shard
abbrev pub AnswersPut : (List ℕ → List ℕ) → Bool → Frame → ServedState → List (List ℕ)
    → Option MetaClash → ServedState → Type 0
AnswersPut digest may_want frame old frames clash new =
    (outcome : Result Reply MetaClash) × (contents : Contents)
    × IsPutRequest digest may_want old.shard old.ledger.log frame outcome contents
    × IsReplyOutcome outcome frames clash × (new ≡ holding old contents)

-- a request that the ledger answers, by what the request makes of the ledger
abbrev pub AnswersEntry : (Reply → LedgerState → Type 0) → ServedState → List (List ℕ)
    → Option MetaClash → ServedState → Type 0
AnswersEntry Makes old frames clash new =
    (reply : Reply) × (ledger : LedgerState) × Makes reply ledger
    × IsReplyOutcome (Ok reply) frames clash
    × (new ≡ with_ledger old ledger)

-- a request to forget the slivers of a blob
abbrev pub AnswersForget : BlobId → ServedState → List (List ℕ) → Option MetaClash → ServedState
    → Type 0
AnswersForget id old frames clash new =
    (reply : Reply) × (contents : Contents)
    × Forgets old.ledger.log old.shard.contents id reply contents
    × IsReplyOutcome (Ok reply) frames clash × (new ≡ holding old contents)

-- the answer to each frame: the state before, the frames, the two texts if they end serving, and
-- the state after
abbrev pub AnswersFrame : (List ℕ → List ℕ) → Bool → Frame → ServedState → List (List ℕ)
    → Option MetaClash → ServedState → Type 0
AnswersFrame digest may_want (Metadata metadata) old frames clash new =
    AnswersPut digest may_want (Metadata metadata) old frames clash new
AnswersFrame digest may_want (Sliver id axis index bytes) old frames clash new =
    AnswersPut digest may_want (Sliver id axis index bytes) old frames clash new
AnswersFrame digest may_want (Proof id proof) old frames clash new =
    AnswersPut digest may_want (Proof id proof) old frames clash new
AnswersFrame digest may_want (Read id) old frames clash new =
    IsReplied (read_reply_of id old.shard.index (parts_at old.shard.contents (named id)))
    frames clash
    × (new ≡ old)
AnswersFrame digest may_want (Symbol id axis index) old frames clash new =
    (payloads : List (List ℕ))
    × SymbolReplies digest id old.shard.index
    (parts_at old.shard.contents (named id)) axis index payloads
    × IsReplied payloads frames clash × (new ≡ old)
AnswersFrame digest may_want (Ack id) old frames clash new =
    AnswersEntry (Vouched Holds old (named id)) old frames clash new
AnswersFrame digest may_want (Attest id) old frames clash new =
    AnswersEntry (Vouched Denies old (named id)) old frames clash new
AnswersFrame digest may_want (Forget id) old frames clash new =
    AnswersForget (named id) old frames clash new
AnswersFrame digest may_want (RegisterEntry id until) old frames clash new =
    AnswersEntry (Registered old.ledger (named id) until) old frames clash new
AnswersFrame digest may_want (AckEntry shard id) old frames clash new =
    AnswersEntry (Entered Holds old.ledger shard (named id)) old frames clash new
AnswersFrame digest may_want (AttestEntry shard id) old frames clash new =
    AnswersEntry (Entered Denies old.ledger shard (named id)) old frames clash new
AnswersFrame digest may_want (Opening id axis index opening) old frames clash new =
    IsReplyOutcome (Ok no_request) frames clash × (new ≡ old)
AnswersFrame digest may_want (Answer code first second) old frames clash new =
    IsReplyOutcome (Ok no_request) frames clash × (new ≡ old)
AnswersFrame digest may_want (Clash left right) old frames clash new =
    IsReplyOutcome (Ok no_request) frames clash × (new ≡ old)

-- the answer to what is read in a payload
abbrev pub AnswersRead : (List ℕ → List ℕ) → Bool → Result Frame FrameError → ServedState
    → List (List ℕ) → Option MetaClash → ServedState → Type 0
AnswersRead digest may_want (Ok frame) old frames clash new =
    AnswersFrame digest may_want frame old frames clash new
AnswersRead digest may_want (Err fault) old frames clash new =
    IsReplyOutcome (Ok (malformed fault)) frames clash × (new ≡ old)

-- the answer to a payload; a keep that may want memory may say so instead of storing or of refusing
-- for want of room
abbrev pub AnswersRequest : (List ℕ → List ℕ) → Bool → ServedState → List ℕ → List (List ℕ)
    → Option MetaClash → ServedState → Type 0
AnswersRequest digest may_want old payload frames clash new =
    AnswersRead digest may_want (read_of payload) old frames clash new
