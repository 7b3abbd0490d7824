-- What a shard that serves does, as what a correct shard of a network does.
use Rattle.std.specs.Prelude.{◌≡◌, ◌⊎◌, ℕ, Bool, true, List, [], ◌∷◌, Option, Some, None, Ok}
use Rattle.wal_shape.specs.declared.metadata.BlobId.{BlobId}
use Rattle.wal_shape.specs.declared.text.MetaClash.{MetaClash}
use Rattle.wal_tree.specs.Collision.{IsCollision}
use Rattle.wal_frame.specs.Frame.{Frame, Metadata, Sliver, Proof, Read, Ack, Attest, Forget}
use Rattle.wal_frame.specs.Reading.{read_of}
use Rattle.wal_event.specs.declared.line.Line.{Line}
use Rattle.wal_ledger.specs.declared.entry.Kind.{Kind}
use Rattle.wal_ledger.specs.declared.entry.Kind.TheVariants.{Holds, Denies}
use Rattle.wal_ledger.specs.Answers.{IsOpen, claim_of}
use Rattle.wal_ledger.specs.Ledger.{takes_in}
use Rattle.wal_store.specs.Contents.{parts_at}
use Rattle.wal_shard.specs.Vouching.{backs}
use Rattle.wal_serve.specs.State.{ServedState, named}
use Rattle.wal_serve.specs.Reply.{clash_text}
use Rattle.wal_serve.specs.Answers.{AnswersRequest, IsReplied}
use Rattle.wal_theorem.specs.Instance.{rules_of}
use Rattle.wal_served.specs.Steps.{IsTold, LacksRoom, answer_text}
use Rattle.wal_network.specs.Deeds.{Deed, put, forget, Acts}

-- the shard does a deed by its ledger and what it holds, which changes no ledger, and answers by
-- the frame that belongs to its line
pub record DoesDeed (digest : List ℕ → List ℕ) (old : ServedState) (deed : Deed)
    (frames : List (List ℕ)) (new : ServedState) : Type 0 where
  pub said : Line
  pub acts : Acts (rules_of digest old.shard.f) old.ledger.log old.shard.index old.shard.contents
      deed said new.shard.contents
  pub told : IsTold said frames
  pub ledger : new.ledger ≡ old.ledger

-- it does so and goes on, or there is no room and nothing changes, or nothing changes and two texts
-- with one digest, which it tells, end serving
pub data EndsAsDeed (digest : List ℕ → List ℕ) (old : ServedState) (deed : Deed)
    (frames : List (List ℕ)) (clash : Option MetaClash) (new : ServedState)
    : Type 0 where
  does : DoesDeed digest old deed frames new → clash ≡ None
      → EndsAsDeed digest old deed frames clash new
  lacks : LacksRoom old frames clash new → EndsAsDeed digest old deed frames clash new
  stops : (texts : MetaClash) → IsCollision digest texts.left texts.right
      → frames ≡ clash_text texts ∷ [] → clash ≡ Some texts → new ≡ old
      → EndsAsDeed digest old deed frames clash new

-- the answers by which a shard refuses a claim: the blob is not registered, the shard does not hold
-- what backs it, or the blob ends with the epoch
abbrev pub RefusesClaim : ℕ → Type 0
RefusesClaim code = (code ≡ 1) ⊎ ((code ≡ 5) ⊎ (code ≡ 8))

-- the shard is as it was, and the ledger too, or the ledger has the shard's claim more
abbrev pub AddsClaim : Kind → ServedState → BlobId → ServedState → Type 0
AddsClaim kind old id new =
    (new.shard ≡ old.shard)
    × ((new.ledger ≡ old.ledger)
    ⊎ (new.ledger ≡ takes_in old.ledger (claim_of kind old.shard.index id)))

-- a claim is refused and nothing changes, or the blob is open, what the shard holds backs it, and
-- nothing changes but for the claim
abbrev pub ClaimsBacked : Kind → ServedState → BlobId → List (List ℕ) → ServedState → Type 0
ClaimsBacked kind old id frames new =
    (IsOpen old.ledger.log id × (backs kind (parts_at old.shard.contents id) ≡ true)
    × AddsClaim kind old id new)
    ⊎ ((code : ℕ) × RefusesClaim code × (frames ≡ answer_text code 0 0 ∷ []) × (new ≡ old))

-- what is done by a frame that a payload spells: what is put and forgotten are deeds, a claim is
-- backed, and a reader gets what a shard of a network replies
abbrev pub ServesAsShard : (List ℕ → List ℕ) → ServedState → List ℕ → Frame → List (List ℕ)
    → Option MetaClash → ServedState → Type 0
ServesAsShard digest old payload (Metadata metadata) frames clash new =
    EndsAsDeed digest old (put payload) frames clash new
ServesAsShard digest old payload (Sliver id axis index bytes) frames clash new =
    EndsAsDeed digest old (put payload) frames clash new
ServesAsShard digest old payload (Proof id proof) frames clash new =
    EndsAsDeed digest old (put payload) frames clash new
ServesAsShard digest old payload (Forget id) frames clash new =
    EndsAsDeed digest old (forget (named id)) frames clash new
ServesAsShard digest old payload (Ack id) frames clash new =
    ClaimsBacked Holds old (named id) frames new × (clash ≡ None)
ServesAsShard digest old payload (Attest id) frames clash new =
    ClaimsBacked Denies old (named id) frames new × (clash ≡ None)
ServesAsShard digest old payload (Read id) frames clash new =
    IsReplied
    ((rules_of digest old.shard.f).read_reply (named id) old.shard.index
    (parts_at old.shard.contents (named id)))
    frames clash
    × (new ≡ old)
ServesAsShard digest old payload _ frames clash new = Unit {0}

-- EVERY DEED: whatever the ledger and its owners, and whatever the shard holds
abbrev pub EveryDeed : (List ℕ → List ℕ) → Type 0
EveryDeed digest =
    (may_want : Bool) (old : ServedState) (payload : List ℕ) (frame : Frame)
    (frames : List (List ℕ)) (clash : Option MetaClash) (new : ServedState)
    → read_of payload ≡ Ok frame → AnswersRequest digest may_want old payload frames clash new
    → ServesAsShard digest old payload frame frames clash new
