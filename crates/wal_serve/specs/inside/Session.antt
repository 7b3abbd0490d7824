-- What a session serves, what it answers, and what it leaves as it was.
use Rattle.std.specs.Prelude.{◌≡◌, ℕ, List, [], ◌∷◌, Option, Result}
use Rattle.wal_shape.specs.declared.text.MetaClash.{MetaClash}
use Rattle.wal_frame.specs.Buffer.{Buffer}
use Rattle.wal_store.specs.declared.contract.Keep as keep
use Rattle.wal_tree.specs.declared.hash.Hash32 as hash
use Rattle.wal_serve.specs.declared.reply.Reply.{Reply}
use Rattle.wal_serve.specs.declared.session.Session.{Session}
use Rattle.wal_serve.specs.State.{ServedState, SamePlace, state_of}
use Rattle.wal_serve.specs.Reply.{outcome_text, clash_in}
use Rattle.wal_serve.specs.inside.Saying.{Says}

-- the answer to one payload: the state before, the frames, the two texts if they end serving, and
-- the state after
abbrev pub Row : Type 1
Row = ServedState → List (List ℕ) → Option MetaClash → ServedState → Type 0

module _ {H K : Type 0} {h : hash.Ghosts H} {k : keep.Ghosts K} where
  -- the shard of a session, and the ledger beside it
  abbrev pub served : Session H K h k → ServedState
  served session = state_of session.shard.now session.state.now

  -- the answer is one frame, that of this outcome
  abbrev pub Gives : Row → Session H K h k → Result Reply MetaClash → Session H K h k → Type 0
  Gives Answer old outcome new =
      Answer (served old) (outcome_text outcome ∷ []) (clash_in outcome) (served new)

  -- the frames of the answer are written in envelopes from the shard
  abbrev pub Answers : Row → Session H K h k → Buffer → Option MetaClash → Session H K h k → Buffer
      → Type 0
  Answers Answer old out clash new then = (frames : List (List ℕ))
      × Answer (served old) frames clash (served new) × Says old.shard.now.index out frames then

  -- the session is over the same shard, ledger and memory; the shard keeps its place, and the
  -- faulty shards are the same
  pub record Stays (old new : Session H K h k) : Type 0 where
    pub shard : new.shard.ghost_name ≡ old.shard.ghost_name
    pub state : new.state.ghost_name ≡ old.state.ghost_name
    pub work : new.work.ghost_name ≡ old.work.ghost_name
    pub place : SamePlace old.shard.now new.shard.now
    pub faulty : new.state.now.faulty ≡ old.state.now.faulty
