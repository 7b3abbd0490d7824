-- What serves private functions and proofs beside Saying.
use Rattle.std.specs.Prelude.{◌≡◌, ℕ, ◌≤◌, List, [], ◌∷◌, ◌++◌, length}
use Rattle.wal_frame.specs.Buffer.{Buffer, appended}
use Rattle.wal_serve.specs.Reply.{done, reply_text}
use Rattle.wal_serve.specs.Saying.{sent}

-- these frames were written in envelopes from this shard, and there was room for them
pub record Says (own : ℕ) (old : Buffer) (frames : List (List ℕ)) (new : Buffer) : Type 0 where
  pub written : new ≡ appended old (sent own frames)
  pub fits : length (sent own frames) ≤ old.spare

-- these frames were written so, and then their number
abbrev pub SaysReplied : ℕ → Buffer → List (List ℕ) → Buffer → Type 0
SaysReplied own old payloads new =
    Says own old (payloads ++ reply_text (done (length payloads)) ∷ []) new
