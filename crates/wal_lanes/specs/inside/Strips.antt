-- Texts that are hashed strip by strip: a prefix byte and a piece each, eight texts to a group.
use Rattle.std.specs.Prelude.{◌≡◌, ℕ, ◌+◌, ◌*◌, ◌/◌, ◌<◌, List, ◌∷◌, drop, slice_get, slice_index}
use Rattle.std.specs.Prelude.{Some}
use Rattle.sha2.specs.Sha256.{hash_after, initial_hash_256, padded_message}
use Rattle.wal_lanes.specs.declared.strips.Group.{Group}
use Rattle.wal_lanes.specs.inside.Lanes.{lane}

-- lane k of the group has taken `seen` bytes of the piece: its hash value is that after the text's
-- blocks before the last of these bytes, and that byte begins the next block
pub record HasTaken (prefix : ℕ) (piece : List ℕ) (seen k : ℕ) (group : Group) : Type 0 where
  pub hash : lane group.state k
      ≡ hash_after initial_hash_256 (padded_message (prefix ∷ piece)) (seen / 64)
  pub next : drop seen (prefix ∷ piece) ≡ slice_index group.last k ∷ drop seen piece

-- the lanes of the groups, eight to a group, have taken `seen` bytes of the pieces, one to a lane
abbrev pub HaveTaken : ℕ → (ℕ → List ℕ → Type 0) → ℕ → ℕ → List Group → Type 0
HaveTaken prefix Has count seen groups =
    (place k : ℕ) → k < 8 → 8 * place + k < count → (piece : List ℕ) → Has (8 * place + k) piece
    → (group : Group) → slice_get groups place ≡ Some group → HasTaken prefix piece seen k group
