-- What a shard writes in answer to requests.
use Rattle.std.specs.Prelude.{◌≡◌, ℕ, ◌+◌, ◌*◌, List, length}
use Rattle.std.specs.List.{flat_map}
use Rattle.wal_shape.specs.Shape.{shard_count, column_count, symbol_size, most_bytes}
use Rattle.wal_frame.specs.Buffer.{Buffer, appended}
use Rattle.wal_frame.specs.Frame.{envelope}

-- these payloads were written, each in an envelope from this sender, and `count` is their number
pub record WritesReply (sender : ℕ) (old : Buffer)
    (payloads : List (List ℕ)) (count : ℕ) (new : Buffer) : Type 0 where
  pub written : new ≡ appended old (flat_map (envelope sender) payloads)
  pub counted : count ≡ length payloads

-- the room for the longest sliver of a shard, in an envelope
abbrev pub sliver_room : ℕ → ℕ
sliver_room f = 47 + column_count f * symbol_size f most_bytes

-- the room for the longest reply of a shard: metadata, a sliver and a proof, each in an envelope,
-- for the longest blob
abbrev pub room_of : ℕ → ℕ
room_of f = 111 + 64 * shard_count f + column_count f * (2 * symbol_size f most_bytes + 327)
