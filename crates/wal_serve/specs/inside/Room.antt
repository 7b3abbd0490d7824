-- What serves private functions and proofs beside Room.
use Rattle.std.specs.Prelude.{ℕ, ◌+◌, length}
use Rattle.wal_frame.specs.Buffer.{Buffer}
use Rattle.wal_shard.specs.Replying.{room_of}

-- the room for the longest answer: a reply of the shard, and the number of its frames in an
-- envelope
abbrev pub answer_room : ℕ → ℕ
answer_room f = room_of f + 17

-- the room of a buffer, for what was written and for what may follow
abbrev pub room_in : Buffer → ℕ
room_in buffer = buffer.spare + length buffer.bytes
