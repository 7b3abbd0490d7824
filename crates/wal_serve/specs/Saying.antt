-- What is written in answer to a payload.
use Rattle.std.specs.Prelude.{ℕ, List}
use Rattle.std.specs.List.{flat_map}
use Rattle.wal_frame.specs.Frame.{envelope}

-- the frames in envelopes from this shard
abbrev pub sent : ℕ → List (List ℕ) → List ℕ
sent own frames = flat_map (envelope own) frames
