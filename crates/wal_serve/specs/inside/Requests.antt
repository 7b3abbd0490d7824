-- What serves private functions and proofs beside Requests.
use Rattle.std.specs.Prelude.{⊤}
use Rattle.wal_frame.specs.Frame.{Frame, Opening, Answer, Clash}

-- the frames that are no requests
abbrev pub IsNoRequest : Frame → Type 0
IsNoRequest (Opening id axis index opening) = ⊤
IsNoRequest (Answer code first second) = ⊤
IsNoRequest (Clash left right) = ⊤
IsNoRequest _ = ⊥
