-- Reading an opening body from left to right, with the first fault that is met.
use Rattle.std.specs.Prelude.{ℕ, ◌+◌, ◌*◌, List, drop, Result, Ok}
use Rattle.std.specs.Int.{w8, w16, w32}
use Rattle.wal_shape.specs.declared.opening.Opening.{Opening}
use Rattle.wal_shape.specs.declared.body.BodyRef.{BodyRef}
use Rattle.wal_shape.specs.declared.body.BodyFault.{BodyFault}
use Rattle.wal_shape.specs.Shape.{most_bytes}
use Rattle.wal_shape.specs.Opening.{opening_shown}
use Rattle.wal_shape.specs.FieldReading.{◌>>=◌, number_at, run_at}

-- what a reference shows of the bytes that it was read from: the opening, and the bytes after its
-- body
abbrev pub body_seen : List ℕ → BodyRef → Opening × List ℕ
body_seen bytes body = (opening_shown body.opening, drop body.size bytes)

-- the opening that the bytes begin with, and the bytes after its body
unfoldable pub body_at : List ℕ → Result (Opening × List ℕ) BodyFault
body_at bytes = do
  cross ← number_at w16 0 999 bytes
  size ← number_at w32 2 most_bytes cross.1
  symbol ← run_at size.0 size.1
  count ← number_at w8 (6 + size.0) 10 symbol.1
  path ← run_at (32 * count.0) count.1
  Ok (record { cross = cross.0; symbol = symbol.0; path = path.0 }, path.1)
