-- Openings that have a spelling, and what a reference to one shows.
use Rattle.std.specs.Prelude.{◌≡◌, ◌*◌, ◌%◌, ◌≤◌, length}
use Rattle.wal_shape.specs.declared.opening.Opening.{Opening}
use Rattle.wal_shape.specs.declared.opening.OpeningRef.{OpeningRef}
use Rattle.wal_shape.specs.Shape.{most_bytes}

-- the cross is the index of a sliver, the symbol is no longer than a blob may be, and the path is
-- at most ten whole digests
pub record IsBody (opening : Opening) : Type 0 where
  pub cross : opening.cross ≤ 999
  pub symbol : length opening.symbol ≤ most_bytes
  pub path : length opening.path ≤ 32 * 10
  pub whole : length opening.path % 32 ≡ 0

-- the opening that is lent
abbrev pub opening_shown : OpeningRef → Opening
opening_shown opening =
    record { cross = opening.cross; symbol = opening.symbol.now; path = opening.path.now }
