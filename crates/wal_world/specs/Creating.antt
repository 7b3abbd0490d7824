-- The first network.
use Rattle.std.specs.Prelude.{ℕ, List, []}
use Rattle.wal_shape.specs.declared.shape.Format.{Format}
use Rattle.wal_protocol.specs.State.{World}
use Rattle.wal_protocol.specs.Run.{first_state}

-- the first state, by its parts
abbrev pub first_of : Format → ℕ → ℕ → List ℕ → List ℕ → World
first_of format f epoch owners faulty = first_state (record {
  f = f;
  epoch = epoch;
  format = format;
  owners = owners;
  faulty = faulty;
  events = [];
})
