-- What a step and a run determine: all but the two texts of a collision.
use Rattle.std.specs.Prelude.{◌≡◌, ◌⊎◌, true, false, List, [], ◌∷◌, ◌++◌}
use Rattle.wal_event.specs.declared.line.Line.{Line}
use Rattle.wal_protocol.specs.State.{World}
use Rattle.wal_protocol.specs.Run.{is_collision}

-- one line; the texts of two collisions are not compared
abbrev pub SameLine : Line → Line → Type 0
SameLine first second =
    (is_collision first ≡ is_collision second) × (is_collision first ≡ false → first ≡ second)

-- and one state
abbrev pub SameStep : Line → Line → World → World → Type 0
SameStep first second new other_world = SameLine first second × (new ≡ other_world)

-- the same lines up to a collision, which is the last line of both
pub record SameUpToCollision (xs ys : List Line) : Type 0 where
  pub front : List Line
  pub one : Line
  pub other : Line
  pub ends : xs ≡ front ++ one ∷ []
  pub ends_too : ys ≡ front ++ other ∷ []
  pub collides : is_collision one ≡ true
  pub collides_too : is_collision other ≡ true

-- one list of lines; the two texts of a collision at its end may differ
abbrev pub SameLines : List Line → List Line → Type 0
SameLines xs ys = (xs ≡ ys) ⊎ SameUpToCollision xs ys
