-- A buffer of a fixed size, into which frames are written.
use Rattle.std.specs.Prelude.{ℕ, ◌-◌, List, ◌++◌, length}

-- the bytes that were written, and the number of bytes for which room is left
pub record Buffer : Type 0 where
  pub bytes : List ℕ
  pub spare : ℕ

-- the buffer after a text was appended
abbrev pub appended : Buffer → List ℕ → Buffer
appended buffer text = record { bytes = buffer.bytes ++ text; spare = buffer.spare - length text }
