-- Taking bytes from a source, of which only so many may be taken.
use Rattle.std.specs.Prelude.{◌≡◌, ℕ, ◌<◌, ◌≤◌, List, [], ◌∷◌, ◌++◌, length, Option}
use Rattle.std.specs.Io.KnownBytes.{Consumes, IsAtEnd}
use Rattle.wal_serve.specs.declared.taking.Took.{Took}
use Rattle.wal_serve.specs.declared.taking.Took.TheVariants.{Whole, Ended, TooLong, Failed}

-- how taking `size` bytes ended, if at most `most` may be taken, and the bytes that the source
-- lost: they were taken whole; the source ended before; it had one byte more than may be taken; or
-- a read failed
pub data Takes (left after : Option (List ℕ)) (Rose : Type 0) (size most : ℕ) : Took → List ℕ
    → Type 0 where
  whole : (got : List ℕ) → Consumes left after got → length got ≡ size → size ≤ most
      → Takes left after Rose size most Whole got
  ended : (got : List ℕ) → Consumes left after got → length got < size → length got ≤ most
      → IsAtEnd after → Takes left after Rose size most Ended got
  too_long : (got : List ℕ) (byte : ℕ) → Consumes left after (got ++ byte ∷ [])
      → length got < size
      → length got ≡ most → Takes left after Rose size most TooLong (got ++ byte ∷ [])
  failed : (got : List ℕ) → Consumes left after got → length got < size → length got ≤ most → Rose
      → Takes left after Rose size most Failed got
