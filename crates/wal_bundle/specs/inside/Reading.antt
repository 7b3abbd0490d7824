-- Reading the index of a bundle.
use Rattle.std.specs.Prelude.{ℕ, ◌+◌, ◌*◌, List, take, drop, map}
use Rattle.std.specs.Int.{w32, from_be_bytes}
use Rattle.std.specs.List.{range_with_len}
use Rattle.wal_bundle.specs.declared.reading.IndexAnswer.{IndexAnswer}
use Rattle.wal_bundle.specs.declared.reading.IndexAnswer.TheVariants.{Bad, Lengths, Missing}
use Rattle.wal_bundle.specs.Member.{HasBadIndex, HasIndex, MissesColumn}

-- the length in entry k of an index
unfoldable pub spelled_length : List ℕ → ℕ → ℕ
spelled_length index k = from_be_bytes w32 (take 4 (drop (4 + 6 * k) index))

-- the lengths in its first entries
unfoldable pub spelled_lengths : List ℕ → ℕ → List ℕ
spelled_lengths index count = map (spelled_length index) (range_with_len 0 count)

-- what the columns of the index tell, whichever member is asked for
abbrev pub TellsIndex : (ℕ → List ℕ → Type 0) → ℕ → ℕ → IndexAnswer → Type 0
TellsIndex Column f cell_size (Missing j) = (k : ℕ) → MissesColumn Column f cell_size k j
TellsIndex Column f cell_size Bad = HasBadIndex Column f cell_size
TellsIndex Column f cell_size (Lengths lengths) = HasIndex Column f cell_size lengths.items
