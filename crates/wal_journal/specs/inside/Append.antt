-- What a crash leaves while a record is written.
use Rattle.std.specs.Prelude.{ℕ, ◌+◌, ◌⊎◌, List, [], ◌∷◌, length}
use Rattle.wal_journal.specs.Disk.{Agrees, put_at}

-- the old bytes but for those behind the gate, or with the text written there but for the gate
abbrev pub BeforeGate : ℕ → List ℕ → List ℕ → List ℕ → Type 0
BeforeGate tail text old image =
    Agrees ((tail + 1, length text) ∷ []) old image
    ⊎ Agrees ((tail, 1) ∷ []) (put_at (tail + 1) text old) image
