-- What serves private functions and proofs beside Journal.
use Rattle.std.specs.Prelude.{◌≡◌, ℕ, ◌+◌, List, [], ◌∷◌, ◌++◌, length, get_or}
use Rattle.wal_store.specs.Calls.{Call}
use Rattle.wal_port.specs.Faults.{Rose}
use Rattle.wal_journal.specs.declared.journal.Journal.{Journal}
use Rattle.wal_journal.specs.declared.journal.ChangeRefusal.{ChangeRefusal}
use Rattle.wal_journal.specs.declared.journal.ChangeRefusal.TheVariants.{Kept, Stopped}
use Rattle.wal_journal.specs.Record.{Accepts, EitherWay}
use Rattle.wal_journal.specs.Disk.{Agrees}
use Rattle.wal_journal.specs.inside.Held.{IsReady}

-- the disk failed while a record was written; the text is the record's, with the gate behind it
pub record IsTorn {D K : Type 0} (now : D → List ℕ) (faults : D → ℕ) (old : D)
    (at : ℕ) (text : List ℕ) (keep : K) (new : D) (same : K) : Type 0 where
  pub rose : Rose (faults old) (faults new)
  pub only : Agrees ((at, 1 + length text) ∷ []) (now old) (now new)
  pub leaves : (changes : List Call) (call : Call) → IsReady (now old) at text changes call
      → EitherWay changes call (now new)
  pub kept : same ≡ keep

-- a change stopped, because the disk failed
abbrev pub IsStopped : {D K : Type 0} {disk_ghosts : _} {keep_ghosts : _} → (D → List ℕ) → (D → ℕ)
    → D → ℕ → List ℕ → K
    → ChangeRefusal D K disk_ghosts keep_ghosts → Type 0
IsStopped now faults old at text keep (Kept journal why) = ⊥
IsStopped now faults old at text keep (Stopped disk same) =
    IsTorn now faults old at text keep disk same

-- the record of a change was written, whose text includes the gate behind it: the disk, this keep
-- and the tail afterwards
pub record IsWritten {D K : Type 0} {disk_ghosts : _}
    {keep_ghosts : _} (now : D → List ℕ) (old : List ℕ)
    (at : ℕ) (text : List ℕ) (keep : K) (new : Journal D K disk_ghosts keep_ghosts) : Type 0 where
  pub kept : new.keep ≡ keep
  pub tail : new.tail ≡ at + length text
  pub size : length (now new.disk) ≡ length old
  pub only : Agrees ((at, 1 + length text) ∷ []) old (now new.disk)
  pub accepts : (changes : List Call) (call : Call) → IsReady old at text changes call
      → Accepts (now new.disk) (changes ++ call ∷ [])
  pub gate : (front : List ℕ) → text ≡ front ++ 0 ∷ [] → get_or (now new.disk) new.tail 0 ≡ 0
