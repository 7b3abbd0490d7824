-- What serves private functions and proofs beside Held.
use Rattle.std.specs.Prelude.{◌≡◌, ℕ, Option, List, [], ◌∷◌, ◌++◌, length}
use Rattle.wal_store.specs.Contents.{Contents}
use Rattle.wal_store.specs.Calls.{Call, no_contents, after_calls, IsLawfulCall}
use Rattle.wal_journal.specs.Record.{spelling, IsWholeRecord, records, Accepts}
use Rattle.wal_journal.specs.Reading.{HadRoomForPuts}

-- a change that is ready to be written behind those that are accepted
pub record IsReady (now : List ℕ) (tail : ℕ) (text : List ℕ)
    (changes : List Call) (call : Call) : Type 0 where
  pub accepts : Accepts now changes
  pub at : length (records changes) ≡ tail
  pub whole : IsWholeRecord call
  pub lawful : IsLawfulCall (after_calls no_contents changes) call
  -- its record without the gate, and a gate that is closed
  pub text_is : text ≡ spelling call ++ 0 ∷ []

-- some change is ready, and the keep holds what it makes
abbrev pub WithOne : List ℕ → ℕ → List ℕ → Contents → Type 0
WithOne now tail text contents =
    (changes : List Call) × (call : Call) × IsReady now tail text changes call
    × (contents ≡ after_calls no_contents (changes ++ call ∷ []))

-- the disk accepts some changes, and an empty keep of this limit has room for them
abbrev pub FitsSome : List ℕ → Option ℕ → Type 0
FitsSome now limit =
    (changes : List Call) × Accepts now changes × HadRoomForPuts limit no_contents changes

-- some change is ready, and an empty keep of this limit has room for it behind those before it
abbrev pub FitsWithOne : List ℕ → ℕ → List ℕ → Option ℕ → Type 0
FitsWithOne now tail text limit =
    (changes : List Call) × (call : Call) × IsReady now tail text changes call
    × HadRoomForPuts limit no_contents (changes ++ call ∷ [])
