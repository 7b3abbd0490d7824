-- What is true of every ledger, and what its fields keep.
use Rattle.std.specs.Prelude.{◌≡◌, ℕ, ◌+◌, ◌<◌, ◌≤◌, true, cond, List, [], ◌∷◌, ◌++◌, length, All}
use Rattle.std.specs.Prelude.{⊤}
use Rattle.wal_shape.specs.Owners.{are_owners}
use Rattle.wal_ledger.specs.declared.entry.Body.{Body}
use Rattle.wal_ledger.specs.declared.entry.Body.TheVariants.{Ack, Attest, Ready, Begin}
use Rattle.wal_ledger.specs.Shards.{committee_size}
use Rattle.wal_ledger.specs.Ledger.{Log, phase, phase_in, reading, writing, is_moving, owners_at}
use Rattle.wal_ledger.specs.Within.{IsWithin}
use Rattle.wal_ledger.specs.Handover.{IsMadeSince, IsDated}

-- the shard that makes an entry, if one does, is of the committee of n shards, and owners that a
-- Begin brings are owners of n shards
abbrev pub IsOfCommittee : ℕ → Body → Type 0
IsOfCommittee n (Ack shard id) = shard < n
IsOfCommittee n (Attest shard id) = shard < n
IsOfCommittee n (Ready shard) = shard < n
IsOfCommittee n (Begin owners) = are_owners n owners ≡ true
IsOfCommittee n _ = ⊤

-- the last Begin brought one more list of owners
abbrev pub HasBrought : Log → Type 0
HasBrought log =
    (next : List ℕ) × ((phase log).brought ≡ (phase_in (phase log).before).brought ++ next ∷ [])

-- a fit number of faults, owners of the first committee, epochs that fit, changes of epochs one
-- after the other, each with its owners, entries of the epochs that have been, none of them beyond
-- the writing epoch, and those after the last Begin all of the writing epoch; while the epoch
-- changes, those before the last Begin of earlier ones; and entries by shards of the committee
pub record IsLawful (log : Log) : Type 0 where
  pub some_faults : 1 ≤ log.f
  pub few_faults : log.f ≤ 333
  pub owned : are_owners (committee_size log.f) log.owners ≡ true
  pub last : writing log ≤ 65535
  pub turns : length (phase log).brought ≡ (phase log).finishes + cond (is_moving log) 1 0
  pub paused : is_moving log ≡ true → (phase_in (phase log).before).finishes ≡ (phase log).finishes
  pub brings : is_moving log ≡ true → HasBrought log
  pub within : All (IsWithin log.first (writing log)) log.entries
  pub none_ahead : All (λ entry. entry.epoch ≤ writing log) log.entries
  pub since_begin : All (IsMadeSince (writing log)) (phase log).since
  pub dated : is_moving log ≡ true → IsDated log
  pub members : All (λ entry. IsOfCommittee (committee_size log.f) entry.body) log.entries

-- what every call that neither begins nor finishes a change of the epoch leaves as it is
pub record SameEpoch (old new : Log) : Type 0 where
  pub f : new.f ≡ old.f
  pub first : new.first ≡ old.first
  pub owners : (epoch : ℕ) → owners_at new epoch ≡ owners_at old epoch
  pub epoch : reading new ≡ reading old
  pub moving : is_moving new ≡ is_moving old
