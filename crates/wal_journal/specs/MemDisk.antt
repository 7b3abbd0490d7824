-- What contracts see of a disk in memory, and what a crash may have left of it.
use Rattle.std.specs.Prelude.{ℕ, ◌*◌, ◌<◌, ◌≤◌, ◌⊎◌, List, [], ◌∷◌, length, take, drop}
use Rattle.std.proofs.Common.{inl, inr, arith}
use Rattle.wal_shape.specs.Shape.{most_bytes}
use Rattle.wal_journal.specs.Disk.{Agrees}
use Rattle.wal_journal.specs.declared.mem_disk.MemDisk.{MemDisk}
use Rattle.wal_journal.specs.declared.mem_disk.Step.{Step}
use Rattle.wal_journal.specs.declared.mem_disk.Step.TheVariants.{Written, Synced}

-- the most bytes that a disk in memory keeps of its past: as many as a blob may have
abbrev pub most_past : ℕ
most_past = most_bytes

-- the bytes that a read gives
abbrev pub disk_bytes : MemDisk → List ℕ
disk_bytes disk = disk.bytes.items

-- the numbers of the calls that fail
abbrev pub disk_fails : MemDisk → List ℕ
disk_fails disk = disk.plan.fails.items

-- the number of the last call that may succeed
abbrev pub disk_most : MemDisk → ℕ
disk_most disk = disk.plan.most

-- how many calls there were, up to 2 ^ 64 - 1
abbrev pub disk_calls : MemDisk → ℕ
disk_calls disk = disk.plan.calls

-- how many of them failed, up to 2 ^ 64 - 1
abbrev pub disk_faults : MemDisk → ℕ
disk_faults disk = disk.plan.faults

-- the ranges that are pending after more steps, the newest first
abbrev pub pending_after : List (ℕ × ℕ) → List Step → List (ℕ × ℕ)
pending_after pending [] = pending
pending_after pending (Written at n ∷ steps) = pending_after ((at, n) ∷ pending) steps
pending_after pending (Synced ∷ steps) = pending_after [] steps

-- the ranges that are pending now
abbrev pub disk_pending : MemDisk → List (ℕ × ℕ)
disk_pending disk = pending_after [] disk.steps.items

-- how many steps there were, each of which wrote or synced
abbrev pub disk_clock : MemDisk → ℕ
disk_clock disk = length disk.steps.items

-- the n bytes that stood before step k
abbrev pub kept_at : ℕ → List ℕ → ℕ → List ℕ
kept_at n past k = take n (drop (k * n) past)

-- what a crash since this time may have left: what it may leave now, or what it might have left
-- before a step from then on
abbrev pub LeftSince : List Step → List ℕ → List ℕ → ℕ → List ℕ → Type 0
LeftSince steps past bytes time image =
    ((time ≤ length steps) × Agrees (pending_after [] steps) bytes image)
    ⊎ ((k : ℕ) × (time ≤ k) × (k < length steps)
    × Agrees (pending_after [] (take k steps)) (kept_at (length bytes) past k) image)

-- what a crash since this moment may have left of a disk in memory
abbrev pub disk_since : MemDisk → ℕ → List ℕ → Type 0
disk_since disk = LeftSince disk.steps.items disk.past.items disk.bytes.items

-- what a crash since a later time might have left, one since an earlier time might have left
pub since_earlier : (steps : List Step) (past bytes : List ℕ) (image : List ℕ) (time later : ℕ)
    → time ≤ later → LeftSince steps past bytes later image → LeftSince steps past bytes time image
since_earlier steps past bytes image time later le (inl now) = inl (omega (arith, le, now.0), now.1)
since_earlier steps past bytes image time later le (inr before) =
    inr (before.0, omega (arith, le, before.1), before.2, before.3)

-- a crash since now leaves what may be left now
pub since_now : (steps : List Step) (past bytes : List ℕ) (image : List ℕ)
    → LeftSince steps past bytes (length steps) image → Agrees (pending_after [] steps) bytes image
since_now steps past bytes image (inl now) = now.1
since_now steps past bytes image (inr before) = absurd (omega (arith, before.1, before.2))
