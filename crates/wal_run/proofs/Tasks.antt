-- The numbers of a task are in their range, and the command of a task has one result for an input.
use Rattle.wal_run.proofs.Common.{ℕ, ◌≤◌, List, Option, Some, None, arith, Task, Read, Sample, Serve, Whole, Challenge, Check, Encode, Identify, Image, Recover, Replay, Unpack, Bundle, Member, Verify, Gateway, HasNumber, IsTask, TakesInput, bare, nothing, command_of, whole_command}
use Rattle.wal_words.specs.Task.{IsRow}
use Rattle.wal_words.specs.declared.task.WholeTask.{WholeTask}
use Rattle.wal_run.specs.inside.Commands.{IsInRange, IsWholeInRange}
use Rattle.wal_run.proofs.Blobs.{encoded, identified}
use Rattle.wal_run.proofs.Challenges.{challenged_once}
use Rattle.wal_run.proofs.Checks.{checked_once}
use Rattle.wal_run.proofs.CommandLaws.{Determined}
use Rattle.wal_run.proofs.Fetches.{fetched_once}
use Rattle.wal_run.proofs.ImageLaws.{imaged_once}
use Rattle.wal_run.proofs.ListingLaws.{unpacked_once}
use Rattle.wal_run.proofs.Members.{bundled_once, unbundled_once}
use Rattle.wal_run.proofs.Readings.{read_once}
use Rattle.wal_run.proofs.Recoveries.{recovered_once}
use Rattle.wal_run.proofs.Replays.{replayed_once}
use Rattle.wal_run.proofs.Samples.{sampled_once}
use Rattle.wal_run.proofs.Verifications.{verified_once}

-- an option's number is in its range, whether it is given or not
chosen : (missing least most : ℕ) (given : Option (List ℕ)) (n : ℕ) → least ≤ missing → missing ≤ most → HasNumber missing least most given n → (least ≤ n) × (n ≤ most)
chosen missing least most None n above below is = (omega (arith, above, is), omega (arith, below, is))
chosen missing least most (Some word) n above below is = (is.1, is.2)

-- the numbers of a task that words ask for are in range
pub in_range : (words : List (List ℕ)) (task : Task) → IsTask words task → IsInRange task
in_range words task asked =
    let options = asked.asks.options in
    by _ task asked.asks.row
    (chosen 1024 1 65536 _ options.blobs (omega arith) (omega arith) asked.asks.has_options.blob_count)
    (chosen 16384 1 262144 _ options.pages (omega arith) (omega arith) asked.asks.has_options.page_count)
  where
    by : (values : List (List ℕ)) (t : Task) → IsRow asked.asks.options values t
        → (1 ≤ asked.asks.options.blobs) × (asked.asks.options.blobs ≤ 65536)
        → (1 ≤ asked.asks.options.pages) × (asked.asks.options.pages ≤ 262144) → IsInRange t
    by values t row blobs pages = grind arith

-- a command that takes its whole input at once takes one
pub whole_takes : (digest : List ℕ → List ℕ) (task : WholeTask) → TakesInput (whole_command digest task).grammar
whole_takes digest Replay = tt
whole_takes digest task = tt

-- EACH COMMAND has one result for an input
whole_once : (digest : List ℕ → List ℕ) (task : WholeTask) → IsWholeInRange task → Determined digest (whole_command digest task)
whole_once digest (Identify f format) range = identified digest f format
whole_once digest (Encode f format) range = encoded digest f format range.1
whole_once digest (Recover id axis index) range = recovered_once digest id axis index
whole_once digest (Check id) range = checked_once digest id
whole_once digest Replay range = replayed_once digest
whole_once digest (Image size) range = imaged_once digest size
whole_once digest Unpack range = unpacked_once digest
whole_once digest (Bundle f) range = bundled_once digest f
whole_once digest (Member id k) range = unbundled_once digest id k
whole_once digest (Challenge audit) range = challenged_once digest audit
whole_once digest (Verify audit) range = verified_once digest audit
whole_once digest (Gateway capacity) range = fetched_once digest capacity

bare_once : (digest : List ℕ → List ℕ) → Determined digest (bare 0 nothing)
bare_once digest input content spells s x t y told other = grind arith

-- each task in range has one result
pub determined : (digest : List ℕ → List ℕ) (task : Task) → IsInRange task → Determined digest (command_of digest task)
determined digest (Whole task) range = whole_once digest task range
determined digest (Read id) range = read_once digest id
determined digest (Sample number) range = sampled_once digest number
determined digest (Serve service) range = bare_once digest
