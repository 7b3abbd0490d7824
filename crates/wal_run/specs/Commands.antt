-- The command of each task, and the line that says which commands there are.
use Rattle.std.specs.Prelude.{ℕ, List, codes}
use Rattle.wal_words.specs.declared.task.Task.{Task}
use Rattle.wal_words.specs.declared.task.Task.TheVariants.{Whole, Read, Serve, Sample}
use Rattle.wal_words.specs.declared.task.WholeTask.{WholeTask}
use Rattle.wal_words.specs.declared.task.WholeTask.TheVariants.{Identify, Encode, Recover, Check}
use Rattle.wal_words.specs.declared.task.WholeTask.TheVariants.{Replay, Image, Unpack, Bundle}
use Rattle.wal_words.specs.declared.task.WholeTask.TheVariants.{Member, Challenge, Verify, Gateway}
use Rattle.wal_run.specs.Command.{Command, bare, nothing}
use Rattle.wal_run.specs.Bundling.{bundling}
use Rattle.wal_run.specs.Challenging.{challenging}
use Rattle.wal_run.specs.Checking.{checking}
use Rattle.wal_run.specs.Encoding.{encoding}
use Rattle.wal_run.specs.Fetching.{fetching}
use Rattle.wal_run.specs.Identifying.{identifying}
use Rattle.wal_run.specs.Imaging.{imaging}
use Rattle.wal_run.specs.Reading.{reading}
use Rattle.wal_run.specs.Recovering.{recovering}
use Rattle.wal_run.specs.Replaying.{replaying}
use Rattle.wal_run.specs.Sampling.{sampling}
use Rattle.wal_run.specs.Unbundling.{unbundling}
use Rattle.wal_run.specs.Unpacking.{unpacking}
use Rattle.wal_run.specs.Verifying.{verifying}

-- the command of a task that takes its whole input at once
abbrev pub whole_command : (List ℕ → List ℕ) → WholeTask → Command
whole_command digest (Identify f format) = identifying digest f format
whole_command digest (Encode f format) = encoding digest f format
whole_command digest (Recover id axis index) = recovering digest id axis index
whole_command digest (Check id) = checking digest id
whole_command digest Replay = replaying digest
whole_command digest (Image size) = imaging digest size
whole_command digest Unpack = unpacking
whole_command digest (Bundle f) = bundling f
whole_command digest (Member id k) = unbundling digest id k
whole_command digest (Challenge audit) = challenging digest audit
whole_command digest (Verify audit) = verifying digest audit
whole_command digest (Gateway capacity) = fetching digest capacity

-- the command of any task: one that serves has no result for a whole input
abbrev pub command_of : (List ℕ → List ℕ) → Task → Command
command_of digest (Whole task) = whole_command digest task
command_of digest (Read id) = reading digest id
command_of digest (Sample number) = sampling digest number
command_of digest (Serve service) = bare 0 nothing

-- the line that says which commands there are
abbrev pub usage_text : List ℕ
usage_text =
    codes "usage: walrus id F | encode F | read ID | recover ID AXIS INDEX | check ID | serve F SHARD | replay | sample NUMBER | image BYTES | unpack | bundle F | member ID K | challenge ID SHARD BEACON COUNT | verify ID SHARD BEACON COUNT | gateway CAPACITY\n"
