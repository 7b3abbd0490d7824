-- A state of the world: the ledger, what the shards of each committee hold, and the first completed
-- answers.
use Rattle.std.specs.Prelude.{ℕ, Bool, true, cond, not, ◌&&◌, List, [], slice_index_or, slice_set}
use Rattle.std.specs.FinMap as map
use Rattle.wal_shape.specs.declared.metadata.BlobId.{BlobId}
use Rattle.wal_shape.specs.declared.shape.Format.{Format}
use Rattle.wal_shape.specs.declared.axis.Side.{Side}
use Rattle.wal_shape.specs.declared.axis.Side.TheVariants.{Now, Next}
use Rattle.wal_shape.specs.Identifiers.{id_cmp}
use Rattle.wal_shape.specs.Owners.{among}
use Rattle.wal_evidence.specs.declared.evidence.Verdict.{Verdict}
use Rattle.wal_evidence.specs.declared.evidence.Verdict.TheVariants.{Bytes}
use Rattle.wal_store.specs.Parts.{Parts}
use Rattle.wal_store.specs.Contents.{Contents, parts_at}
use Rattle.wal_ledger.specs.Shards.{count_below, committee_size}
use Rattle.wal_ledger.specs.Ledger.{Log, is_moving, reading, writing, home_of}
use Rattle.wal_shard.specs.Holding.{settled}
use Rattle.wal_protocol.specs.declared.first.First.{First}
use Rattle.wal_protocol.specs.declared.first.First.TheVariants.{Judged, Written}

-- one committee: its faulty shards, and what each shard holds, by its number. A faulty shard keeps
-- and says what it likes: nothing stands for it here
pub record Committee : Type 0 where
  pub faulty : List ℕ
  pub shards : List Contents

-- the committee of a side that is absent
abbrev pub nobody : Committee
nobody = record { faulty = []; shards = [] }

-- the format in which blobs are written, the ledger, the committee that serves and the next one,
-- which is nobody while the epoch does not change, whether each committee so far has had at most f
-- faulty shards, and the first completed answer for each blob (`few` is the bound on faulty shards
-- under which `IsSafe` promises that blobs are kept, reads complete and only bad blobs are invalid)
pub record World : Type 0 where
  pub format : Format
  pub log : Log
  pub now : Committee
  pub next : Committee
  pub few : Bool
  pub answers : map.FinMap id_cmp First

-- the committee of a side
abbrev pub side_of : Side → World → Committee
side_of Now world = world.now
side_of Next world = world.next

-- the world with this committee on a side
abbrev pub with_side : Side → World → Committee → World
with_side Now world committee = record world { now = committee }
with_side Next world committee = record world { next = committee }

-- whether the committee of a side is there: the next one is while the epoch changes
abbrev pub is_present : Side → World → Bool
is_present Now world = true
is_present Next world = is_moving world.log

-- the epoch that a committee belongs to
abbrev pub epoch_of : Side → World → ℕ
epoch_of Now world = reading world.log
epoch_of Next world = writing world.log

-- the committee that takes new blobs
abbrev pub writing_side : World → Side
writing_side world = cond (is_moving world.log) Next Now

-- whether the shard of a side is there and correct
abbrev pub is_correct : Side → World → ℕ → Bool
is_correct side world shard = is_present side world && not (among (side_of side world).faulty shard)

-- what a shard holds
abbrev pub contents_of : Committee → ℕ → Contents
contents_of committee shard = slice_index_or committee.shards shard map.empty

-- what a shard of a committee holds of a blob
unfoldable pub held : Committee → ℕ → BlobId → Parts
held committee shard id = parts_at (contents_of committee shard) id

-- the committee once a shard holds this
unfoldable pub with_contents : Committee → ℕ → Contents → Committee
with_contents committee shard contents =
    record committee { shards = slice_set committee.shards shard contents }

-- the world once a shard of a side holds this
abbrev pub keeps : World → Side → ℕ → Contents → World
keeps world side shard contents =
    with_side side world (with_contents (side_of side world) shard contents)

-- the correct shards of a committee that are settled for a blob, as a set
abbrev pub settled_in : Committee → BlobId → (ℕ → Bool)
settled_in committee id shard =
    not (among committee.faulty shard) && settled (held committee shard id)

-- how many correct shards of the home committee are settled for a blob
abbrev pub holders : World → BlobId → ℕ
holders world id =
    count_below (committee_size world.log.f) (settled_in (side_of (home_of world.log id) world) id)

-- the verdict that a first completed answer gives
abbrev pub verdict_of : First → Verdict
verdict_of (Judged evidence verdict) = verdict
verdict_of (Written bytes) = Bytes bytes

-- the first completed answers once this one completed: an earlier one stays
abbrev pub answered : map.FinMap id_cmp First → BlobId → First → map.FinMap id_cmp First
answered answers id answer =
    cond (map.contains_key answers id) answers (map.insert answers id answer)
