-- The summary of a run: what is counted of its lines.
use Rattle.std.specs.Prelude.{◌≡◌, ℕ, ◌-◌, ◌^◌, min, List, length, sum_by, filter_map, Option, Some}
use Rattle.std.specs.Prelude.{None, unwrap_or}
use Rattle.std.specs.List.{reduce}
use Rattle.std.specs.Set.{distinct_count}
use Rattle.wal_shape.specs.declared.metadata.BlobId.{BlobId}
use Rattle.wal_shape.specs.Identifiers.{id_eq}
use Rattle.wal_event.specs.declared.event.Schedule.{Schedule}
use Rattle.wal_event.specs.declared.line.AckWord.TheVariants as ack
use Rattle.wal_event.specs.declared.line.ReadWord.TheVariants as read
use Rattle.wal_event.specs.declared.line.RecoverWord.TheVariants as recover
use Rattle.wal_event.specs.declared.line.Line.{Line}
use Rattle.wal_event.specs.declared.line.Line.TheVariants as line
use Rattle.wal_event.specs.declared.line.HoldersWord.TheVariants as holders_word
use Rattle.wal_protocol.specs.Run.{GoesOn}
use Rattle.wal_theorem.specs.Lines.{AreLines, EndsInCollision}
use Rattle.wal_world.specs.declared.summary.Summary.{Summary}
use Rattle.wal_world.specs.declared.summary.Summed.{Summed}
use Rattle.wal_world.specs.declared.summary.Summed.TheVariants as summed

-- the identifier that a line says is certified
abbrev pub certified_in : Line → Option BlobId
certified_in (line.Ack shard id (ack.Certified count)) = Some id
certified_in _ = None

-- the bytes that a line says were read
abbrev pub bytes_in : Line → Option (List ℕ)
bytes_in (line.Read id (read.Bytes bytes)) = Some bytes
bytes_in _ = None

-- the sliver that a line says was recovered
abbrev pub sliver_in : Line → Option (List ℕ)
sliver_in (line.Recover shard axis id (recover.Sliver bytes)) = Some bytes
sliver_in _ = None

-- how many holders a line tells
abbrev pub holders_in : Line → Option ℕ
holders_in (line.Holders id (holders_word.Count count)) = Some count
holders_in _ = None

-- the summary of these lines; the sum of the bytes stays at the last number of 64 bits, and the
-- least number of holders is 0 if no line tells one
pub record IsSummary (lines : List Line) (summary : Summary) : Type 0 where
  pub events : summary.events ≡ length lines
  pub certified : summary.certified ≡ distinct_count id_eq (filter_map certified_in lines)
  pub reads : summary.reads ≡ length (filter_map bytes_in lines)
  pub bytes : summary.bytes ≡ min (sum_by length (filter_map bytes_in lines)) (2 ^ 64 - 1)
  pub recovered : summary.recovered ≡ length (filter_map sliver_in lines)
  pub least_holders : summary.least_holders ≡ unwrap_or (reduce min (filter_map holders_in lines)) 0

-- the result of a schedule's run: the summary of its lines, none of which is a collision, or the
-- collision with which it ends
abbrev pub IsSummed : (List ℕ → List ℕ) → Schedule → Summed → Type 0
IsSummed digest schedule (summed.Whole summary) =
    (lines : List Line) × AreLines digest schedule lines × GoesOn lines × IsSummary lines summary
IsSummed digest schedule (summed.Collision collision) =
    (lines : List Line) × AreLines digest schedule lines × (ends : EndsInCollision lines)
    × (ends.said ≡ line.Collision collision.left collision.right)
