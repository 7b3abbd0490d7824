-- What the values of the program stand for.
use Rattle.std.specs.Prelude.{◌≡◌, ◌≤◌, true, Option, Some, None}
use Rattle.wal_shape.specs.Owners.{are_owners}
use Rattle.wal_ledger.specs.Shards.{committee_size}
use Rattle.wal_record.specs.declared.record.Quorum.{Quorum}
use Rattle.wal_record.specs.declared.record.Tally.{Tally}
use Rattle.wal_record.specs.declared.record.Row.{Row}
use Rattle.wal_record.specs.declared.context.Epoch.{Epoch}
use Rattle.wal_record.specs.Bits.{member}
use Rattle.wal_record.specs.Record.{FirstQuorum, Votes, BlobRecord}
use Rattle.wal_record.specs.Context.{Context, writes, writers}

-- the first quorum of a tally
abbrev pub quorum_told : Option Quorum → Option FirstQuorum
quorum_told (Some quorum) =
    Some (record { epoch = quorum.epoch; signed = member quorum.signed.words })
quorum_told None = None

-- the votes of a tally
abbrev pub votes_told : Tally → Votes
votes_told tally = record {
  epoch = tally.epoch;
  signed = member tally.signed.words;
  before = member tally.before.words;
  earlier = quorum_told tally.earlier;
}

-- the record of a row
abbrev pub record_told : Row → BlobRecord
record_told row = record {
  until = row.until;
  holds = votes_told row.holds;
  denies = votes_told row.denies;
}

-- the context of an epoch
abbrev pub context_told : Epoch → Context
context_told epoch = record {
  f = epoch.f;
  epoch = epoch.epoch;
  moving = epoch.moving;
  now = epoch.owners;
  next = epoch.next;
  ready = member epoch.ready.words;
}

-- numbers of a ledger: few faults, a writing epoch that there may be, and a node for each shard of
-- its committee
pub record IsFit (epoch : Epoch) : Type 0 where
  pub faults : epoch.f ≤ 333
  pub epochs : writes (context_told epoch) ≤ 65535
  pub owned : are_owners (committee_size epoch.f) (writers (context_told epoch)) ≡ true
