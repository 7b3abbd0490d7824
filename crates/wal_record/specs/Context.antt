-- What an entry is judged by beside the record of its blob, and the record after it.
use Rattle.std.specs.Prelude.{ℕ, ◌+◌, Bool, true, false, ◌&&◌, ◌||◌, max, cond, nat_eq}
use Rattle.std.specs.Prelude.{nat_le, List, [], Option}
use Rattle.wal_shape.specs.declared.axis.Side.TheVariants.{Now, Next}
use Rattle.wal_ledger.specs.declared.entry.Body.{Body}
use Rattle.wal_ledger.specs.declared.entry.Body.TheVariants.{Register, Ack, Attest, Ready, Begin}
use Rattle.wal_ledger.specs.declared.entry.Body.TheVariants.{Finish}
use Rattle.wal_ledger.specs.Shards.{count_below, committee_size}
use Rattle.wal_ledger.specs.Ledger.{Log, reading, is_moving, owners_of, same_node, ready_shards}
use Rattle.wal_record.specs.Record.{within, FirstQuorum, reached, or_else, Votes, BlobRecord, no_record}

-- the greatest number of faulty shards, the reading epoch, whether it changes, the node of each
-- shard of the reading epoch's committee, and, while it changes, of the next one's, and the shards
-- that have been ready since it last began to change
pub record Context : Type 0 where
  pub f : ℕ
  pub epoch : ℕ
  pub moving : Bool
  pub now : List ℕ
  pub next : List ℕ
  pub ready : ℕ → Bool

-- the context of a ledger
abbrev pub context_of : Log → Context
context_of log = record {
  f = log.f;
  epoch = reading log;
  moving = is_moving log;
  now = owners_of Now log;
  next = cond (is_moving log) (owners_of Next log) [];
  ready = within (committee_size log.f) (ready_shards log);
}

-- the writing epoch
abbrev pub writes : Context → ℕ
writes context = context.epoch + cond context.moving 1 0

-- the node of each shard of the writing epoch's committee
abbrev pub writers : Context → List ℕ
writers context = cond context.moving context.next context.now

-- how many shards signed in the last epoch
abbrev pub count_of : ℕ → Votes → ℕ
count_of f votes = count_below (committee_size f) votes.signed

-- the first epoch in which a quorum signed
abbrev pub first_quorum : ℕ → Votes → Option FirstQuorum
first_quorum f votes = or_else votes.earlier (reached f votes.epoch votes.signed)

-- the shards that signed in an epoch, as far as that is the last one
abbrev pub signed_in : Votes → ℕ → (ℕ → Bool)
signed_in votes epoch shard = nat_eq votes.epoch epoch && votes.signed shard

-- the votes with this epoch as the last one: of the votes before, what the epoch before it and the
-- first quorum ask for
abbrev pub turned : ℕ → ℕ → Votes → Votes
turned f epoch votes = record {
  epoch = epoch;
  signed = signed_in votes epoch;
  before = λ s. cond (nat_eq votes.epoch epoch) (votes.before s)
      (nat_eq (votes.epoch + 1) epoch && votes.signed s);
  earlier = cond (nat_eq votes.epoch epoch) votes.earlier (first_quorum f votes);
}

-- the votes after the node of a shard signed in an epoch, by the owners of that epoch
abbrev pub voted : ℕ → ℕ → List ℕ → ℕ → Votes → Votes
voted f epoch owners shard votes =
    let now = turned f epoch votes in
    record now { signed = λ s. now.signed s || within (committee_size f) (same_node owners shard) s }

-- the record after a registration in a reading epoch
abbrev pub registered : ℕ → ℕ → BlobRecord → BlobRecord
registered epoch until old =
    cond (nat_le old.until epoch)
    (record no_record { until = until })
    (record old { until = max old.until until })

-- the record of a blob after an entry that names it
abbrev pub step : Context → BlobRecord → Body → BlobRecord
step context old (Register id until) = registered context.epoch until old
step context old (Ack shard id) =
    record old { holds = voted context.f (writes context) (writers context) shard old.holds }
step context old (Attest shard id) =
    record old { denies = voted context.f (writes context) (writers context) shard old.denies }
step context old _ = old

-- the context after an entry
abbrev pub turn : Context → Body → Context
turn context (Ready shard) = record context {
  ready = λ s. context.ready s || within (committee_size context.f) (same_node (writers context) shard) s;
}
turn context (Begin owners) =
    record context { moving = true; next = owners; ready = λ s. false }
turn context Finish = record context {
  epoch = writes context;
  moving = false;
  now = writers context;
  next = [];
}
turn context _ = context
