-- What is kept of one blob: as much of its entries as the ledger may still ask for.
use Rattle.std.specs.Prelude.{ℕ, zero, suc, ◌-◌, Bool, true, false, ◌&&◌, max, cond, nat_lt, nat_le}
use Rattle.std.specs.Prelude.{List, fold, Option, Some, None}
use Rattle.wal_shape.specs.declared.metadata.BlobId.{BlobId}
use Rattle.wal_ledger.specs.declared.entry.Entry.{Entry}
use Rattle.wal_ledger.specs.declared.entry.Body.{Body}
use Rattle.wal_ledger.specs.declared.entry.Body.TheVariants.{Ack, Attest}
use Rattle.wal_ledger.specs.declared.entry.Kind.{Kind}
use Rattle.wal_ledger.specs.declared.entry.Kind.TheVariants.{Holds, Denies}
use Rattle.wal_ledger.specs.Shards.{count_below, committee_size, quorum_size}
use Rattle.wal_ledger.specs.Ledger.{Log, own_entries, until_of, signers}

-- the members of a set below n
abbrev pub within : ℕ → (ℕ → Bool) → (ℕ → Bool)
within n set shard = nat_lt shard n && set shard

-- an epoch in which a quorum signed, and the shards of the nodes that did
pub record FirstQuorum : Type 0 where
  pub epoch : ℕ
  pub signed : ℕ → Bool

-- an epoch, if those who signed in it are a quorum
abbrev pub reached : ℕ → ℕ → (ℕ → Bool) → Option FirstQuorum
reached f epoch signed =
    cond (nat_le (quorum_size f) (count_below (committee_size f) signed))
    (Some (record { epoch = epoch; signed = signed })) None

-- the first one that there is
abbrev pub or_else : Option FirstQuorum → Option FirstQuorum → Option FirstQuorum
or_else (Some first) later = Some first
or_else None later = later

-- the first epoch below n in which a quorum signed
abbrev pub first_below : ℕ → (ℕ → ℕ → Bool) → ℕ → Option FirstQuorum
first_below f signed zero = None
first_below f signed (suc n) = or_else (first_below f signed n) (reached f n (signed n))

-- whether an entry makes a claim of a kind
abbrev pub is_claim_of : Kind → Body → Bool
is_claim_of Holds (Ack shard id) = true
is_claim_of Denies (Attest shard id) = true
is_claim_of _ _ = false

-- the last epoch in which a claim of a kind was made, or 0
abbrev pub last_of : Kind → List Entry → ℕ
last_of kind own =
    fold (λ last entry. cond (is_claim_of kind entry.body) (max last entry.epoch) last) 0 own

-- what nodes say of a blob in one way: the last epoch in which one did, the shards of the nodes that
-- did in it, those in the epoch before it, and the first epoch before it in which they were a quorum
pub record Votes : Type 0 where
  pub epoch : ℕ
  pub signed : ℕ → Bool
  pub before : ℕ → Bool
  pub earlier : Option FirstQuorum

-- the votes that the signers of each epoch give, of which `last` is the last with any
abbrev pub votes_with : ℕ → (ℕ → ℕ → Bool) → ℕ → Votes
votes_with f signed last = record {
  epoch = last;
  signed = within (committee_size f) (signed last);
  before = λ shard. nat_lt 0 last && within (committee_size f) (signed (last - 1)) shard;
  earlier = first_below f (λ e. within (committee_size f) (signed e)) last;
}

-- the votes of a kind that a ledger has of a blob
abbrev pub votes_of : Log → BlobId → Kind → Votes
votes_of log id kind =
    votes_with log.f (signers log id kind) (last_of kind (own_entries log id))

-- the record of a blob: the epoch until which it is registered, or 0, and who said that its node holds
-- it, and that it is badly encoded
pub record BlobRecord : Type 0 where
  pub until : ℕ
  pub holds : Votes
  pub denies : Votes

-- the record that a ledger has of a blob
abbrev pub blob_record : Log → BlobId → BlobRecord
blob_record log id = record {
  until = until_of log id;
  holds = votes_of log id Holds;
  denies = votes_of log id Denies;
}

-- the votes of a blob without entries
abbrev pub no_votes : Votes
no_votes = record {
  epoch = 0;
  signed = λ shard. false;
  before = λ shard. false;
  earlier = None;
}

-- the record of a blob without entries
abbrev pub no_record : BlobRecord
no_record = record { until = 0; holds = no_votes; denies = no_votes }
