-- The network that keeps a state of the world.
use Rattle.std.specs.Prelude.{◌≡◌, ℕ, ◌+◌, ◌<◌, ◌≤◌, List, [], length, map, Option, Some, None}
use Rattle.std.specs.Prelude.{slice_index_or}
use Rattle.std.specs.List.{range_with_len}
use Rattle.std.specs.FinMap.{from_sorted}
use Rattle.std.specs.BTreeMap.{IsOrdered}
use Rattle.wal_shape.specs.Identifiers.{id_cmp}
use Rattle.wal_shape.specs.declared.axis.Side.{Side}
use Rattle.wal_shape.specs.declared.axis.Side.TheVariants.{Now, Next}
use Rattle.wal_ledger.specs.Shards.{committee_size}
use Rattle.wal_ledger.specs.Ledger.{Log, LedgerState}
use Rattle.wal_store.specs.Contents.{Contents}
use Rattle.wal_shard.specs.State.{ShardState}
use Rattle.wal_shard.specs.Vouching.{without_dead}
use Rattle.wal_shard.specs.Replying.{room_of}
use Rattle.wal_protocol.specs.State.{World, contents_of, side_of}
use Rattle.wal_world.specs.declared.books.Books.{Books}
use Rattle.wal_world.specs.declared.books.Books.TheVariants.{Moving}
use Rattle.wal_world.specs.inside.Books.{ledger_of, faulty_on, AreBooks, books_with}
use Rattle.wal_world.specs.inside.Members.{members_of}
use Rattle.wal_world.specs.declared.network.Network.{Network}

abbrev pub contents_in : List ShardState → List Contents
contents_in shards = map (λ state. state.contents) shards

-- the state of the world that a network keeps
abbrev pub world_of : {H : Type 0} → Network H → World
world_of network = record {
  format = network.format;
  log = (ledger_of network.books).log;
  now = record {
    faulty = faulty_on Now network.books;
    shards = contents_in network.sides.serving.shards.items;
  };
  next = record {
    faulty = faulty_on Next network.books;
    shards = contents_in network.sides.next.shards.items;
  };
  few = network.few;
  answers = from_sorted network.answers.entries;
}

abbrev pub shards_of : {H : Type 0} → Side → Network H → List ShardState
shards_of side network = (members_of side network.sides).shards.items

-- a shard has its number, and no limit of pages
pub record IsShardAt (f index : ℕ) (state : ShardState) : Type 0 where
  pub f_is : state.f ≡ f
  pub index_is : state.index ≡ index
  pub limit_is : state.limit ≡ None

-- the shards of a committee
pub record AreShards (f : ℕ) (shards : List ShardState) : Type 0 where
  pub count : length shards ≡ committee_size f
  pub each : (i : ℕ) (state : ShardState) → i < committee_size f
      → IsShardAt f i (slice_index_or shards i state)

-- the shards of the next committee: none unless the epoch changes
abbrev pub AreNext : Option Books → List ShardState → Type 0
AreNext (Some (Moving moving)) shards = AreShards moving.ledger.log.f shards
AreNext _ shards = shards ≡ []

-- what is true of every network between two events
pub record IsNetwork {H : Type 0} (network : Network H) : Type 0 where
  pub books : AreBooks network.books
  pub shards_now : AreShards (ledger_of network.books).log.f network.sides.serving.shards.items
  pub shards_next : AreNext network.books network.sides.next.shards.items
  pub ordered : IsOrdered id_cmp network.answers
  pub work : network.work.f ≡ (ledger_of network.books).log.f
  pub empty : network.buffer.bytes ≡ []
  pub room : room_of (ledger_of network.books).log.f ≤ network.buffer.spare

-- the shard of a side that has this number
pub record IsShardOf {H : Type 0} (side : Side) (network : Network H)
    (number : ℕ) (state : ShardState) : Type 0 where
  pub contents : state.contents ≡ contents_of (side_of side (world_of network)) number
  pub f : state.f ≡ (world_of network).log.f
  pub index : state.index ≡ number
  pub limit : state.limit ≡ None

-- the network once the ledger is this one
abbrev pub with_ledger : {H : Type 0} → Network H → LedgerState → Network H
with_ledger network ledger = record network { books = books_with network.books ledger }

-- how many more entries fit
abbrev pub spare_of : {H : Type 0} → Network H → ℕ
spare_of network = (ledger_of network.books).spare

-- how many entries there are and still fit
abbrev pub capacity_of : {H : Type 0} → Network H → ℕ
capacity_of network = spare_of network + length (ledger_of network.books).log.entries

-- the shard of a committee with a number that holds this
abbrev pub shard_with : ℕ → (ℕ → Contents) → ℕ → ShardState
shard_with f holds i = record { f = f; index = i; contents = holds i; limit = None }

-- the shards of a committee, by what each holds
abbrev pub shards_with : ℕ → (ℕ → Contents) → List ShardState
shards_with f holds = map (shard_with f holds) (range_with_len 0 (committee_size f))

-- a shard that dropped what is not live
abbrev pub dropped : Log → ShardState → ShardState
dropped log state = record state { contents = without_dead log state.contents }
