-- What the puts to the shards from here come to is what those to all of them do.
use Rattle.wal_world.proofs.Common.{◌≡◌, drop, messages_of, Continues, IsNetwork, world_of, letters}
use Rattle.wal_world.proofs.network.Network.put_messages.Given as goal

abbrev pub invariant-loop-shard : goal.invariant-loop-shard
invariant-loop-shard g l = record {
  network : IsNetwork l.self;
  books : l.self.books ≡ l.initial.self.books;
  rest : Continues g.H.Hash32.digest (world_of l.initial.self) (letters (world_of l.initial.self) l.at (messages_of l.write) l.to) l.at (world_of l.self)
      (letters (world_of l.initial.self) l.at (messages_of l.write) (drop l.shard-index l.to));
}
