-- The payloads of the replies so far; the network is the same, but for its tables and its buffer.
use Rattle.wal_world.proofs.Common.{◌≡◌, take, rules_of, IsNetwork, world_of, IsLike, read_payloads}
use Rattle.wal_world.proofs.network.Network.gather.Given as goal

abbrev pub invariant-loop-reply : goal.invariant-loop-reply
invariant-loop-reply g l = record {
  network : IsNetwork l.self;
  like : IsLike l.initial.self l.self;
  items : l.payloads.items ≡ read_payloads (rules_of g.H.Hash32.digest (world_of l.initial.self).log.f) (world_of l.initial.self) l.id (take l.reply-index l.replies);
}
