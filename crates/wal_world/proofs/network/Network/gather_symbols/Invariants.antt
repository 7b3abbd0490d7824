-- The payloads of the replies so far; the network is the same, but for its tables and its buffer.
use Rattle.wal_world.proofs.Common.{take, rules_of, IsNetwork, world_of, IsLike, AreReplies}
use Rattle.wal_world.proofs.network.Network.gather_symbols.Given as goal

abbrev pub invariant-loop-reply : goal.invariant-loop-reply
invariant-loop-reply g l = record {
  network : IsNetwork l.self;
  like : IsLike l.initial.self l.self;
  replied : AreReplies (rules_of g.H.Hash32.digest (world_of l.initial.self).log.f) (world_of l.initial.self) l.id l.axis l.shard (take l.reply-index l.replies) l.payloads.items;
}
