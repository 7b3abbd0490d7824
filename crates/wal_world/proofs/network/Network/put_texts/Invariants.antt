-- What the puts of the texts from here come to is what those of all of them do.
use Rattle.wal_world.proofs.Common.{◌≡◌, drop, Continues, letters_in, IsNetwork, world_of}
use Rattle.wal_world.proofs.network.Network.put_texts.Given as goal

abbrev pub invariant-loop-text : goal.invariant-loop-text
invariant-loop-text g l = record {
  network : IsNetwork l.self;
  books : l.self.books ≡ l.initial.self.books;
  rest : Continues g.H.Hash32.digest (world_of l.initial.self) (letters_in l.shard l.texts) l.at (world_of l.self) (letters_in l.shard (drop l.text-index l.texts));
}
