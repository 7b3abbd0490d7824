use Rattle.wal_world.proofs.Common.{letters, rules, ◌≡◌, ◌∙◌, None, get_or, messages_of, world_of}
use Rattle.wal_world.proofs.LetterLaws.{continues_done, continues_more, continues_stop}
use Rattle.wal_world.proofs.WriteSteps.{at_end, letters_next, same_correct}
use Rattle.wal_world.proofs.network.Network.put_messages.Goals as goal

pub returns-in-Some-clause-puts : goal.returns-in-Some-clause-puts
returns-in-Some-clause-puts g c =
    let same = same_correct c.loop-shard.self c.args.self.now c.args.at (get_or c.args.to.now c.loop-shard.shard-index 0) c.loop-shard.invariant.books in
    let next = letters_next (world_of c.args.self.now) (world_of c.loop-shard.self) c.args.at (messages_of c.args.write.now) c.args.to.now _ 0 c.loop-shard-test.true same in
    continues_stop _ c.loop-shard.invariant.rest next (rw c.in-Some.is at c.in_ok-clash.ensures.puts)

pub loop-shard-preserved : goal.loop-shard-preserved
loop-shard-preserved g c =
    let same = same_correct c.loop-shard.self c.args.self.now c.args.at (get_or c.args.to.now c.loop-shard.shard-index 0) c.loop-shard.invariant.books in
    let next = letters_next (world_of c.args.self.now) (world_of c.loop-shard.self) c.args.at (messages_of c.args.write.now) c.args.to.now _ 0 c.loop-shard-test.true same in
    let none : c.in_ok-clash.field-0 ≡ None = search rules in
    record {
      network = c.in_ok-clash.ensures.network;
      books = c.in_ok-clash.ensures.books ∙ c.loop-shard.invariant.books;
      rest = continues_more c.loop-shard.invariant.rest next (rw none at c.in_ok-clash.ensures.puts);
    }

pub returns-clause-puts : goal.returns-clause-puts
returns-clause-puts g c =
    continues_done c.loop-shard.invariant.rest (at_end (letters (world_of c.args.self.now) c.args.at (messages_of c.args.write.now)) c.args.to.now _ c.loop-shard-test.false)
