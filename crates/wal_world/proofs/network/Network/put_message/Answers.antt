use Rattle.wal_world.proofs.Common.{IfOk-weaker, rules, ◌≡◌, true, false, map, frame_text, messages_of, addressed, world_of, is_correct}
use Rattle.wal_world.proofs.WriteSteps.{message_none, message_some, spell_each}
use Rattle.wal_world.proofs.network.Network.put_message.Goals as goal

pub returns-then-not-correct-clause-puts : goal.returns-then-not-correct-clause-puts
returns-then-not-correct-clause-puts g c =
    let w = world_of c.args.self.now in
    let faulty : is_correct c.args.at w c.args.shard ≡ false = search rules in
    message_none g.H.Hash32.digest w c.args.at c.args.shard (addressed c.args.shard (messages_of c.args.write.now c.args.shard)) faulty

pub put_texts-requires-clause-spell : goal.put_texts-requires-clause-spell
put_texts-requires-clause-spell g c =
    let spelled : c.as_slice.result.now ≡ map frame_text (messages_of c.args.write.now c.args.shard) = search rules in
    spell_each c.args.write.now c.args.shard c.as_slice.result.now spelled c.requires.parts

pub returns-clause-puts : goal.returns-clause-puts
returns-clause-puts g c =
    let w = world_of c.args.self.now in
    let spelled : c.as_slice.result.now ≡ map frame_text (messages_of c.args.write.now c.args.shard) = search rules in
    let correct : is_correct c.args.at w c.args.shard ≡ true = search rules in
    IfOk-weaker c.put_texts.result _ _ (λ clash h. message_some g.H.Hash32.digest w (world_of c.put_texts.new.self) c.args.at c.args.shard c.as_slice.result.now
    (messages_of c.args.write.now c.args.shard) clash correct spelled c.requires.parts h) c.put_texts.ensures.puts
