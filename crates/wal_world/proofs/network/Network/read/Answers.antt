use Rattle.wal_world.proofs.Common.{IfOk-weaker, world_of}
use Rattle.wal_world.proofs.ReadWords.{read_step}
use Rattle.wal_world.proofs.ReplyTexts.{like_world}
use Rattle.wal_world.proofs.network.Network.read.Goals as goal

pub returns-clause-step : goal.returns-clause-step
returns-clause-step g c =
    IfOk-weaker c.read_word.result _ _ (λ t h. read_step g.H.Hash32.digest (world_of c.args.self.now) (world_of c.gather.new.self) (world_of c.read_word.new.self) c.args.id.now c.args.replies.now
    c.in_ok-payloads.payloads t (like_world c.in_ok-payloads.ensures.like) c.in_ok-payloads.ensures.payloads h) c.read_word.ensures.word
