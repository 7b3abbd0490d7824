use Rattle.wal_world.proofs.Common.{rules, ℕ, subst, messages_of, IsStarted}
use Rattle.wal_writer.proofs.Messages.{message_fits}
use Rattle.wal_world.proofs.network.Network.start.Goals as goal

pub returns-in-Ok : goal.returns-in-Ok
returns-in-Ok g c =
    let digest = g.H.Hash32.digest in
    let blob = c.args.blob.now in
    let format = c.args.self.now.format in
    let write = c.in-Ok.write in
    subst (λ (f : ℕ). IsStarted digest f format blob write) c.f.ensures.value (record {
      few = c.f.ensures.few;
      faults = c.in-Ok.ensures.faults;
      message = c.in-Ok.ensures.message;
      identifier = search rules;
      parts = message_fits digest g.met.H.Hash32.size c.f.result format blob write.id (messages_of write) c.in-Ok.ensures.message;
    })
