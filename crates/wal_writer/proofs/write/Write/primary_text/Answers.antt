use Rattle.wal_writer.proofs.Common.{length, Primary}
use Rattle.wal_writer.proofs.Messages.{own_sliver_short}
use Rattle.wal_writer.proofs.write.Write.primary_text.Goals as goal

pub sliver_text-requires-clause-size : goal.sliver_text-requires-clause-size
sliver_text-requires-clause-size g c =
    own_sliver_short Primary c.self.inside.encoded.shape c.self.inside.metadata (length c.primary.result.now) c.self.invariant.shape_is c.view.ensures.metadata c.primary.ensures.long
