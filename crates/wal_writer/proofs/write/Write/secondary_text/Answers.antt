use Rattle.wal_writer.proofs.Common.{◌∙◌, ◌*◌, ap, length, Secondary, BlobShape, sliver_symbols, symbol_size}
use Rattle.wal_writer.proofs.Messages.{own_sliver_short}
use Rattle.wal_writer.proofs.write.Write.secondary_text.Goals as goal

pub sliver_text-requires-clause-size : goal.sliver_text-requires-clause-size
sliver_text-requires-clause-size g c =
    own_sliver_short Secondary c.self.inside.encoded.shape c.self.inside.metadata (length c.deref.result.now) c.self.invariant.shape_is c.view.ensures.metadata
    (c.deref.ensures.len ∙ c.in_ok-bytes.ensures.len ∙ c.sliver_len-size.ensures.value ∙ ap (λ (s : BlobShape). sliver_symbols Secondary s.f * symbol_size s.f s.length) c.shape.ensures)
