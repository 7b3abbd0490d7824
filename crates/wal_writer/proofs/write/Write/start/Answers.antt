use Rattle.wal_writer.proofs.Common.{subst, BlobMetadata, Commits}
use Rattle.wal_writer.proofs.Messages.{numbers_of, shape_over, written_message, written_metadata}
use Rattle.wal_writer.proofs.write.Write.start.Goals as goal

pub invariant_of-result : goal.invariant_of-result
invariant_of-result g c = record {
  shape_is = shape_over g.H.Hash32.digest c.in_ok-encoded.encoded.shape c.in_ok-encoded.encoded.cells c.in_ok-metadata.metadata c.in_ok-metadata.ensures;
  commits = subst (λ (m : BlobMetadata). Commits g.H.Hash32.digest c.identify-id.result.0 m) c.view.ensures.value c.identify-id.ensures;
}

pub returns-clause-message : goal.returns-clause-message
returns-clause-message g c =
    written_message g.H.Hash32.digest c.args.f c.args.format c.args.bytes.now c.in_ok-shape.shape c.in_ok-encoded.encoded.shape
    (record { id = c.identify-id.result; metadata = c.in_ok-metadata.metadata; cells = c.in_ok-encoded.encoded.cells })
    c.in_ok-shape.ensures.shape.0 c.in_ok-encoded.ensures.shape c.in_ok-shape.ensures.shape.1 c.in_ok-encoded.ensures.matrix c.in_ok-metadata.ensures
    (subst (λ (m : BlobMetadata). Commits g.H.Hash32.digest c.identify-id.result.0 m) c.view.ensures.value c.identify-id.ensures)

pub returns-clause-metadata : goal.returns-clause-metadata
returns-clause-metadata g c =
    written_metadata g.H.Hash32.digest c.args.f c.args.format c.args.bytes.now c.in_ok-shape.shape c.in_ok-encoded.encoded.shape c.in_ok-encoded.encoded.cells c.in_ok-metadata.metadata
    c.in_ok-shape.ensures.shape.0 c.in_ok-encoded.ensures.shape c.in_ok-shape.ensures.shape.1 c.in_ok-encoded.ensures.matrix c.in_ok-metadata.ensures

pub returns-clause-faults : goal.returns-clause-faults
returns-clause-faults g c =
    let is =
    written_metadata g.H.Hash32.digest c.args.f c.args.format c.args.bytes.now c.in_ok-shape.shape c.in_ok-encoded.encoded.shape c.in_ok-encoded.encoded.cells c.in_ok-metadata.metadata
    c.in_ok-shape.ensures.shape.0 c.in_ok-encoded.ensures.shape c.in_ok-shape.ensures.shape.1 c.in_ok-encoded.ensures.matrix c.in_ok-metadata.ensures in
    (numbers_of g.H.Hash32.digest c.args.format c.args.f c.args.bytes.now c.in_ok-metadata.metadata is).0
