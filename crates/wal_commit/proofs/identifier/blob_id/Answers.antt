use Rattle.wal_commit.proofs.Common.{sym, ap, subst, ◌∙◌, BlobMetadata, Commits, identifier_of}
use Rattle.wal_commit.proofs.Columns.{one_metadata}
use Rattle.wal_commit.proofs.identifier.blob_id.Goals as goal

pub returns-clause-identifier : goal.returns-clause-identifier
returns-clause-identifier g c = (
  c.in_ok-metadata.metadata,
  c.in_ok-metadata.ensures,
  subst (λ (m : BlobMetadata). Commits g.H.Hash32.digest c.identify.result.0 m) c.view.ensures.value c.identify.ensures,
)

pub returns-clause-only : goal.returns-clause-only
returns-clause-only g c = λ other is.
    let shape = c.args.shape.now in
    is.2.identifier
    ∙ ap (identifier_of g.H.Hash32.digest)
    (one_metadata g.H.Hash32.digest shape.format shape.f c.args.bytes.now is.0 c.in_ok-metadata.metadata is.1 c.in_ok-metadata.ensures ∙ sym c.view.ensures.value)
    ∙ sym c.identify.ensures.identifier
