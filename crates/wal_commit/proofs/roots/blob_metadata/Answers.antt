use Rattle.wal_commit.proofs.Common.{ℕ, ap, subst, sym, ◌∙◌, metadata_text-injective, IsShape, extended_exists, metadata_over}
use Rattle.wal_matrix.proofs.FrontLaws.{are_bytes}
use Rattle.wal_commit.proofs.Commitments.{IsMetadata-over}
use Rattle.wal_commit.proofs.roots.blob_metadata.Goals as goal

pub unreachable-requires : goal.unreachable-requires
unreachable-requires g c =
    let shape = c.args.shape.now in
    let fit = c.in_ok-spelled.ensures.fit in
    let found = extended_exists shape.f c.args.bytes.now fit.1 (are_bytes c.args.bytes.now c.type_inv.bytes) in
    let m = metadata_over g.H.Hash32.digest shape found.0 in
    c.in-None.ensures.none m (IsMetadata-over g.H.Hash32.digest g.met.H.Hash32.size shape found.0 fit)
    (sym (c.from_vec.ensures ∙ c.in_ok-spelled.ensures.spelled found.0 found.1))

pub returns : goal.returns
returns g c =
    let digest = g.H.Hash32.digest in
    let shape = c.args.shape.now in
    let fit = c.in_ok-spelled.ensures.fit in
    let found = extended_exists shape.f c.args.bytes.now fit.1 (are_bytes c.args.bytes.now c.type_inv.bytes) in
    let e = found.0 in
    let m = metadata_over digest shape e in
    let own =
    metadata_text-injective _ m c.in-Some.ensures.metadata (IsMetadata-over digest g.met.H.Hash32.size shape e fit)
    (c.in-Some.ensures.spelled ∙ c.from_vec.ensures ∙ c.in_ok-spelled.ensures.spelled e found.1) in (
      e,
      found.1,
      own ∙ ap (λ (n : ℕ). metadata_over digest (record { format = shape.format; f = shape.f; length = n }) e) (sym c.requires),
      subst (IsShape shape.f) (sym c.requires) fit,
    )
