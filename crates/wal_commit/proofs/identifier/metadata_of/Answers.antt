use Rattle.wal_commit.proofs.Common.{◌∙◌, sym, metadata_text-injective, metadata_over}
use Rattle.wal_commit.proofs.Commitments.{IsMetadata-over}
use Rattle.wal_commit.proofs.identifier.metadata_of.Goals as goal

pub unreachable-requires : goal.unreachable-requires
unreachable-requires g c =
    let m = metadata_over g.H.Hash32.digest c.args.e.now.shape c.args.e.now.cells in
    c.in-None.ensures.none m (IsMetadata-over g.H.Hash32.digest g.met.H.Hash32.size c.args.e.now.shape c.args.e.now.cells c.in_ok-bytes.ensures.fit) (sym (c.from_vec.ensures ∙ c.in_ok-bytes.ensures.spelled))

pub returns : goal.returns
returns g c =
    let m = metadata_over g.H.Hash32.digest c.args.e.now.shape c.args.e.now.cells in
    metadata_text-injective _ m c.in-Some.ensures.metadata (IsMetadata-over g.H.Hash32.digest g.met.H.Hash32.size c.args.e.now.shape c.args.e.now.cells c.in_ok-bytes.ensures.fit) (c.in-Some.ensures.spelled ∙ c.from_vec.ensures ∙ c.in_ok-bytes.ensures.spelled)
