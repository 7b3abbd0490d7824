use Rattle.wal_commit.proofs.Common.{◌+◌, ◌∙◌, ap, length, take, drop, arith, metadata_shown, format_text}
use Rattle.wal_commit.proofs.Commitments.{head_is, pairs_are, metadata_size}
use Rattle.wal_commit.proofs.identifier.split_spelling.Goals as goal

pub split_at-requires : goal.split_at-requires
split_at-requires c =
    let m = metadata_shown c.args.m in
    omega (arith, ap length c.version_of.ensures, ap (λ f. length (format_text f)) c.format.ensures, ap length c.bytes.ensures.spelling, metadata_size m c.bytes.ensures.metadata)

pub returns-clause-head : goal.returns-clause-head
returns-clause-head c =
    let k = length c.version_of.result.now + 10 in
    c.split_at.ensures.front ∙ ap (take k) c.bytes.ensures.spelling
    ∙ head_is (metadata_shown c.args.m) k
    (omega (arith, ap length c.version_of.ensures, ap (λ f. length (format_text f)) c.format.ensures))

pub returns-clause-pairs : goal.returns-clause-pairs
returns-clause-pairs c =
    let k = length c.version_of.result.now + 10 in
    c.split_at.ensures.back ∙ ap (drop k) c.bytes.ensures.spelling
    ∙ pairs_are (metadata_shown c.args.m) k
    (omega (arith, ap length c.version_of.ensures, ap (λ f. length (format_text f)) c.format.ensures))
