use Rattle.wal_evidence.proofs.Common.{metadata_shown, ◌≡◌, ◌∙◌, take, ap, IfOk-weaker, Verdict, IsVerdictOn, Judges}
use Rattle.wal_evidence.proofs.Verdicts.{blob_long, only_verdict}
use Rattle.wal_evidence.proofs.judging.judge.Goals as goal

pub judge_blob-requires : goal.judge_blob-requires
judge_blob-requires g c =
    blob_long (metadata_shown c.args.m) c.shape-shape.result c.args.indices.now c.args.joined.now c.in_ok-block.block c.without_padding-blob.result
    c.shape-shape.ensures.value c.in_ok-block.ensures.decoded (c.without_padding-blob.ensures ∙ ap (λ n. take n c.in_ok-block.block) c.length.ensures.value)

pub returns-clause-only : goal.returns-clause-only
returns-clause-only g c =
    let digest = g.H.Hash32.digest in
    let m = metadata_shown c.args.m in
    let blob = c.without_padding-blob.result in
    IfOk-weaker c.judge_blob.result (IsVerdictOn digest m blob)
    (λ (v : Verdict). (other : Verdict) → Judges digest m c.args.indices.now c.args.joined.now other → other ≡ v)
    (λ v judged other found. only_verdict digest m c.shape-shape.result c.args.indices.now c.args.joined.now c.in_ok-block.block blob v other
    c.shape-shape.ensures.value c.in_ok-block.ensures.only (c.without_padding-blob.ensures ∙ ap (λ n. take n c.in_ok-block.block) c.length.ensures.value) judged found)
    c.judge_blob.ensures
