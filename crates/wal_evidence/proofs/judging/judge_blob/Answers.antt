use Rattle.wal_evidence.proofs.Common.{rules, metadata_shown, Commits}
use Rattle.wal_evidence.proofs.Verdicts.{other_identifier}
use Rattle.wal_evidence.proofs.judging.judge_blob.Goals as goal

pub returns-else-metadata_holds : goal.returns-else-metadata_holds
returns-else-metadata_holds g c = λ is.
    let digest = g.H.Hash32.digest in
    let m = metadata_shown c.args.m in
    let refused : Commits digest c.in_ok-id.id.0 m → ⊥ = search rules in
    refused
    (record {
      fit = c.shape.ensures.metadata;
      identifier = other_identifier digest m c.shape.result c.args.blob c.as_slice.result.now c.in_ok-id.id.0 c.shape.ensures.value c.as_slice.ensures
          c.in_ok-id.ensures.only is;
    })
