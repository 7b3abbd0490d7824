-- Of two verdicts one is a blob, which the other evidence contradicts.
use Rattle.wal_extract.proofs.Common.{sym, inl, inr, IfOk-weaker}
use Rattle.wal_extract.proofs.Contradictions.{contradicts, fits}
use Rattle.wal_extract.proofs.verdicts.evidences.Goals as goal

pub blob_and_evidence-requires : goal.blob_and_evidence-requires
blob_and_evidence-requires g c =
    let r = c.requires in
    let left = c.in_ok-left.ensures in
    let shape = rw c.view.ensures.value at c.shape-shape.ensures.value in
    record {
      fits = fits _ c.args.a.now _ _ _ _ left.judged c.in-Bytes.is shape c.as_slice.ensures;
      contrary = contradicts _ c.args.a.now _ _ _ _ _ _ _ _ _ r.left r.right left.judged c.in-Bytes.is shape
          c.as_slice.ensures left.only c.in_ok-right.ensures.only r.left_judged r.right_judged r.differ;
    }

pub blob_and_evidence-requires-in-Bytes-right : goal.blob_and_evidence-requires-in-Bytes-right
blob_and_evidence-requires-in-Bytes-right g c =
    let r = c.requires in
    let right = c.in_ok-right.ensures in
    let shape = rw c.view-in-Bytes-right.ensures.value at c.shape-shape-in-Bytes-right.ensures.value in
    let bytes = c.as_slice-in-Bytes-right.ensures in
    record {
      fits = fits _ c.args.b.now _ _ _ _ right.judged c.in-Bytes-right.is shape bytes;
      contrary = contradicts _ c.args.b.now _ _ _ _ _ _ _ _ _ r.right r.left right.judged c.in-Bytes-right.is shape
          bytes right.only c.in_ok-left.ensures.only r.right_judged r.left_judged (λ e. r.differ (sym e));
    }

pub returns-in-Bytes-clause-texts : goal.returns-in-Bytes-clause-texts
returns-in-Bytes-clause-texts g c =
    let shape = rw c.view.ensures.value at c.shape-shape.ensures.value in
    IfOk-weaker c.blob_and_evidence.result _ _
    (λ t texts. inl (_, rw c.in-Bytes.is at c.in_ok-left.ensures.judged, rw (shape, c.as_slice.ensures) at texts))
    c.blob_and_evidence.ensures.texts

pub returns-in-Bytes-right-clause-texts : goal.returns-in-Bytes-right-clause-texts
returns-in-Bytes-right-clause-texts g c =
    let shape = rw c.view-in-Bytes-right.ensures.value at c.shape-shape-in-Bytes-right.ensures.value in
    let bytes = c.as_slice-in-Bytes-right.ensures in
    IfOk-weaker c.blob_and_evidence-in-Bytes-right.result _ _
    (λ t texts. inr (_, rw c.in-Bytes-right.is at c.in_ok-right.ensures.judged, rw (shape, bytes) at texts))
    c.blob_and_evidence-in-Bytes-right.ensures.texts
