-- The evidence's metadata is that over the blob's matrix.
use Rattle.wal_extract.proofs.Common.{◌∙◌, sym, inl, inr, rules, IfOk-weaker}
use Rattle.wal_extract.proofs.Contradictions.{commits_matrix}
use Rattle.wal_extract.proofs.OneIdentifier.{over_shape, same_metadata}
use Rattle.wal_extract.proofs.verdicts.blob_and_evidence.Goals as goal

pub collide_basis-requires-clause-shape : goal.collide_basis-requires-clause-shape
collide_basis-requires-clause-shape g c =
    over_shape g.H.Hash32.digest _ c.in_ok-matrix.matrix.cells _
    (sym (c.view.ensures.value ∙ c.in_ok-metadata.ensures)
    ∙ same_metadata _ _ _ _ c.bytes.ensures.metadata c.bytes-2.ensures.metadata c.bytes.ensures.spelling
    c.bytes-2.ensures.spelling (search rules))

pub collide_basis-requires-clause-other : goal.collide_basis-requires-clause-other
collide_basis-requires-clause-other g c =
    let over = sym (c.view.ensures.value ∙ c.in_ok-metadata.ensures) ∙ same_metadata _ _ _ _ c.bytes.ensures.metadata
    c.bytes-2.ensures.metadata c.bytes.ensures.spelling c.bytes-2.ensures.spelling (search rules) in
    let x = c.in_ok-matrix.ensures in (
      c.args.bytes.now,
      commits_matrix _ _ _ _ _ _ x.shape c.requires.fits x.matrix over,
      λ judged. c.requires.contrary.other (rw c.view-m.ensures.value at judged),
    )

pub returns-then-ne-clause-texts : goal.returns-then-ne-clause-texts
returns-then-ne-clause-texts g c =
    let x = c.in_ok-matrix.ensures in
    let over = rw x.shape at (c.view-then-ne.ensures.value ∙ c.in_ok-metadata.ensures) in
    IfOk-weaker c.metadatas.result _ _ (λ t texts. (_, x.matrix, inl (rw (over, c.view-m.ensures.value) at texts)))
    c.metadatas.ensures.texts

pub returns-clause-texts : goal.returns-clause-texts
returns-clause-texts g c =
    let same =
    same_metadata _ _ _ _ c.bytes.ensures.metadata c.bytes-2.ensures.metadata c.bytes.ensures.spelling
    c.bytes-2.ensures.spelling (search rules) in
    let one = sym (c.view.ensures.value ∙ c.in_ok-metadata.ensures) ∙ same ∙ c.view-m.ensures.value in
    let x = c.in_ok-matrix.ensures in
    IfOk-weaker c.collide_basis.result _ _ (λ t texts. (_, x.matrix, inr (rw x.shape at one, rw x.shape at texts)))
    c.collide_basis.ensures.texts
