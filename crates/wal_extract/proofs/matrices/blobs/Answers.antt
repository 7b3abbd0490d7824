-- Both metadata have the identifier, and matrices of one metadata are of different blobs.
use Rattle.wal_extract.proofs.Common.{◌∙◌, sym, inl, inr, rules, IfOk-weaker}
use Rattle.wal_extract.proofs.OneIdentifier.{matrices_apart, same_metadata, same_shape}
use Rattle.wal_extract.proofs.matrices.blobs.Goals as goal

pub collide_rows-requires-clause-one : goal.collide_rows-requires-clause-one
collide_rows-requires-clause-one g c =
    sym (c.view.ensures.value ∙ c.in_ok-left_metadata.ensures)
    ∙ same_metadata _ _ _ _ c.bytes.ensures.metadata c.bytes-2.ensures.metadata c.bytes.ensures.spelling
    c.bytes-2.ensures.spelling (search rules)
    ∙ c.view-2.ensures.value ∙ c.in_ok-right_metadata.ensures

pub collide_rows-requires-clause-differ : goal.collide_rows-requires-clause-differ
collide_rows-requires-clause-differ g c =
    let left = c.in_ok-left.ensures in
    let right = c.in_ok-right.ensures in
    let one = same_shape g.H.Hash32.digest _ _ _ _ (collide_rows-requires-clause-one g c) in
    let shape = rw (left.shape, right.shape) at one in
    matrices_apart _ _ _ _ _ _ shape c.requires.fits_a c.requires.fits_b left.matrix right.matrix c.requires.differ

pub returns-then-ne-clause-texts : goal.returns-then-ne-clause-texts
returns-then-ne-clause-texts g c =
    let left = c.in_ok-left.ensures in
    let right = c.in_ok-right.ensures in
    let over_left = rw left.shape at (c.view-then-ne.ensures.value ∙ c.in_ok-left_metadata.ensures) in
    let over_right = rw right.shape at (c.view-then-ne-2.ensures.value ∙ c.in_ok-right_metadata.ensures) in
    IfOk-weaker c.metadatas.result _ _
    (λ t texts. (_, _, left.matrix, right.matrix, inl (rw (over_left, over_right) at texts))) c.metadatas.ensures.texts

pub returns-clause-texts : goal.returns-clause-texts
returns-clause-texts g c =
    let left = c.in_ok-left.ensures in
    let right = c.in_ok-right.ensures in
    let one = sym (c.view.ensures.value ∙ c.in_ok-left_metadata.ensures)
    ∙ same_metadata _ _ _ _ c.bytes.ensures.metadata c.bytes-2.ensures.metadata c.bytes.ensures.spelling
    c.bytes-2.ensures.spelling (search rules) ∙ c.view-2.ensures.value ∙ c.in_ok-right_metadata.ensures in
    IfOk-weaker c.collide_rows.result _ _
    (λ t texts. (_, _, left.matrix, right.matrix, inr (rw (left.shape, right.shape) at one, rw left.shape at texts)))
    c.collide_rows.ensures.texts
