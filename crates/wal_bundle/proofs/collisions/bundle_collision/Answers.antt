use Rattle.wal_bundle.proofs.Common.{sym, ◌∙◌, inl, inr, rules, IfOk-weaker, metadata_shown, same_metadata}
use Rattle.wal_bundle.proofs.Truths.{not_one, not_own, one_identifier, own_coded, contradicting_plain}
use Rattle.wal_bundle.proofs.collisions.bundle_collision.Goals as goal

pub unreachable-requires : goal.unreachable-requires
unreachable-requires g c =
    let one = contradicting_plain _ _ _ _ _ c.requires.answer c.requires.told c.requires.denied in
    not_one _ _ _ c.metadata_in.result _ c.metadata_in.ensures.found one.1 c.in_default.not-One

pub metadatas-requires-clause-one : goal.metadatas-requires-clause-one
metadatas-requires-clause-one g c =
    let own = rw (c.f.ensures.value, ← c.as_slice.ensures) at c.in_ok-bytes.ensures in
    rw (c.view-then-ne.ensures.value, c.in_ok-metadata.ensures, c.in_ok-matrix.ensures.shape)
    (sym (one_identifier c.requires.bundle own c.in_ok-matrix.ensures.only) ∙ c.in-One.ensures.found.0.4.1.identifier)

pub collide_own-requires-clause-metadata : goal.collide_own-requires-clause-metadata
collide_own-requires-clause-metadata g c =
    sym (same_metadata _ _ _ _ c.bytes-2.ensures.metadata c.bytes-3.ensures.metadata c.bytes-2.ensures.spelling
    c.bytes-3.ensures.spelling (search rules))
    ∙ c.view.ensures.value ∙ c.in_ok-metadata.ensures

pub collide_own-requires-clause-coded : goal.collide_own-requires-clause-coded
collide_own-requires-clause-coded g c =
    own_coded c.requires.bundle c.in_ok-matrix.ensures.shape
    (rw (c.f.ensures.value, ← c.as_slice.ensures) at c.in_ok-bytes.ensures) c.in_ok-matrix.ensures.matrix

pub collide_own-requires-clause-apart : goal.collide_own-requires-clause-apart
collide_own-requires-clause-apart g c = λ agree.
    let made = c.in_ok-matrix.ensures.shape in
    let own = rw (c.f.ensures.value, ← c.as_slice.ensures) at c.in_ok-bytes.ensures in
    not_own _ _ _ _ _ _ c.requires (metadata_shown c.in-One.m) _ _ c.in-One.ensures.found own
    c.in_ok-matrix.ensures.matrix (rw made at (collide_own-requires-clause-metadata g c)) (rw made at agree)

pub returns-then-ne-clause-texts : goal.returns-then-ne-clause-texts
returns-then-ne-clause-texts g c =
    let own = rw (c.f.ensures.value, ← c.as_slice.ensures) at c.in_ok-bytes.ensures in
    let is = rw c.in_ok-matrix.ensures.shape at (c.view-then-ne.ensures.value ∙ c.in_ok-metadata.ensures) in
    IfOk-weaker c.metadatas.result _ _
    (λ t texts. (_, _, _, own, c.in_ok-matrix.ensures.matrix, c.in-One.ensures.found, inl (rw is at texts)))
    c.metadatas.ensures.texts

pub returns-clause-texts : goal.returns-clause-texts
returns-clause-texts g c =
    let made = c.in_ok-matrix.ensures.shape in
    let own = rw (c.f.ensures.value, ← c.as_slice.ensures) at c.in_ok-bytes.ensures in
    let same =
    same_metadata _ _ _ _ c.bytes-2.ensures.metadata c.bytes-3.ensures.metadata c.bytes-2.ensures.spelling
    c.bytes-3.ensures.spelling (search rules) in
    let over = rw made at (sym (c.view.ensures.value ∙ c.in_ok-metadata.ensures) ∙ same) in
    IfOk-weaker c.collide_own.result _ _
    (λ t texts. (_, _, _, own, c.in_ok-matrix.ensures.matrix, c.in-One.ensures.found, inr (over, rw made at texts)))
    c.collide_own.ensures.texts
