use Rattle.wal_bundle.proofs.Common.{inl, inr, rules, IfOk-weaker, metadata_shown, same_metadata}
use Rattle.wal_bundle.proofs.Truths.{not_one, not_contrary}
use Rattle.wal_bundle.proofs.collisions.member_collision.Goals as goal

pub unreachable-requires : goal.unreachable-requires
unreachable-requires g c =
    not_one _ _ _ c.metadata_in.result _ c.metadata_in.ensures.found c.requires.left_told.1 c.in_default.not-One

pub unreachable-requires-in_default-metadata_in : goal.unreachable-requires-in_default-metadata_in
unreachable-requires-in_default-metadata_in g c =
    not_one _ _ _ c.metadata_in-2.result _ c.metadata_in-2.ensures.found c.requires.right_told.1
    c.in_default-metadata_in.not-One

pub collide_columns-requires : goal.collide_columns-requires
collide_columns-requires g c = λ agree.
    let is =
    same_metadata _ _ _ _ c.bytes.ensures.metadata c.bytes-2.ensures.metadata c.bytes.ensures.spelling
    c.bytes-2.ensures.spelling (search rules) in
    not_contrary _ _ _ _ _ (metadata_shown c.in-One.left) c.requires c.in-One.ensures.found
    (rw (← is) at c.in-One-metadata_in.ensures.found) agree

pub returns-then-ne-clause-texts : goal.returns-then-ne-clause-texts
returns-then-ne-clause-texts g c =
    IfOk-weaker c.metadatas.result _ _
    (λ t texts. (_, _, c.in-One.ensures.found, c.in-One-metadata_in.ensures.found, inl texts)) c.metadatas.ensures.texts

pub returns-clause-texts : goal.returns-clause-texts
returns-clause-texts g c =
    let is =
    same_metadata _ _ _ _ c.bytes.ensures.metadata c.bytes-2.ensures.metadata c.bytes.ensures.spelling
    c.bytes-2.ensures.spelling (search rules) in
    IfOk-weaker c.collide_columns.result _ _
    (λ t texts. (_, _, c.in-One.ensures.found, c.in-One-metadata_in.ensures.found, inr (is, rw (← is) texts)))
    c.collide_columns.ensures.texts
