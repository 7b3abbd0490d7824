-- What the metadata is judged by has a part that is not the matrix's own.
use Rattle.wal_extract.proofs.Common.{IfOk-weaker}
use Rattle.wal_extract.proofs.FalseParts.{false_one, false_sliver, openings_meet, slivers_meet}
use Rattle.wal_extract.proofs.verdicts.collide_basis.Goals as goal

pub collide_held-requires : goal.collide_held-requires
collide_held-requires g c =
    let r = c.requires in
    let lent = c.as_slice.ensures in
    let other = c.as_slice-in-Slivers.ensures in
    let kept = rw c.in-Slivers.is at r.held in
    let wrong = rw c.in-Slivers.is at r.other.2 in
    record {
      shape = rw r.shape r.fit.shape;
      apart = rw (r.shape, lent, other) (false_sliver _ _ _ _ r.fit r.other.1 _ _ kept wrong);
      meet = rw (r.shape, lent, other) (slivers_meet _ _ _ _ r.fit r.other.1 _ _ kept);
    }

pub collide_openings-requires : goal.collide_openings-requires
collide_openings-requires g c =
    let r = c.requires in
    let bad = rw c.in-Proof.is at r.held in
    record {
      shape = rw r.shape r.fit.shape;
      apart = rw (r.shape, c.view.ensures.value) (false_one _ _ _ _ r.fit r.other.1 _ bad);
      meet = rw (r.shape, c.view.ensures.value) (openings_meet _ _ _ _ r.fit r.other.1 _ bad);
    }

pub returns-in-Slivers-clause-texts : goal.returns-in-Slivers-clause-texts
returns-in-Slivers-clause-texts g c =
    IfOk-weaker c.collide_held.result _ _
    (λ t texts. rw c.in-Slivers.is (rw (c.as_slice.ensures, c.as_slice-in-Slivers.ensures) at texts))
    c.collide_held.ensures.texts

pub returns-in-Proof-clause-texts : goal.returns-in-Proof-clause-texts
returns-in-Proof-clause-texts g c =
    IfOk-weaker c.collide_openings.result _ _ (λ t texts. rw c.in-Proof.is (rw c.view.ensures.value at texts))
    c.collide_openings.ensures.texts
