use Rattle.wal_run.proofs.Common.{◌≡◌, length, refl, metadata_over, written, cut, finished, out_of_memory, Keeps-refl}
use Rattle.wal_run.proofs.Blobs.{encoded_is}
use Rattle.wal_run.proofs.encode.encode.Goals as goal

pub put_parcel-requires-clause-faults : goal.put_parcel-requires-clause-faults
unfolding metadata_over
put_parcel-requires-clause-faults g c = rw (c.in-Ok.ensures.metadata, c.in-Ok.ensures.shape) refl

pub put_parcel-requires-clause-format : goal.put_parcel-requires-clause-format
unfolding metadata_over
put_parcel-requires-clause-format g c = rw (c.in-Ok.ensures.metadata, c.in-Ok.ensures.shape) refl

pub put_parcel-requires-clause-fit : goal.put_parcel-requires-clause-fit
put_parcel-requires-clause-fit g c = rw (c.in-Ok.ensures.shape, c.shape_of-shape.ensures) (c.requires.least, c.requires.most, c.requires.small)

pub put_parcel-requires-clause-whole : goal.put_parcel-requires-clause-whole
put_parcel-requires-clause-whole g c =
    let long : length c.args.blob.now ≡ c.shape_of-shape.result.length = rw c.shape_of-shape.ensures refl in
    rw (c.in-Ok.ensures.shape, ← long) c.in-Ok.ensures.matrix.coded.size

pub returns-in-Ok-put_parcel-clause-performs : goal.returns-in-Ok-put_parcel-clause-performs
returns-in-Ok-put_parcel-clause-performs g c =
    let made = c.in-Ok.ensures in
    finished 0 _ (written _ (encoded_is _ _ _ _ _ _ _ _ _ c.shape_of-shape.ensures made.shape made.matrix made.metadata made.id) c.in-Ok-put_parcel.ensures.whole)

pub returns-in-Ok-clause-performs : goal.returns-in-Ok-clause-performs
returns-in-Ok-clause-performs g c =
    let made = c.in-Ok.ensures in
    finished 0 _ (cut _ (encoded_is _ _ _ _ _ _ _ _ _ c.shape_of-shape.ensures made.shape made.matrix made.metadata made.id)
    c.in-Err-put_parcel.ensures.fault c.in-Err-put_parcel.ensures.part)

pub returns-clause-performs : goal.returns-clause-performs
returns-clause-performs g c = out_of_memory (Keeps-refl _)
