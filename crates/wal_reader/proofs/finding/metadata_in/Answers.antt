use Rattle.wal_reader.proofs.Common.{metadata_shown}
use Rattle.wal_reader.proofs.FirstOnes.{first_two, found_one}
use Rattle.wal_reader.proofs.finding.metadata_in.Goals as goal

pub returns-in-Some-other_metadata-clause-found : goal.returns-in-Some-other_metadata-clause-found
returns-in-Some-other_metadata-clause-found g c =
    rw c.as_slice-list.ensures at
    (first_two g.H.Hash32.digest c.args.id.now.0 c.as_slice-list.result.now (metadata_shown c.in-Some.m)
    (metadata_shown c.in-Some-other_metadata.other) (c.in-Some.ensures.some, c.in-Some-other_metadata.ensures.some))

pub returns-in-None-other_metadata-clause-found : goal.returns-in-None-other_metadata-clause-found
returns-in-None-other_metadata-clause-found g c =
    rw c.as_slice-list.ensures at (found_one g.H.Hash32.digest c.args.id.now.0 c.as_slice-list.result.now
    (metadata_shown c.in-Some.m) c.in-Some.ensures.some c.in-None-other_metadata.ensures.none)

pub returns-in-None-clause-found : goal.returns-in-None-clause-found
returns-in-None-clause-found g c = rw c.as_slice-list.ensures at c.in-None.ensures.none
