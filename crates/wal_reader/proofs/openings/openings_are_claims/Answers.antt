use Rattle.wal_reader.proofs.ClaimLaws.{claims_openings}
use Rattle.wal_reader.proofs.openings.openings_are_claims.Goals as goal

pub returns : goal.returns
returns c = claims_openings
