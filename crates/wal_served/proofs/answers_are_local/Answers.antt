use Rattle.wal_served.proofs.Alike.{answers_alike, answers_with_room, wants_for_more}
use Rattle.wal_served.proofs.Apart.{leaves_alike, reads_rest_on}
use Rattle.wal_served.proofs.Left.{serves_what_is_left}
use Rattle.wal_served.proofs.Rebuilt.{rebuilds}
use Rattle.wal_served.proofs.answers_are_local.Goals as goal

pub returns : goal.returns
returns g c = record {
  alike = answers_alike g.H.Hash32.digest;
  room = answers_with_room g.H.Hash32.digest;
  want = wants_for_more g.H.Hash32.digest;
  others = leaves_alike g.H.Hash32.digest;
  left = serves_what_is_left g.H.Hash32.digest;
  reads = reads_rest_on g.H.Hash32.digest;
  fed = rebuilds g.H.Hash32.digest;
}
