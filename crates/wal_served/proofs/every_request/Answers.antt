use Rattle.wal_served.proofs.Common.{⊤}
use Rattle.wal_served.proofs.Reached.{serves_reached}
use Rattle.wal_served.proofs.Steps.{answered_steps}
use Rattle.wal_served.proofs.every_request.Goals as goal

pub returns : goal.returns
returns g c = record {
  request = answered_steps g.H.Hash32.digest;
  serving = λ may_want room limit fresh taken frames state end d serves. serves_reached g.H.Hash32.digest may_want room limit fresh taken ⊤ ⊤ ⊤ frames state end d serves;
}
