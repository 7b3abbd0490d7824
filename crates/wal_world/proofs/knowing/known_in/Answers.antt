use Rattle.wal_world.proofs.Recoveries.{only_held, none_both}
use Rattle.wal_world.proofs.knowing.known_in.Goals as goal

pub returns-in-Some : goal.returns-in-Some
returns-in-Some g c f parts h = only_held g.H.Hash32.digest f c.args.id.now parts c.args.payloads.now c.in-Some.own c.args.own c.in-Absent.ensures.found c.in-Some.is h

pub returns-in-None : goal.returns-in-None
returns-in-None g c f parts h = none_both g.H.Hash32.digest f c.args.id.now parts c.args.payloads.now c.args.own c.in-Absent.ensures.found c.in-None.is h
