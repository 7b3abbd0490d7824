use Rattle.wal_world.proofs.Common.{IfOk-weaker, side_of, held, world_of}
use Rattle.wal_world.proofs.Recoveries.{own_is}
use Rattle.wal_world.proofs.network.Network.known.Goals as goal

pub returns : goal.returns
returns g c =
    let w = world_of c.args.self.now in
    let parts = held (side_of c.args.side w) c.args.shard c.args.id.now in
    let own = own_is g.H.Hash32.digest w.log.f c.args.id.now.0 parts c.in_ok-own.own c.in_ok-own.ensures.held c.in_ok-own.ensures.none in
    IfOk-weaker c.known_in.result _ _ (λ known h. h w.log.f parts own) c.known_in.ensures
