use Rattle.wal_world.proofs.Common.{None, true, refl, frame_shown, PutsOrWants, desk_of, side_of, contents_of, with_members, world_of}
use Rattle.wal_world.proofs.Placing.{members_are, members_reach, placed_at}
use Rattle.wal_world.proofs.Puts.{answered_is, put_is}
use Rattle.wal_world.proofs.network.Network.put_at.Goals as goal

pub put-requires-clause-shards : goal.put-requires-clause-shards
put-requires-clause-shards g c = members_are c.args.at c.of_mut.ensures.value (rw c.ledger_in-ledger.ensures) c.requires.network c.requires.present

pub put-requires-clause-shard : goal.put-requires-clause-shard
put-requires-clause-shard g c = members_reach c.args.at c.of_mut.ensures.value c.requires.network c.requires.present c.requires.shard

pub returns-in_default : goal.returns-in_default
returns-in_default g c =
    let old = c.args.self.now in
    let h = placed_at c.args.at old (record old { sides = with_members c.args.at old.sides c.put.new.self; work = c.put.new.work }) c.put.new.self c.args.shard
    (λ log m x. PutsOrWants g.H.Hash32.digest true (desk_of log.f c.args.shard None log) m (frame_shown c.args.frame.now) c.put.result x)
    c.of_mut.ensures.value c.ledger_in-ledger.ensures refl c.put.ensures.f c.put.ensures.puts in
    let log = (world_of old).log in
    let held = contents_of (side_of c.args.at (world_of old)) c.args.shard in
    let frame = frame_shown c.args.frame.now in
    let answered = answered_is g.H.Hash32.digest log.f c.args.shard log held h.0 frame c.put.result h.1 c.in_default.not-Memory in
    record {
      puts = (h.0, put_is g.H.Hash32.digest log.f c.args.shard log held h.0 frame c.put.result c.requires.frame h.1 answered, h.2);
      answered = answered;
    }
