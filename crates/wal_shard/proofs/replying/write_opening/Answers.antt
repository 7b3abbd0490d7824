use Rattle.wal_shard.proofs.Common.{rules, ap, length, arith}
use Rattle.wal_shard.proofs.ReplyLaws.{path_short}
use Rattle.wal_shard.proofs.replying.write_opening.Goals as goal

pub append_opening-requires-clause-body : goal.append_opening-requires-clause-body
append_opening-requires-clause-body g c =
    let low = path_short (length c.args.word.now) c.args.size c.requires.piece c.requires.within in
    record {
      cross = c.requires.cross;
      symbol = search rules;
      path = omega (arith, c.path.ensures.holds.long, low, ap length c.bytes.ensures);
      whole = omega (arith, c.path.ensures.holds.long, low, ap length c.bytes.ensures);
    }

pub append_opening-requires-clause-room : goal.append_opening-requires-clause-room
append_opening-requires-clause-room g c =
    let low = path_short (length c.args.word.now) c.args.size c.requires.piece c.requires.within in
    omega (arith, c.path.ensures.holds.long, low, ap length c.bytes.ensures, c.requires.room)

pub returns-clause-room : goal.returns-clause-room
returns-clause-room g c =
    let low = path_short (length c.args.word.now) c.args.size c.requires.piece c.requires.within in
    omega (arith, c.path.ensures.holds.long, low, ap length c.bytes.ensures, c.append_opening.ensures.room)
