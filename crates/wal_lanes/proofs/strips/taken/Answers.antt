use Rattle.wal_lanes.proofs.Taken.{taken_more}
use Rattle.wal_lanes.proofs.strips.taken.Goals as goal

pub returns : goal.returns
returns c = λ k l prefix seen piece edge within same held.
    taken_more k prefix seen c.args.long piece c.args.strip.now c.args.group (record { state = c.after_whole_blocks.result; last = c.last_bytes.result })
    c.requires.some c.requires.whole edge within same held (c.after_whole_blocks.ensures k l) (c.last_bytes.ensures k l)
