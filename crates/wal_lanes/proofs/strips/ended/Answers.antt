use Rattle.wal_lanes.proofs.Taken.{taken_all}
use Rattle.wal_lanes.proofs.strips.ended.Goals as goal

pub returns : goal.returns
returns c = λ k l prefix piece all same held.
    taken_all k prefix c.args.seen c.args.long piece c.args.strip.now c.args.group c.after_whole_blocks-whole.result c.after_last_blocks.result
    c.requires.edge all same held (c.after_whole_blocks-whole.ensures k l) (c.after_last_blocks.ensures k l)
