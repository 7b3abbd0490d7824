use Rattle.wal_kernel.proofs.Common.{◌≡◌, ◌+◌, arith}
use Rattle.wal_kernel.proofs.lanes.add_merged.Goals as goal

pub returns : goal.returns
returns c f old highs lows sum =
    let at = c.args.at in
    let end : at + 32 + 32 ≡ at + 64 = omega arith in
    rw end at (c.add-2.ensures f old (c.merged.ensures.second f at highs lows) (c.add.ensures f old (c.merged.ensures.first f at highs lows) sum))
