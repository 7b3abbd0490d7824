use Rattle.wal_lanes.proofs.LaneLemmas.{HasLanes-listed}
use Rattle.wal_lanes.proofs.Common.{ℕ, ◌+◌, ◌*◌, ◌-◌, slice_index}
use Rattle.wal_lanes.proofs.strips.last_bytes.Goals as goal

pub returns : goal.returns
returns c =
    (HasLanes-listed {t = λ (k : ℕ). slice_index c.args.strip.now (k * c.args.long + (c.args.long - 1))} c.last_byte.ensures c.last_byte-2.ensures c.last_byte-3.ensures c.last_byte-4.ensures
    c.last_byte-5.ensures c.last_byte-6.ensures c.last_byte-7.ensures c.last_byte-8.ensures).each
