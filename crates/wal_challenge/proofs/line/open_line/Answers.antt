use Rattle.wal_challenge.proofs.LevelLaws.{path_whole}
use Rattle.wal_challenge.proofs.line.open_line.Goals as goal

pub from_vec-requires-2 : goal.from_vec-requires-2
from_vec-requires-2 g c = path_whole g.H.Hash32.digest g.met.H.Hash32.size c.args.size c.args.place c.as_slice-symbols.result.now c.in_ok-path.path.items c.in_ok-path.ensures
