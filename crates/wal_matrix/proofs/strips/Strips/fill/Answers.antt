use Rattle.wal_matrix.proofs.Common.{rules, ◌≡◌, ◌∙◌}
use Rattle.wal_matrix.proofs.StripLaws.{room_by_rows}
use Rattle.wal_matrix.proofs.strips.Strips.fill.Goals as goal

pub fill_rows-requires-clause-room : goal.fill_rows-requires-clause-room
fill_rows-requires-clause-room c =
    let same : c.f-faults.result ≡ c.args.self.now.f = search rules in
    room_by_rows c.f-faults.result c.args.self.now.f c.args.long c.args.strip.now same c.requires.room

pub extend_rows-requires-clause-room : goal.extend_rows-requires-clause-room
extend_rows-requires-clause-room c =
    let same : c.f-faults.result ≡ c.args.self.now.f = search rules in
    c.fill_rows.ensures.long ∙ room_by_rows c.f-faults.result c.args.self.now.f c.args.long c.args.strip.now same c.requires.room
