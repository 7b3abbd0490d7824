use Rattle.wal_gateway.proofs.Sound.{all_sound}
use Rattle.wal_gateway.proofs.gateway.Gateway.len.Goals as goal

pub returns-clause-sound : goal.returns-clause-sound
returns-clause-sound g c =
    let blobs = c.self.inside.blobs in
    let valid = c.len.ensures.valid in
    all_sound g.H.Hash32.digest c.args.self.now blobs.entries blobs.cap c.self.view_is c.self.invariant.0 c.self.invariant.1 valid.0 valid.1
