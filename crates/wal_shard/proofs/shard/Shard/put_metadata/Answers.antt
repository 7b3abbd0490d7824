use Rattle.wal_shard.proofs.Common.{rules, metadata_shown, desk}
use Rattle.wal_shard.proofs.Soundness.{metadata_sound}
use Rattle.wal_shard.proofs.PutLaws.{compared_puts}
use Rattle.wal_shard.proofs.shard.Shard.put_metadata.Goals as goal

pub store-requires-clause-sound : goal.store-requires-clause-sound
store-requires-clause-sound g c =
    let s = c.args.self.now in
    let id = c.identify-id.result in
    rw c.bytes.ensures.spelling
    (metadata_sound g.H.Hash32.digest s.f s.index id.0 _ (metadata_shown c.args.m) c.identify-id.ensures
    (search rules) (search rules) (c.sound.ensures.sound id))

pub returns-then-has-clause-puts : goal.returns-then-has-clause-puts
returns-then-has-clause-puts g c =
    let s = c.args.self.now in
    compared_puts g.H.Hash32.digest g.K.Keep.may_want (desk s c.args.ledger.now.log) s.contents
    (metadata_shown c.args.m) c.identify-id.result
    c.compare.result (search rules) (record { live = search rules; verified = search rules }) c.compare.ensures
