use Rattle.wal_shard.proofs.Common.{ap, ◌∙◌, List, ℕ, [], Option, unwrap_or, metadata_shown}
use Rattle.wal_shard.proofs.HeldLaws.{own_metadata, read_own}
use Rattle.wal_shard.proofs.shard.Shard.held_metadata.Goals as goal

pub read_metadata-requires : goal.read_metadata-requires
read_metadata-requires g c =
    let own = own_metadata _ _ _ _ _ (c.sound.ensures.sound c.args.id.now) c.requires.held in
    (own.0, own.1.held.fit, c.requires.bytes ∙ ap (λ (o : Option (List ℕ)). unwrap_or o []) own.1.held.spelled)

pub returns : goal.returns
returns g c =
    read_own _ _ _ _ _ (metadata_shown c.read_metadata.result) c.args.bytes.now
    (c.sound.ensures.sound c.args.id.now) c.requires.held
    c.requires.bytes c.read_metadata.ensures.metadata c.read_metadata.ensures.spelled
