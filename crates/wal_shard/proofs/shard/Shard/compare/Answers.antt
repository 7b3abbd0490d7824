use Rattle.wal_shard.proofs.Common.{rules, ◌≡◌, metadata_shown, metadata_text, parts_at}
use Rattle.wal_shard.proofs.Pieces.{another}
use Rattle.wal_shard.proofs.shard.Shard.compare.Goals as goal

pub returns : goal.returns
returns g c =
    let p = parts_at c.args.self.now.contents c.args.id.now in
    let a = another p.metadata (metadata_text (metadata_shown c.args.m)) c.requires.held (search rules) in
    let texts = c.clash_in.ensures.texts in
    let own : a.0 ≡ metadata_text texts.0 = cc (a.1, texts.1.spelled) in
    (a.0, a.1, a.2, c.clash_in.ensures.collision, texts.0, texts.1.fit, own, texts.2)
