use Rattle.wal_shard.proofs.Common.{◌∙◌, arith, ap, metadata_shown, shard_count, symbol_size}
use Rattle.wal_commit.proofs.Holding.{symbols_fit, symbol_within, whole_pieces}
use Rattle.wal_shard.proofs.replying.put_opening.Goals as goal

pub expand_loaded-word-requires-clause-most : goal.expand_loaded-word-requires-clause-most
expand_loaded-word-requires-clause-most g c =
    let m = metadata_shown c.args.m in
    symbols_fit c.symbol_size-size.result m.f m.length c.args.work.now.f
    (c.symbol_size-size.ensures.value ∙ ap (λ s. symbol_size s.f s.length) c.shape.ensures.value) c.requires.f c.shape.ensures.metadata.shape.2

pub write_opening-requires-clause-whole : goal.write_opening-requires-clause-whole
write_opening-requires-clause-whole g c = whole_pieces (shard_count c.args.work.now.f) _ _ c.expand_loaded-word.ensures.word.coded.size

pub write_opening-requires-clause-place : goal.write_opening-requires-clause-place
write_opening-requires-clause-place g c =
    symbol_within (shard_count c.args.work.now.f) c.symbol_size-size.result c.args.index _ c.expand_loaded-word.ensures.word.coded.size
    (omega (arith, c.requires.f, c.requires.index))
