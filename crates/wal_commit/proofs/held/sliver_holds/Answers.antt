use Rattle.wal_commit.proofs.Common.{◌∙◌, ap, metadata_shown, shard_count, symbol_size}
use Rattle.wal_commit.proofs.Holding.{symbols_fit, whole_pieces}
use Rattle.wal_commit.proofs.held.sliver_holds.Goals as goal

pub expand-word-requires-clause-most : goal.expand-word-requires-clause-most
expand-word-requires-clause-most g c =
    let m = metadata_shown c.args.m in
    symbols_fit c.symbol_size-size.result m.f m.length c.args.work.now.f
    (c.symbol_size-size.ensures.value ∙ ap (λ s. symbol_size s.f s.length) c.shape-shape.ensures.value) c.requires c.shape-shape.ensures.metadata.shape.2

pub has_root-requires-clause-whole : goal.has_root-requires-clause-whole
has_root-requires-clause-whole g c = whole_pieces (shard_count c.args.work.now.f) _ _ c.expand-word.ensures.word.coded.size
