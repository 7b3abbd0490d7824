use Rattle.wal_challenge.proofs.Common.{◌∙◌, length, ap, refl, arith, metadata_shown, shard_count, symbol_size}
use Rattle.wal_commit.proofs.Holding.{symbols_fit}
use Rattle.wal_commit.proofs.LeafTables.{whole_pieces}
use Rattle.wal_challenge.proofs.line.line_of.Goals as goal

pub codeword_of-requires-clause-most : goal.codeword_of-requires-clause-most
codeword_of-requires-clause-most g c =
    let m = metadata_shown c.args.m in
    symbols_fit c.symbol_size-size.result m.f m.length c.args.work.now.f
    (c.symbol_size-size.ensures.value ∙ ap (λ s. symbol_size s.f s.length) c.shape.ensures.value) c.requires.f c.shape.ensures.metadata.shape.2

pub levels_over-requires-clause-whole : goal.levels_over-requires-clause-whole
levels_over-requires-clause-whole g c =
    whole_pieces (shard_count c.args.work.now.f) c.symbol_size-size.result c.symbol_size-size.result (length c.deref.result.now)
    (omega (arith, c.symbol_size-size.ensures.least.positive)) refl (ap length c.deref.ensures.value ∙ c.in_ok-symbols.ensures.word.coded.size)
