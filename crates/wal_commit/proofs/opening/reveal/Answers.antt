use Rattle.wal_commit.proofs.Common.{rules, ◌∙◌, arith, ap, metadata_shown, shard_count, symbol_size, IsOpeningOf}
use Rattle.wal_commit.proofs.Holding.{symbols_fit, symbol_within, whole_pieces}
use Rattle.wal_commit.proofs.HonestOpenings.{honest_opening}
use Rattle.wal_commit.proofs.opening.reveal.Goals as goal

pub expand-word-requires-clause-most : goal.expand-word-requires-clause-most
expand-word-requires-clause-most g c =
    let m = metadata_shown c.args.m in
    symbols_fit c.symbol_size-size.result m.f m.length c.args.work.now.f
    (c.symbol_size-size.ensures.value ∙ ap (λ s. symbol_size s.f s.length) c.shape.ensures.value) c.requires.f c.shape.ensures.metadata.shape.2

pub open_at-requires-clause-whole : goal.open_at-requires-clause-whole
open_at-requires-clause-whole g c = whole_pieces (shard_count c.args.work.now.f) _ _ c.expand-word.ensures.word.coded.size

pub open_at-requires-clause-place : goal.open_at-requires-clause-place
open_at-requires-clause-place g c =
    symbol_within (shard_count c.args.work.now.f) c.symbol_size-size.result c.args.index _ c.expand-word.ensures.word.coded.size
    (omega (arith, c.requires.f, c.requires.index))

pub returns-clause-holds : goal.returns-clause-holds
returns-clause-holds g c =
    let m = metadata_shown c.args.m in
    let is : IsOpeningOf g.H.Hash32.digest m c.args.axis c.args.index c.args.sliver.now (record { cross = c.args.cross; symbol = c.open_at.new.symbol; path = c.open_at.new.out }) =
    search rules in
    honest_opening g.H.Hash32.digest g.met.H.Hash32.size m c.args.axis c.args.index c.args.sliver.now _ c.shape.ensures.metadata.shape.1
    c.requires.index c.requires.sliver is
