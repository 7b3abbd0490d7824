use Rattle.wal_evidence.proofs.Common.{◌*◌, ap, sym, ◌∙◌, shard_count, symbol_size, metadata_shown}
use Rattle.wal_commit.proofs.Holding.{whole_pieces}
use Rattle.wal_evidence.proofs.codeword.root_holds.Goals as goal

pub root-requires-clause-whole : goal.root-requires-clause-whole
root-requires-clause-whole g c =
    let m = metadata_shown c.args.m in
    whole_pieces (shard_count m.f) c.symbol_size-size.result _
    (c.requires.size ∙ ap (λ s. shard_count m.f * s) (sym (c.symbol_size-size.ensures.value ∙ ap (λ s. symbol_size s.f s.length) c.shape.ensures.value)))
