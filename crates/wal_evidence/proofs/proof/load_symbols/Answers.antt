use Rattle.wal_evidence.proofs.Common.{◌∙◌, ap, arith, symbol_size, metadata_shown, proof_shown}
use Rattle.wal_evidence.proofs.Openings.{symbols_load}
use Rattle.wal_evidence.proofs.proof.load_symbols.Goals as goal

pub load-requires : goal.load-requires
load-requires g c =
    let m = metadata_shown c.args.m in
    let p = proof_shown c.args.p.now in
    symbols_load p.axis m.f m.length c.args.work.now.f c.symbol_size.result c.from.result c.shape.ensures.metadata.shape.2 c.requires.f
    (c.symbol_size.ensures.value ∙ ap (λ x. symbol_size x.f x.length) c.shape.ensures.value)
    (omega (arith, c.from.ensures, c.count.ensures.value, c.requires.count))
