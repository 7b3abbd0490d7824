use Rattle.wal_matrix.proofs.Common.{ℕ, length, ap, sym, ◌∙◌, symbol_size}
use Rattle.wal_matrix.proofs.blocks.extended_cells.Goals as goal

pub extended_rows-requires-clause-size : goal.extended_rows-requires-clause-size
extended_rows-requires-clause-size c =
    let f = c.args.shape.now.f in
    c.symbol_size-size.ensures.value ∙ ap (λ (k : ℕ). symbol_size f k) (sym c.requires)
    ∙ ap (λ (g : ℕ). symbol_size g (length c.args.bytes.now)) (sym c.f-faults.ensures.value)
