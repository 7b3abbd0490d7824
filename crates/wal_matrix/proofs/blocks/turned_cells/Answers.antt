use Rattle.wal_matrix.proofs.Common.{◌≡◌, ℕ, ◌*◌, length, ap, ap₂, sym, ◌∙◌, row_count, column_count, symbol_size}
use Rattle.wal_matrix.proofs.PaddedLaws.{padded_long}
use Rattle.wal_matrix.proofs.blocks.turned_cells.Goals as goal

pub extended_block-requires-clause-block : goal.extended_block-requires-clause-block
extended_block-requires-clause-block c =
    let bytes = c.args.bytes.now in
    let f = c.args.shape.now.f in
    let s : c.symbol_size.result ≡ symbol_size f (length bytes) = c.symbol_size.ensures.value ∙ ap (λ (k : ℕ). symbol_size f k) (sym c.requires) in
    ap length c.deref.ensures.value ∙ ap length c.in_ok-block.ensures ∙ padded_long f bytes
    ∙ ap₂ (λ (k z : ℕ). row_count k * column_count k * z) (sym c.f-faults.ensures.value) (sym s)
