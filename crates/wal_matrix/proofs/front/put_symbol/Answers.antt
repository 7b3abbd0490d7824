use Rattle.wal_matrix.proofs.Common.{◌≡◌, ◌+◌, ◌-◌, ◌<◌, ℕ, sym, ap, arith, ◌∙◌, shard_count, column_count, symbol}
use Rattle.wal_matrix.proofs.FrontLaws.{source_place}
use Rattle.wal_matrix.proofs.RowLaws.{block_symbol}
use Rattle.wal_matrix.proofs.Symbols.{symbol_is}
use Rattle.wal_matrix.proofs.front.put_symbol.Goals as goal

pub put_bytes-requires : goal.put_bytes-requires
put_bytes-requires c = record {
  place = omega (arith, source_place c.args.faults c.args.size c.args.row c.args.column c.requires.row c.if-column-columns.true, c.requires.fits, c.requires.room);
}

pub returns-then-column-columns-clause-symbol : goal.returns-then-column-columns-clause-symbol
returns-then-column-columns-clause-symbol c =
    λ e is.
    let own = block_symbol c.args.faults c.args.size c.args.bytes.now c.put_bytes.new.out c.args.row c.args.column c.requires.size c.requires.row
    c.if-column-columns.true (c.put_bytes.ensures.long ∙ c.requires.room)
    (λ i h. c.put_bytes.ensures.bytes i (omega (arith, c.requires.room))) in
    cc (own, c.requires.size, is.source c.args.row c.args.column c.requires.row c.if-column-columns.true)

pub returns-else-column-columns-clause-symbol : goal.returns-else-column-columns-clause-symbol
returns-else-column-columns-clause-symbol c =
    λ e is.
    let f = c.args.faults in
    let m = column_count f in
    let k = c.args.column - m in
    let past : m + k ≡ c.args.column = omega (arith, c.if-column-columns.false) in
    let inside : k < f = omega (arith, c.if-column-columns.false, c.requires.column) in
    c.copy_from_slice.ensures.after ∙ c.region.ensures.run
    ∙ sym (symbol_is f c.args.size c.args.kept.now c.args.row k)
    ∙ c.requires.kept.symbols e is c.args.row k c.requires.row inside
    ∙ ap (λ (z : ℕ). symbol (shard_count f) c.args.size e c.args.row z) past
