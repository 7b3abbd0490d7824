use Rattle.wal_run.proofs.Common.{◌≡◌, ◌*◌, ℕ, min, ap₂, ◌<◌, arith, ◌∙◌, row_count, symbol_size}
use Rattle.wal_run.proofs.ShardTexts.{laid_short}
use Rattle.wal_run.proofs.envelope.laid_room.Goals as goal

pub returns-then-symbol_size-lt-LONG-clause-value : goal.returns-then-symbol_size-lt-LONG-clause-value
returns-then-symbol_size-lt-LONG-clause-value c =
    let shape = c.args.shape.now in
    let short : symbol_size shape.f shape.length < 8192 = omega (arith, c.if-symbol_size-lt-LONG.true, c.symbol_size.ensures.value) in
    c.sliver_len.ensures.value ∙ laid_short (row_count shape.f) (symbol_size shape.f shape.length) short

pub returns-clause-value : goal.returns-clause-value
returns-clause-value c =
    let shape = c.args.shape.now in
    let long : 8192 ≡ min (symbol_size shape.f shape.length) 8192 = omega (arith, c.if-symbol_size-lt-LONG.false, c.symbol_size.ensures.value) in
    ap₂ (λ (k s : ℕ). k * s) c.rows.ensures.value long
