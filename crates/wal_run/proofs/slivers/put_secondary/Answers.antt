use Rattle.wal_run.proofs.Common.{◌≡◌, ◌*◌, ◌<◌, ℕ, length, arith, BlobShape, row_count, symbol_size, secondary_of, symbol_bytes, shards, secondary_long}
use Rattle.wal_matrix.specs.Matrix.{EncodedBlob}
use Rattle.wal_run.proofs.ShardTexts.{laid_short, sliver_fits}
use Rattle.wal_run.proofs.slivers.put_secondary.Goals as goal

-- a sliver is as long as its shape says
long_as : (e : EncodedBlob) (index : ℕ) {size : ℕ} {shape : BlobShape} → shape ≡ e.shape → size ≡ row_count shape.f * symbol_size shape.f shape.length
    → length e.cells ≡ shards e * shards e * symbol_bytes e → index < shards e → length (secondary_of e.shape.f (symbol_bytes e) e.cells index) ≡ size
long_as e index is size_is whole within = rw (size_is, is) (secondary_long e.shape.f (symbol_bytes e) e.cells index whole within)

pub begin_sliver-requires-clause-size : goal.begin_sliver-requires-clause-size
begin_sliver-requires-clause-size g c =
    sliver_fits _ _ (row_count c.args.encoded.now.shape.f) _ c.requires.fit (omega arith) (rw c.shape-shape.ensures at c.sliver_len-size.ensures.value)

pub put_laid-requires-clause-room : goal.put_laid-requires-clause-room
put_laid-requires-clause-room g c =
    let e = c.args.encoded.now in
    let short : symbol_bytes e < 8192 = omega (arith, c.if-symbol_size-lt-LONG.true, rw c.shape-shape.ensures at c.symbol_size.ensures.value) in
    omega (arith, laid_short (row_count e.shape.f) (symbol_bytes e) short, c.requires.buffer, c.begin_sliver.ensures.long, c.begin_sliver.ensures.buffer)

pub returns-then-symbol_size-lt-LONG-clause-whole : goal.returns-then-symbol_size-lt-LONG-clause-whole
returns-then-symbol_size-lt-LONG-clause-whole g c =
    let long = long_as c.args.encoded.now c.args.index c.shape-shape.ensures c.sliver_len-size.ensures.value c.requires.whole c.requires.index in
    rw (c.begin_sliver.ensures.joins _ long) at c.put_laid.ensures.whole

pub returns-then-symbol_size-lt-LONG-clause-part : goal.returns-then-symbol_size-lt-LONG-clause-part
returns-then-symbol_size-lt-LONG-clause-part g c =
    let long = long_as c.args.encoded.now c.args.index c.shape-shape.ensures c.sliver_len-size.ensures.value c.requires.whole c.requires.index in
    rw (c.begin_sliver.ensures.joins _ long) at c.put_laid.ensures.part

pub returns-else-symbol_size-lt-LONG-clause-whole : goal.returns-else-symbol_size-lt-LONG-clause-whole
returns-else-symbol_size-lt-LONG-clause-whole g c =
    let long = long_as c.args.encoded.now c.args.index c.shape-shape.ensures c.sliver_len-size.ensures.value c.requires.whole c.requires.index in
    rw (c.begin_sliver.ensures.joins _ long) at c.put_apart.ensures.whole

pub returns-else-symbol_size-lt-LONG-clause-part : goal.returns-else-symbol_size-lt-LONG-clause-part
returns-else-symbol_size-lt-LONG-clause-part g c =
    let long = long_as c.args.encoded.now c.args.index c.shape-shape.ensures c.sliver_len-size.ensures.value c.requires.whole c.requires.index in
    rw (c.begin_sliver.ensures.joins _ long) at c.put_apart.ensures.part
