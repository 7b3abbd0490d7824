use Rattle.wal_run.proofs.Common.{length-append, arith, secondary_of, symbol_bytes, secondary_long}
use Rattle.wal_run.proofs.slivers.put_laid.Goals as goal

pub returns-clause-whole : goal.returns-clause-whole
returns-clause-whole g c = rw (c.bytes.ensures, c.lay_column.ensures) at c.put_all.ensures.whole

pub returns-clause-part : goal.returns-clause-part
returns-clause-part g c = rw (c.bytes.ensures, c.lay_column.ensures) at c.put_all.ensures.part

pub returns-clause-buffer : goal.returns-clause-buffer
returns-clause-buffer g c =
    let e = c.args.encoded.now in
    let long = secondary_long e.shape.f (symbol_bytes e) e.cells c.args.index c.requires.whole c.requires.index in
    rw c.lay_column.ensures
    (omega (arith, long, c.requires.room, length-append c.args.out.now.bytes (secondary_of e.shape.f (symbol_bytes e) e.cells c.args.index)))
