use Rattle.wal_frame.proofs.Common.{opening_shown}
use Rattle.wal_frame.proofs.BufferLaws.{body_written}
use Rattle.wal_frame.proofs.writing.put_body.Goals as goal

pub returns : goal.returns
returns c =
    rw (c.put-2.ensures, c.put.ensures, c.put_symbol.ensures.text) (body_written c.args.out.now (opening_shown c.args.opening) c.requires.opening)
