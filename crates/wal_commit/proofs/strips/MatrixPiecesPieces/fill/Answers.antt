use Rattle.wal_commit.proofs.Common.{BlobState}
use Rattle.wal_commit.proofs.Symbols.{strip_of_symbols}
use Rattle.wal_commit.proofs.strips.MatrixPiecesPieces.fill.Goals as goal

pub returns-clause-strip : goal.returns-clause-strip
returns-clause-strip c =
    let b : BlobState = record { shape = c.self.inside.strips; bytes = c.self.inside.bytes.now } in
    rw (← c.self.view_is) (strip_of_symbols b c.args.from c.args.long c.fill.new.strip c.self.invariant c.fill.ensures.strip)
