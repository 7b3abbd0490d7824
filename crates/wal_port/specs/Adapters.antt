-- What contracts see of a reader or a writer behind its adapter.
use Rattle.std.specs.Prelude.{ℕ}
use Rattle.wal_port.specs.declared.adapters.StdSource.{StdSource}
use Rattle.wal_port.specs.declared.adapters.StdSink.{StdSink}

module _ {R : Type 0} where
  -- the reader itself
  abbrev pub inner_reader : StdSource R → R
  inner_reader port = port.reader

  -- how many reads failed, up to 2 ^ 64 - 1
  abbrev pub reader_faults : StdSource R → ℕ
  reader_faults port = port.faults

module _ {W : Type 0} where
  -- the writer itself
  abbrev pub inner_writer : StdSink W → W
  inner_writer port = port.writer

  -- how many writes failed or took nothing, up to 2 ^ 64 - 1
  abbrev pub writer_faults : StdSink W → ℕ
  writer_faults port = port.faults
