-- What contracts see of a sink in memory.
use Rattle.std.specs.Prelude.{ℕ, List}
use Rattle.wal_port.specs.declared.mem_sink.MemSink.{MemSink}

-- the bytes that were written
abbrev pub sink_written : MemSink → List ℕ
sink_written sink = sink.bytes.items

-- the most bytes that it takes in all
abbrev pub sink_room : MemSink → ℕ
sink_room sink = sink.room

-- the most bytes that it takes in one call
abbrev pub sink_piece : MemSink → ℕ
sink_piece sink = sink.piece

-- the numbers of the calls that fail
abbrev pub sink_fails : MemSink → List ℕ
sink_fails sink = sink.fails.items

-- how many calls there were, up to 2 ^ 64 - 1
abbrev pub sink_calls : MemSink → ℕ
sink_calls sink = sink.calls

-- how many of them failed, up to 2 ^ 64 - 1
abbrev pub sink_faults : MemSink → ℕ
sink_faults sink = sink.faults
