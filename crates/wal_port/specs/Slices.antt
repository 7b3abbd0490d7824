-- What contracts see of a source and a sink over slices.
use Rattle.std.specs.Prelude.{ℕ, List, ◌∷◌, ◌++◌, length, take}
use Rattle.wal_port.specs.declared.slices.SliceSource.{SliceSource}
use Rattle.wal_port.specs.declared.slices.SliceSink.{SliceSink}

-- the bytes that are still to come
abbrev pub slice_left : SliceSource → List ℕ
slice_left source = source.left.now

-- the text that was taken, of which the front stands in the room
abbrev pub slice_text : SliceSink → List ℕ
slice_text sink = take sink.count sink.room.now ++ sink.beyond.bytes

-- what distinguishes the sink from others, and stands before its text: the name of the reference to
-- its room, how many bytes have room, and which bytes stood there first
abbrev pub slice_mark : SliceSink → List ℕ
slice_mark sink = sink.room.ghost_name ∷ length sink.room.now ∷ sink.first.bytes
