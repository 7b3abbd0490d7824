-- The sink that `run` leaves is the one over this room, since its text follows what stood in that one.
use Rattle.walrus_c.proofs.Common.{◌<◌, ◌^◌, length, map, string_bytes, rules, sha256}
use Rattle.wal_port.specs.Slices.{slice_mark, slice_text}
use Rattle.walrus_c.proofs.Calls.{ran}
use Rattle.walrus_c.proofs.call.run_over.Goals as goal

pub returns : goal.returns
returns c =
    let begun = c.create-sink.result in
    let left = c.run-status.new.sink in
    let told = c.run-status.ensures in
    let fits : length c.args.room.now < 2 ^ 63 = search rules in
    ran sha256 (map string_bytes c.args.words.now.items) c.args.input.now _ _ c.args.room.now _ (slice_mark begun) (slice_text begun) left.room.now
    left.first.bytes left.beyond.bytes _ _ c.run-status.result left.count c.count.result c.create-source.ensures.left c.create-sink.ensures.mark
    c.create-sink.ensures.text left.whole left.counted left.untouched (record {
      ends = told.ends;
      headline = told.headline;
      causes = told.causes;
      exact = told.exact;
      nothing_asked = told.nothing_asked;
      complete = told.complete;
      only = told.only;
    }) c.count.ensures fits (λ same. c.room-1.given.1.1 same)
