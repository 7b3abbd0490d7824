use Rattle.wal_world.proofs.Common.{rules, ◌<◌, ◌^◌, length, arith, IsStream}
use Rattle.wal_world.proofs.ReplyTexts.{is_stream, not_malformed}
use Rattle.wal_world.proofs.reading.take_payloads.Goals as goal

pub unreachable-requires : goal.unreachable-requires
unreachable-requires c =
    let h = c.requires in
    let few : length c.args.buffer.now.bytes < 2 ^ 32 = omega (arith, c.clear.ensures.spare, c.spare-room.ensures, c.spare-room.type_inv) in
    let stream : IsStream h.1 c.bytes.result.now = is_stream h.0 h.1 c.bytes.result.now (search rules) (search rules) in
    not_malformed c.split-payloads.result c.in-Err.fault c.in-Malformed.field-0 h.1 c.in-Err.is c.in-Malformed.is (c.split-payloads.ensures.only h.1 stream)

pub returns-in-Ok-clause-payloads : goal.returns-in-Ok-clause-payloads
returns-in-Ok-clause-payloads c sender payloads h =
    let few : length c.args.buffer.now.bytes < 2 ^ 32 = omega (arith, c.clear.ensures.spare, c.spare-room.ensures, c.spare-room.type_inv) in
    let stream : IsStream payloads c.bytes.result.now = is_stream sender payloads c.bytes.result.now (search rules) (search rules) in
    let e = c.in-Ok.ensures.only payloads stream in
    cc
