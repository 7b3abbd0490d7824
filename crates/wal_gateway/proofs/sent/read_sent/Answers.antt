-- The reader stands for the whole stream.
use Rattle.wal_gateway.proofs.Common.{[]}
use Rattle.wal_gateway.proofs.RequestLaws.{read_answer}
use Rattle.wal_gateway.proofs.sent.read_sent.Goals as goal

pub returns-in-Ok-finish : goal.returns-in-Ok-finish
returns-in-Ok-finish g c = λ payloads is.
    let digest = g.H.Hash32.digest in
    let id = c.args.id.now.0 in
    let sent = c.args.sent.now in
    let stands = (c.in-Ok.ensures.feeds id [] c.in_ok-reader.ensures).0 in
    read_answer digest id sent c.in-Ok-finish.answer (c.in-Ok-finish.ensures.finishes id sent stands) payloads is
