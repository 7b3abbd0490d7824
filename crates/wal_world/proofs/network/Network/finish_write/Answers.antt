use Rattle.wal_world.proofs.Common.{rules, ◌≡◌, ◌∙◌, arith, committee_size, world_of, messages_of}
use Rattle.wal_world.proofs.WriteEnds.{answer_differs, put_clashes, write_done}
use Rattle.wal_world.proofs.WriteSteps.{ascending_below, ascending_few}
use Rattle.wal_world.proofs.network.Network.finish_write.Goals as goal

pub put_messages-requires-clause-to : goal.put_messages-requires-clause-to
put_messages-requires-clause-to g c = ascending_below 0 (committee_size (world_of c.args.self.now).log.f) c.args.to.now c.requires.shards

pub complete-requires-clause-answer : goal.complete-requires-clause-answer
complete-requires-clause-answer g c =
    let copied : c.from_vec-copy.result ≡ c.args.blob.now = c.from_vec-copy.ensures ∙ c.in_ok-from_slice.ensures.items in
    let same : c.put_messages.new.self.books ≡ c.args.self.now.books = search rules in
    ((world_of c.args.self.now).format, rw (copied, c.id-id.ensures.value, same) c.requires.started.identifier)

pub count_stored-count-requires-clause-to : goal.count_stored-count-requires-clause-to
count_stored-count-requires-clause-to g c =
    let same : c.complete.new.self.books ≡ c.args.self.now.books = search rules in
    rw same (ascending_below 0 (committee_size (world_of c.args.self.now).log.f) c.args.to.now c.requires.shards)

pub count_stored-count-requires-clause-few : goal.count_stored-count-requires-clause-few
count_stored-count-requires-clause-few g c =
    omega (arith, c.requires.started.few, ascending_few 0 (committee_size (world_of c.args.self.now).log.f) c.args.to.now c.requires.shards (omega arith))

pub returns-in-Some-clause-step : goal.returns-in-Some-clause-step
returns-in-Some-clause-step g c =
    put_clashes g.H.Hash32.digest (world_of c.args.self.now) (world_of c.put_messages.new.self) c.args.blob.now c.args.to.now
    c.args.write.now.id (messages_of c.args.write.now) c.writing_side-at.result (search rules) c.requires.started.message c.in-Some.clash (search rules)

pub returns-in-Some-2-clause-step : goal.returns-in-Some-2-clause-step
returns-in-Some-2-clause-step g c =
    let copied : c.from_vec-copy.result ≡ c.args.blob.now = c.from_vec-copy.ensures ∙ c.in_ok-from_slice.ensures.items in
    answer_differs g.H.Hash32.digest (world_of c.args.self.now) (world_of c.put_messages.new.self) c.args.blob.now c.args.to.now
    c.args.write.now.id (messages_of c.args.write.now) c.writing_side-at.result (search rules) c.requires.started.message
    (world_of c.complete.new.self) c.in-Some-2.clash (search rules) (rw (← copied) (search rules))

pub returns-clause-step : goal.returns-clause-step
returns-clause-step g c =
    let copied : c.from_vec-copy.result ≡ c.args.blob.now = c.from_vec-copy.ensures ∙ c.in_ok-from_slice.ensures.items in
    let same : c.id-id.result ≡ c.args.write.now.id = search rules in
    rw same (write_done g.H.Hash32.digest (world_of c.args.self.now) (world_of c.put_messages.new.self) c.args.blob.now c.args.to.now
    c.args.write.now.id (messages_of c.args.write.now) c.writing_side-at.result (search rules) c.requires.started.message
    (world_of c.complete.new.self) c.count_stored-count.result (search rules) (rw (← copied, ← same) (search rules)) (search rules))
