use Rattle.wal_world.proofs.Common.{Some, refl, ap, ◌∙◌, room_of, shards_with, Serving, no_entries}
use Rattle.wal_world.proofs.Turning.{fresh}
use Rattle.wal_world.proofs.network.Network.with_books.Goals as goal

pub returns : goal.returns
returns g c =
    let rooms = c.in_ok-shards in
    let f = c.f-f.ensures.value in
    fresh c.args.format c.args.serving c.args.few
    (record {
      format = c.args.format;
      books = Some (Serving c.args.serving);
      few = c.args.few;
      sides = record { serving = record { shards = rooms.shards }; next = record { shards = c.new.result } };
      answers = c.new-2.result;
      work = rooms.work;
      buffer = rooms.buffer;
    })
    c.ledger.ensures.serves.serves refl refl refl (rooms.ensures.shards ∙ ap (λ k. shards_with k (λ s. no_entries)) f) c.new.ensures.items c.new-2.ensures.empty
    c.new-2.ensures.ordered (rooms.ensures.work ∙ f) rooms.ensures.empty (rooms.ensures.spare ∙ ap room_of f)
