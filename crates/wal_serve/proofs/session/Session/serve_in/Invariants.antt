-- Whole envelopes were taken and answered, both rooms are as at first, and no count fell.
use Rattle.wal_serve.proofs.Common.{◌≡◌, ◌-◌, ◌≤◌, AnswersRequest, IsServing, Stays, served}
use Rattle.wal_serve.specs.inside.Room.{room_in}
use Rattle.wal_serve.proofs.session.Session.serve_in.Given as goal

abbrev pub invariant-envelopes : goal.invariant-envelopes
invariant-envelopes g l = record {
  within : l.taken ≤ l.limit;
  held : l.buffer.room ≡ l.initial.buffer.room;
  room : room_in l.out ≡ room_in l.initial.out;
  stays : Stays l.initial.self l.self;
  source : g.S.Source.faults l.initial.source ≤ g.S.Source.faults l.source;
  sink : g.T.Sink.faults l.initial.sink ≤ g.T.Sink.faults l.sink;
  so_far : IsServing (AnswersRequest g.H.Hash32.digest g.K.Keep.may_want) l.initial.buffer.room l.initial.self.shard.now.index
      (served l.initial.self) (served l.self) (g.S.Source.left l.initial.source) (g.S.Source.left l.source)
      (g.T.Sink.written l.initial.sink) (g.T.Sink.written l.sink) l.taken;
}

abbrev pub decreases-envelopes : goal.decreases-envelopes
decreases-envelopes g l = l.limit - l.taken
