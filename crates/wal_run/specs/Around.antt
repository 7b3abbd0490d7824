-- What a call sees of its surroundings.
use Rattle.std.specs.Prelude.{ℕ, List, Option}
use Rattle.wal_port.specs.Faults.{Rose}
use Rattle.wal_port.specs.declared.ports.Source as source
use Rattle.wal_port.specs.declared.ports.Sink as sink

-- what a call sees of its source and its sink, before and after it
pub record Around : Type 1 where
  -- the bytes that the source had left, and has left, if it tells them
  pub left : Option (List ℕ)
  pub after : Option (List ℕ)
  -- its count of faults rose
  pub SourceRose : Type 0
  -- the bytes that stood in the sink, and stand there, if it tells them
  pub old : Option (List ℕ)
  pub new : Option (List ℕ)
  -- its count of faults rose
  pub SinkRose : Type 0

-- what is seen of a source and a sink, before and after
abbrev pub seen : {S K : Type 0} → source.Ghosts S → S → S → sink.Ghosts K → K → K → Around
seen source_ghosts before after sink_ghosts old new = record {
  left = source_ghosts.left before;
  after = source_ghosts.left after;
  SourceRose = Rose (source_ghosts.faults before) (source_ghosts.faults after);
  old = sink_ghosts.written old;
  new = sink_ghosts.written new;
  SinkRose = Rose (sink_ghosts.faults old) (sink_ghosts.faults new);
}
