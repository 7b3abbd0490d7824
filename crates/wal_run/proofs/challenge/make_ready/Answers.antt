use Rattle.wal_run.proofs.Common.{arith, inl, inr, refl, lacks}
use Rattle.wal_run.proofs.challenge.make_ready.Goals as goal

pub returns-in_default-clause-refusal : goal.returns-in_default-clause-refusal
returns-in_default-clause-refusal g c = λ other. lacks _ (inr (inl (c.requires.shard, c.in_default.ensures.none, refl)))

pub returns-in_default-own_sliver-clause-refusal : goal.returns-in_default-own_sliver-clause-refusal
returns-in_default-own_sliver-clause-refusal g c = λ other.
    lacks _ (inr (inr (c.requires.shard, (c.in-Some.primary.now, c.in-Some.ensures.own), c.in_default-own_sliver.ensures.none, refl)))

pub create-requires-clause-slivers : goal.create-requires-clause-slivers
create-requires-clause-slivers g c = record { primary_held = c.in-Some.ensures.own.4.1; secondary_held = c.in-Some-own_sliver.ensures.own.4.1 }

pub returns-clause-ready : goal.returns-clause-ready
returns-clause-ready g c = record {
  shard = c.requires.shard;
  primary = c.in-Some.primary.now;
  primary_own = c.in-Some.ensures.own;
  secondary = c.in-Some-own_sliver.secondary.now;
  secondary_own = c.in-Some-own_sliver.ensures.own;
  words_of = c.in_ok-create.ensures.words;
  room = rw c.in_ok-create-2.ensures (omega (arith, rw c.shape.ensures.value at c.symbol_size.ensures.value));
}
