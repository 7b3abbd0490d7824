use Rattle.wal_reader.proofs.Common.{None, refl}
use Rattle.wal_reader.proofs.KnownLaws.{parts_none}
use Rattle.wal_reader.proofs.known.known_of.Goals as goal

pub returns-clause-nothing : goal.returns-clause-nothing
returns-clause-nothing c = λ digest id.
    parts_none digest id
    (record { metadata = c.in_ok-of.field-0; work = c.in_ok-create.field-0; collected = record { indices = c.in_ok-with_capacity.field-0; joined = c.in_ok-with_capacity-2.field-0 }; proof = None })
    (rw (c.in_ok-create.ensures.f, c.f-2.ensures.value, c.in_ok-of.ensures))
    c.in_ok-with_capacity.ensures.items c.in_ok-with_capacity-2.ensures.items refl
