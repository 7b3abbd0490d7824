use Rattle.wal_reader.proofs.Common.{◌+◌, ◌<◌, length, refl, arith, row_count, ◌≡◌}
use Rattle.wal_reader.proofs.Answered.{refuted, settled, short}
use Rattle.wal_reader.proofs.Collections.{collects_counted, held_as}
use Rattle.wal_reader.proofs.closing.answer_one.Goals as goal

pub overflow_cast-have : goal.overflow_cast-have
overflow_cast-have g c =
    let k = c.args.known in
    let few = collects_counted g.H.Hash32.digest c.requires.0 k.metadata c.requires.1 k.collected.indices.items
    k.collected.joined.items c.requires.2.0 c.requires.2.1.slivers in
    omega (arith, few, c.len-have.ensures)

pub from_slivers-requires-clause-held : goal.from_slivers-requires-clause-held
from_slivers-requires-clause-held g c =
    let k = c.args.known in
    let need = rw c.view.ensures.value at c.f-need.ensures.value in
    held_as g.H.Hash32.digest c.requires.0 k.metadata c.requires.1 k.collected.indices.items k.collected.joined.items
    _ _ _ c.requires.2.1.slivers (omega (arith, need, c.if-need-have.true, c.len-have.ensures)) refl refl refl

pub returns-then-need-have : goal.returns-then-need-have
returns-then-need-have g c = λ id payloads was.
    let k = c.args.known in
    settled g.H.Hash32.digest id k.metadata payloads k.collected.indices.items k.collected.joined.items k.metadata
    k.collected.indices.items k.collected.joined.items c.from_slivers.result was.0 was.1.slivers
    (omega (arith, rw c.view.ensures.value at c.f-need.ensures.value, c.if-need-have.true, c.len-have.ensures))
    refl refl refl c.from_slivers.ensures

pub from_proof-requires-clause-held : goal.from_proof-requires-clause-held
from_proof-requires-clause-held g c =
    let need = rw c.view.ensures.value at c.f-need.ensures.value in
    (rw c.in-Some.is at (c.requires.2.1.proof (omega (arith, need, c.if-need-have.false, c.len-have.ensures)))).4.1

pub returns-in-Some : goal.returns-in-Some
returns-in-Some g c = λ id payloads was.
    let k = c.args.known in
    let less : length k.collected.indices.items < row_count k.metadata.f =
    omega (arith, rw c.view.ensures.value at c.f-need.ensures.value, c.if-need-have.false, c.len-have.ensures) in
    refuted g.H.Hash32.digest id k.metadata payloads (length k.collected.indices.items) c.in-Some.p k.metadata
    c.in-Some.p c.from_proof.result was.0
    (k.collected.indices.items, k.collected.joined.items, was.1.slivers, refl, less)
    (rw c.in-Some.is at (was.1.proof less)) refl refl c.from_proof.ensures

pub returns-in-None : goal.returns-in-None
returns-in-None g c = λ id payloads was.
    let k = c.args.known in
    let need = rw c.view.ensures.value at c.f-need.ensures.value in
    let less : length k.collected.indices.items < row_count k.metadata.f =
    omega (arith, need, c.if-need-have.false, c.len-have.ensures) in
    let have : c.len-have.result ≡ length k.collected.indices.items = omega (arith, c.len-have.ensures) in
    short g.H.Hash32.digest id k.metadata payloads c.len-have.result (c.f-need.result + 1) c.without_evidence.result
    was.0 (k.collected.indices.items, k.collected.joined.items, was.1.slivers, have, omega (arith, less, have))
    (omega (arith, need)) (rw c.in-None.is at (was.1.proof less)) c.without_evidence.ensures
