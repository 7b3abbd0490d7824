use Rattle.wal_reader.proofs.Common.{◌≡◌, ◌+◌, ◌∷◌, drop, ◌∙◌, drop_more, drop_all}
use Rattle.wal_reader.proofs.SiftLaws.{reaches_all, reaches_more, reaches_none}
use Rattle.wal_reader.proofs.known.known_from.Goals as goal

pub loop-part-init : goal.loop-part-init
loop-part-init g c =
    record {
      metadata = c.in_ok-known.ensures.metadata;
      f = c.in_ok-known.ensures.f;
      parts = λ payloads sifts.
          reaches_none g.H.Hash32.digest c.args.id.now.0 c.in_ok-known.known c.args.parts.now payloads (c.in_ok-known.ensures.nothing g.H.Hash32.digest c.args.id.now.0) sifts;
    }

pub loop-part-preserved : goal.loop-part-preserved
loop-part-preserved g c =
    let parts = c.args.parts.now in
    let i = c.loop-part.part-index in
    let left : drop i parts ≡ c.as_slice.result.now ∷ drop (i + 1) parts =
    cc (drop_more parts i c.as_slice.result.now c.loop-part-test.true, c.as_slice.ensures, c.part-item.is) in
    record {
      metadata = c.take_part.ensures.metadata ∙ c.loop-part.invariant.metadata;
      f = c.take_part.ensures.f;
      parts = λ payloads sifts.
          reaches_more g.H.Hash32.digest c.args.id.now.0 c.loop-part.known c.take_part.new.known c.as_slice.result.now
          (drop (i + 1) parts) payloads c.in_ok-take_part.ensures.taken
          (rw left at (c.loop-part.invariant.parts payloads sifts));
    }

pub returns-clause-parts : goal.returns-clause-parts
returns-clause-parts g c = λ payloads sifts.
    reaches_all g.H.Hash32.digest c.args.id.now.0 c.loop-part.known payloads
    (rw (drop_all _ _ c.loop-part-test.false) at (c.loop-part.invariant.parts payloads sifts))
