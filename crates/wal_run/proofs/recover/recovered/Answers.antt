-- What was recovered is not long.
use Rattle.wal_run.proofs.Common.{metadata_shown, ◌≡◌, ℕ, zero, suc, ◌+◌, ◌*◌, ◌≤◌, List, [], ◌∷◌, All, length, length-append, refl, arith, AllByRecursion, flat_map, Axis, Primary, Secondary, IsShape, column_count, sliver_symbols, symbol_size, most_bytes, BlobMetadata, IsBody, body_text, proof_text, EncodingProof, IsProof, Recovered, Inconsistent, Short, HasCommittedSliver, OpeningsComeTo, Fits}
use Rattle.wal_shape.specs.declared.opening.Opening.{Opening}
use Rattle.wal_shape.proofs.BodyLaws.{length-body_text}
use Rattle.wal_recover.specs.declared.outcome.Recovered.TheVariants.{Sliver}
use Rattle.wal_run.proofs.ShardTexts.{sliver_fits}
use Rattle.wal_run.proofs.recover.recovered.Goals as goal

-- the bodies of openings whose symbols have so many bytes
bodies_long : (s : ℕ) (os : List Opening) → All (λ (o : Opening). length o.symbol ≡ s) os → AllByRecursion IsBody os
    → length (flat_map body_text os) ≤ length os * (327 + s)
bodies_long s [] sizes bodies = omega arith
bodies_long s (o ∷ os) sizes bodies =
    let more : suc (length os) * (327 + s) ≡ 327 + s + length os * (327 + s) = omega arith in
    omega (
      arith,
      bodies_long s os (λ k d below. sizes (suc k) d (omega (arith, below))) bodies.1,
      length-body_text o,
      bodies.0.path,
      length-append (body_text o) (flat_map body_text os),
      sizes zero o (omega arith),
      more,
    )

proof_long : (s : ℕ) (p : EncodingProof) → All (λ (o : Opening). length o.symbol ≡ s) p.openings → IsProof p → length p.openings * s ≤ most_bytes
    → length (proof_text p) ≤ 33554432
unfolding proof_text
proof_long s p sizes is small =
    let parts : length p.openings * (327 + s) ≡ 327 * length p.openings + length p.openings * s = omega arith in
    omega (arith, bodies_long s p.openings sizes is.bodies, parts, small, is.count)

symbols_few : (axis : Axis) (f : ℕ) → sliver_symbols axis f ≤ column_count f
symbols_few Primary f = omega arith
symbols_few Secondary f = omega arith

-- what openings come to has an envelope
recovery_fits : (digest : List ℕ → List ℕ) (m : BlobMetadata) (axis : Axis) (index : ℕ) (openings : List Opening) (r : Recovered) → IsShape m.f m.length
    → OpeningsComeTo digest m axis index openings r → HasCommittedSliver digest m axis index r → Fits r
recovery_fits digest m axis index openings (Sliver bytes) shape recovery committed =
    sliver_fits m.f m.length (sliver_symbols axis m.f) (length bytes) shape (symbols_few axis m.f) committed.size
recovery_fits digest m axis index openings (Inconsistent p) shape recovery committed = λ is.
    let bad = recovery.comes.1 in
    let few : length p.openings ≤ column_count m.f = omega (arith, symbols_few p.axis m.f, bad.line.enough.count) in
    let s = symbol_size m.f m.length in
    let small : length p.openings * s ≤ most_bytes = sliver_fits m.f m.length (length p.openings) (length p.openings * s) shape few refl in
    proof_long s p (λ k d below. (bad.line.enough.held k d below).size) is small
recovery_fits digest m axis index openings (Short count) shape recovery committed = tt

pub returns-clause-fits : goal.returns-clause-fits
returns-clause-fits g c =
    recovery_fits g.H.Hash32.digest (metadata_shown c.args.m) c.args.axis c.args.index _ _ c.f.ensures.metadata.shape c.in_ok-recovery.ensures.recovery
    c.in_ok-recovery.ensures.committed
