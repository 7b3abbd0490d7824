use Rattle.wal_reader.proofs.Common.{◌≡◌, ◌-◌, ◌≤◌, length, take, refl, arith, length-take-le}
use Rattle.wal_reader.proofs.IntakeLaws.{goes_past, ends_past, moved, sound_empty, taken_bytes}
use Rattle.wal_reader.proofs.intake.Intake.pass.Goals as goal

pub returns-then-self-gt0 : goal.returns-then-self-gt0
returns-then-self-gt0 g c =
    let piece = c.args.piece.now in
    let count = c.min-count.result in
    let le : count ≤ length piece = omega (arith, c.min-count.ensures) in
    let long = length-take-le count piece le in
    moved g.H.Hash32.digest _ _ piece count (omega (arith, c.min-count.ensures, c.requires.past, c.requires.some)) le refl
    (goes_past g.H.Hash32.digest _ _ (take count piece) (taken_bytes count piece (λ i. omega (arith, c.type_inv.piece i))) c.requires.past (omega (arith, long, c.if-self-gt0.true)) c.if-self-gt0.true c.requires.none refl (omega (arith, long)) refl)
    (sound_empty _ c.requires.sound.room (omega (arith, le, c.requires.limit)) c.requires.none) (λ settled. settled)

pub returns : goal.returns
returns g c =
    let piece = c.args.piece.now in
    let count = c.min-count.result in
    let le : count ≤ length piece = omega (arith, c.min-count.ensures) in
    let long = length-take-le count piece le in
    let none : c.args.self.now.missing - count ≡ 0 = omega (arith, c.if-self-gt0.false) in
    moved g.H.Hash32.digest _ _ piece count (omega (arith, c.min-count.ensures, c.requires.past, c.requires.some)) le refl
    (ends_past g.H.Hash32.digest _ _ (take count piece) (taken_bytes count piece (λ i. omega (arith, c.type_inv.piece i))) c.requires.past (omega (arith, long, none, c.min-count.ensures)) none c.requires.none refl (omega (arith, long)) refl)
    (sound_empty _ c.requires.sound.room (omega (arith, le, c.requires.limit)) c.requires.none) (λ settled. settled)
