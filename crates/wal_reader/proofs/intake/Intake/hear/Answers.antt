use Rattle.wal_reader.proofs.Common.{◌++◌, List, ℕ, refl, ap, arith, envelope}
use Rattle.wal_reader.proofs.IntakeLaws.{ends_kept}
use Rattle.wal_reader.proofs.intake.Intake.hear.Goals as goal

pub returns-clause-takes : goal.returns-clause-takes
returns-clause-takes g c = λ sender.
    let payload = c.args.payload.now in
    ends_kept g.H.Hash32.digest _ _ (envelope sender payload) sender payload c.requires.fits c.requires.kept
    (ap (λ (t : List ℕ). t ++ envelope sender payload) c.requires.none) c.in_ok-hear.ensures.heard c.requires.kept c.requires.none (omega arith) refl
