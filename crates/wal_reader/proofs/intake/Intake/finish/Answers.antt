use Rattle.wal_reader.proofs.Common.{◌≡◌, ◌∙◌, vec_len, sym, arith, eqb-true, nil_from_length, shown}
use Rattle.wal_reader.proofs.StandingLaws.{past_malformed, finishes_whole}
use Rattle.wal_reader.proofs.intake.Intake.finish.Goals as goal

pub returns-then-missing-gt0-clause-finishes : goal.returns-then-missing-gt0-clause-finishes
returns-then-missing-gt0-clause-finishes g c = λ id stream s. past_malformed g.H.Hash32.digest id (shown c.args.self) stream c.if-missing-gt0.true s

pub returns-then-is_empty-clause-finishes : goal.returns-then-is_empty-clause-finishes
returns-then-is_empty-clause-finishes g c = λ id stream s.
    let none : c.args.self.missing ≡ 0 = omega (arith, c.if-missing-gt0.false) in
    let zero = eqb-true (vec_len c.args.self.kept) 0 (sym c.is_empty.ensures ∙ c.if-is_empty.true) in
    let empty = nil_from_length c.args.self.kept.items (omega (arith, zero, c.args.self.kept.ok.0)) in
    finishes_whole g.H.Hash32.digest id (shown c.args.self) stream c.answer_of.result none empty (c.answer_of.ensures.answer id) c.answer_of.ensures.memory s
