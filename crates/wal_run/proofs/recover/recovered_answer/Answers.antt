use Rattle.wal_run.proofs.Common.{ℕ, refl, ap, short_text}
use Rattle.wal_run.proofs.recover.recovered_answer.Goals as goal

pub returns-in-Short : goal.returns-in-Short
returns-in-Short c = rw c.in-Short.is (λ f need other. (refl, ap (λ (k : ℕ). short_text c.in-Short.have k) need))
