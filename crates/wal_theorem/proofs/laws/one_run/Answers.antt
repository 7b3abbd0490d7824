use Rattle.wal_theorem.proofs.Common.{first_state, rules_of, one_run, one_step}
use Rattle.wal_theorem.proofs.OneWorld.{only_rules}
use Rattle.wal_theorem.proofs.laws.one_run.Goals as goal

pub returns : goal.returns
returns g c = record {
  step = λ f old event a b x y p q. one_step (rules_of g.H.Hash32.digest f) (only_rules g.H.Hash32.digest f) old event a b x y p q;
  run = λ s some others xs ys p q. one_run (rules_of g.H.Hash32.digest s.f) (only_rules g.H.Hash32.digest s.f) s.events some others xs ys (first_state s) p q;
}
