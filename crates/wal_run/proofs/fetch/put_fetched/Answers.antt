use Rattle.wal_run.proofs.Common.{Keeps-refl, out_of_memory, performed}
use Rattle.wal_run.proofs.fetch.put_fetched.Goals as goal

pub returns-in-Ok-clause-does : goal.returns-in-Ok-clause-does
returns-in-Ok-clause-does g c = λ payloads is. c.put_answers.ensures.does c.args.capacity c.in-Ok.ensures payloads is

pub returns-in-Err-clause-does : goal.returns-in-Err-clause-does
returns-in-Err-clause-does g c = λ payloads is. performed _ (out_of_memory (Keeps-refl _))
