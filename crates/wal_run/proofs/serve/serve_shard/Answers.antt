use Rattle.wal_run.proofs.Common.{Keeps-refl, Serve, no_memory, serving_ended}
use Rattle.wal_run.proofs.Endings.{kept_few}
use Rattle.wal_run.proofs.serve.serve_shard.Goals as goal

pub returns-in-Ok-create-clause-ends : goal.returns-in-Ok-create-clause-ends
returns-in-Ok-create-clause-ends g c = λ words asked. serving_ended c.args.service.now asked _ c.serve_pool.ensures.ended

pub returns-in-Err-clause-ends : goal.returns-in-Err-clause-ends
returns-in-Err-clause-ends g c = λ words asked. no_memory (Serve c.args.service.now) asked (kept_few _ _ 0 (Keeps-refl _)) (Keeps-refl _)

pub returns-in_default-clause-ends : goal.returns-in_default-clause-ends
returns-in_default-clause-ends g c = λ words asked. no_memory (Serve c.args.service.now) asked (kept_few _ _ 0 (Keeps-refl _)) (Keeps-refl _)
