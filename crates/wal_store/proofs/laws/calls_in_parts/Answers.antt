use Rattle.wal_store.proofs.CallLaws.{ends_after_calls, after_calls-append, lawful-append}
use Rattle.wal_store.proofs.laws.calls_in_parts.Goals as goal

pub returns : goal.returns
returns c = record { ends = ends_after_calls; parts = after_calls-append; lawful = lawful-append }
