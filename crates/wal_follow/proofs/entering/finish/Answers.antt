use Rattle.std.proofs.Common.{arith}
use Rattle.wal_ledger.specs.declared.entry.Body.TheVariants.{Finish}
use Rattle.wal_record.specs.Context.{turn}
use Rattle.wal_record.specs.Told.{context_told}
use Rattle.wal_follow.proofs.Entries.{fit_of}
use Rattle.wal_follow.proofs.entering.finish.Goals as goal

pub returns-clause-fits : goal.returns-clause-fits
returns-clause-fits c = fit_of _ (turn (context_told c.args.epoch.now) Finish) c.finish.ensures c.requires.faults (omega (arith, c.requires.epochs)) c.requires.owned
