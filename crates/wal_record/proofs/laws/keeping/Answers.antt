use Rattle.std.proofs.Common.{inl, refl}
use Rattle.wal_record.proofs.Ended.{serves_alike}
use Rattle.wal_record.proofs.Timely.{timely_enter, home_kept}
use Rattle.wal_record.proofs.laws.keeping.Goals as goal

pub returns : goal.returns
returns c = record { alike = serves_alike; start = inl refl; entered = timely_enter; home = home_kept }
