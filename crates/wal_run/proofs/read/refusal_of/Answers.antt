use Rattle.wal_run.proofs.Common.{inl, refl, unreadable}
use Rattle.wal_run.proofs.read.refusal_of.Goals as goal

pub returns-in-Malformed : goal.returns-in-Malformed
returns-in-Malformed g c = λ id stream finishes other.
    unreadable _ (inl (c.in-Malformed.place, rw c.in-Malformed.is at finishes, refl))
