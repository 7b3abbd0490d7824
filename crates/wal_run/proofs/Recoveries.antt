-- What openings come to is one result of the command that recovers.
use Rattle.wal_run.proofs.Common.{◌≡◌, ℕ, List, length, arith, inl, refl, Axis, BlobId, openings_in, Recovered, Inconsistent, Short, OpeningsComeTo, metadata_fits, Recorded, Told, lacks, rejects, succeeds, proof_of, recovering, recovered_status, recovered_text}
use Rattle.wal_recover.specs.declared.outcome.Recovered.TheVariants.{Sliver}
use Rattle.wal_recover.proofs.OneRecovery.{one_recovery}
use Rattle.wal_run.proofs.CommandLaws.{Determined, ToldBy, one_by, told_so}

module _ (digest : List ℕ → List ℕ) (id : BlobId) (axis : Axis) (index : ℕ) (r : Recorded) where
  abbrev Comes : Recovered → Type 0
  Comes o = OpeningsComeTo digest r.metadata axis index (openings_in id.0 axis index r.payloads) o

  -- what a recovery comes to is the result
  recovered_is : (o : Recovered) → Comes o → Told digest (recovering digest id axis index) r (recovered_status o) (recovered_text id.0 r.metadata.f axis index o)
  recovered_is (Sliver bytes) is = succeeds _ (bytes, is, refl)
  recovered_is (Inconsistent p) is = rw is.comes.0 (rejects _ (is.taken, is.takes, rw is.comes.0 at is.comes.1, refl))
  recovered_is (Short count) is = rw is.comes.0 (lacks _ (is.taken, is.takes, rw is.comes.0 at is.comes.1, refl))

  -- the status and the text of what is recovered are what `recover` tells
  pub recovered_as : (o : Recovered) → Comes o → (s : ℕ) (text : List ℕ) → s ≡ recovered_status o → text ≡ recovered_text id.0 r.metadata.f axis index o
      → Told digest (recovering digest id axis index) r s text
  recovered_as o is s text status line = rw (status, line) (recovered_is o is)

  -- a result is that of a recovery
  recovery_of : (s : ℕ) (x : List ℕ) → Told digest (recovering digest id axis index) r s x → ToldBy Comes recovered_status (recovered_text id.0 r.metadata.f axis index) s x
  recovery_of _ _ (succeeds text is) = (Sliver is.0, is.1, refl, is.2)
  recovery_of _ _ (rejects text is) =
      (Inconsistent (proof_of axis index is.0), record { taken = is.0; takes = is.1; comes = (refl, is.2) }, refl, is.3)
  recovery_of _ _ (lacks text is) =
      (Short (length is.0), record { taken = is.0; takes = is.1; comes = (refl, is.2) }, refl, is.3)
  recovery_of s x told = absurd (grind (arith, told_so digest (recovering digest id axis index) r s x told))

pub recovered_once : (digest : List ℕ → List ℕ) (id : BlobId) (axis : Axis) (index : ℕ) → Determined digest (recovering digest id axis index)
recovered_once digest id axis index input r spells s x t y a b =
    let shape = (metadata_fits digest id.0 r.payloads r.metadata spells.1.0).shape in
    one_by (Comes digest id axis index r) recovered_status (recovered_text id.0 r.metadata.f axis index)
    (λ o p is also. rw (one_recovery digest r.metadata axis index (openings_in id.0 axis index r.payloads) shape o p is also) (refl, inl refl))
    (recovery_of digest id axis index r s x a) (recovery_of digest id axis index r t y b)
