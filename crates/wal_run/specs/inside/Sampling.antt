-- What serves private functions and proofs beside Sampling.
use Rattle.std.specs.Prelude.{◌≡◌, ℕ, List}
use Rattle.wal_world.specs.declared.summary.Summed.{Summed}
use Rattle.wal_world.specs.declared.summary.Summed.TheVariants as summed
use Rattle.wal_run.specs.Lines.{collision_text}
use Rattle.wal_run.specs.Sampling.{summary_text}

-- the status and the text of the result of a run
abbrev pub IsSumText : Summed → ℕ → List ℕ → Type 0
IsSumText (summed.Whole summary) status text = (status ≡ 0) × (text ≡ summary_text summary)
IsSumText (summed.Collision clash) status text =
    (status ≡ 10) × (text ≡ collision_text clash.left clash.right)
