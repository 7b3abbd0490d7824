use Rattle.wal_run.proofs.Common.{◌∙◌, refl, success}
use Rattle.wal_run.proofs.Says.{no_memory}
use Rattle.wal_run.proofs.identify.identify.Goals as goal

pub returns-in_err-id : goal.returns-in_err-id
returns-in_err-id g c = no_memory _ _ c.from_residual.ensures.1

pub returns-in_err-line : goal.returns-in_err-line
returns-in_err-line g c = no_memory _ _ c.from_residual-in_err-line.ensures.1

pub returns : goal.returns
returns g c =
    let id = rw c.shape_of-shape.ensures at c.in_ok-id.ensures.identifier in
    success _ (c.args.blob.now, refl, (c.in_ok-id.id.0, id, c.from_vec.ensures ∙ c.in_ok-line.ensures.items ∙ c.identifier_line.ensures))
