-- The status and the numbers follow from the run's status and the count of its text.
use Rattle.walrus_c.proofs.Common.{◌<◌, ◌^◌, length, refl, rules}
use Rattle.walrus_c.proofs.Calls.{refused, returned}
use Rattle.walrus_c.proofs.walrus_run.Goals as goal

pub returns-in-Ok : goal.returns-in-Ok
returns-in-Ok c =
    let fits : length c.args.output.now < 2 ^ 63 = search rules in
    returned _ _ _ _ _ c.in-Ok.ensures.words c.run_over-ended.ensures refl fits c.min.ensures c.status_told.ensures.fits
    c.status_told.ensures.no_room c.status_told.ensures.no_memory

pub returns-in-Err : goal.returns-in-Err
returns-in-Err c = refused (record { same = refl; written_is = refl; needed_is = refl }) c.in-Err.ensures.refused
