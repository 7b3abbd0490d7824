use Rattle.wal_fft.proofs.Common.{◌^◌, ◌≤◌, arith, pow_mono}
use Rattle.wal_fft.proofs.levels.points.Goals as goal

pub returns-clause-few : goal.returns-clause-few
returns-clause-few c =
    let most : 2 ^ c.args.level ≤ 2 ^ 10 = pow_mono c.requires in
    omega arith
